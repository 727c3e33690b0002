use Rattle.std.proofs.Common.{take}
use Rattle.file_model.specs.Disk.{all_done}
use Rattle.file_model.specs.Images.{Names}
use Rattle.mem_host.specs.Mirrored.{Shows}
use Rattle.mem_host.specs.Remains.{operations_of}
use Rattle.mem_host.proofs.remains.operate_all.Given as goal

abbrev pub invariant-loop-operation : goal.invariant-loop-operation
invariant-loop-operation l = (old : Names) → Shows l.initial.names old → Shows l.names (all_done (operations_of (take l.operation-index l.operations)) old)
