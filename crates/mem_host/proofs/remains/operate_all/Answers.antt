use Rattle.std.proofs.Common.{take, sym, subst}
use Rattle.file_model.specs.Disk.{all_done}
use Rattle.mem_host.specs.Mirrored.{Shows}
use Rattle.mem_host.specs.Remains.{operations_of}
use Rattle.mem_host.proofs.Remaining.{next_operation}
use Rattle.mem_host.proofs.remains.operate_all.Goals as goal

pub loop-operation-preserved : goal.loop-operation-preserved
loop-operation-preserved c old shows =
    let done = all_done (operations_of (take c.loop-operation.operation-index c.args.operations.now)) old in
    subst (λ l. Shows c.operate.new.names (all_done l old)) (sym (next_operation c.args.operations.now c.loop-operation.operation-index _ c.loop-operation-test.true))
    (c.in_ok-operate.ensures done (c.loop-operation.invariant old shows))
