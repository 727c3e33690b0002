use Rattle.std.proofs.Common.{◌≡◌, ◌≤◌, length, take}
use Rattle.file_model.specs.Disk.{durable_by}
use Rattle.mem_host.specs.Remains.{operations_of}
use Rattle.mem_host.proofs.remains.durable_count.Given as goal

abbrev pub invariant-loop-at : goal.invariant-loop-at
invariant-loop-at l = record {
  count : l.count ≡ length (durable_by l.dir (operations_of (take l.at l.pending)));
  within : l.count ≤ l.at;
}
