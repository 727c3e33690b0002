use Rattle.std.proofs.Common.{◌≡◌, map, drop, take, length}
use Rattle.std.specs.FinMap.{from_entries}
use Rattle.file_model.specs.Disk.{moved_path}
use Rattle.mem_host.specs.Mirrored.{shown, Shows}
use Rattle.mem_host.proofs.names.moved_names.Given as goal

abbrev pub invariant-loop-path : goal.invariant-loop-path
invariant-loop-path l = record {
  left : take (length l.left.items) l.initial.left.items ≡ l.left.items;
  moved : Shows l.moved (from_entries (map (λ e. (moved_path l.from l.to e.0, e.1)) (shown (drop (length l.left.items) l.initial.left.items))));
}

abbrev pub decreases-loop-path : goal.decreases-loop-path
decreases-loop-path l = length l.left.items
