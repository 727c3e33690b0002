use Rattle.std.proofs.Common.{◌≡◌, ◌+◌, ◌-◌, ◌≤◌, take, map, length}
use Rattle.std.specs.Prelude.{string_bytes}
use Rattle.file_model.specs.Disk.{seen}
use Rattle.file_model.specs.Histories.{Now}
use Rattle.mail_tree.specs.Walks.{Walked, covers_names}
use Rattle.mail_tree.proofs.listing.+listing.Given as goal

-- how much longer a path may be, thrice, and the order of the calls for one path
abbrev pub decreases-walk : goal.decreases-walk
decreases-walk g l = (length l.root.now + 257 - length l.dir.now) + (length l.root.now + 257 - length l.dir.now) + (length l.root.now + 257 - length l.dir.now) + 2

abbrev pub decreases-walk_names : goal.decreases-walk_names
decreases-walk_names g l = (length l.root.now + 257 - length l.dir.now) + (length l.root.now + 257 - length l.dir.now) + (length l.root.now + 257 - length l.dir.now) + 1

abbrev pub decreases-walk_one : goal.decreases-walk_one
decreases-walk_one g l = (length l.root.now + 257 - length l.path.now) + (length l.root.now + 257 - length l.path.now) + (length l.root.now + 257 - length l.path.now) + 3

abbrev pub invariant-walk_names-loop-name : goal.invariant-walk_names-loop-name
invariant-walk_names-loop-name g l = record {
  walked : Now (g.F.Files.history l.fn.files) (λ w. Walked l.root l.pattern (covers_names l.dir (map string_bytes (take l.name-index l.names))) (seen w.disk) l.fn.found.entries l.found.entries);
  history : g.F.Files.history l.files ≡ g.F.Files.history l.fn.files;
  hear : (g.F.Files.faults l.files).hear ≡ (g.F.Files.faults l.fn.files).hear;
  say : (g.F.Files.faults l.files).say ≡ (g.F.Files.faults l.fn.files).say;
  read : (g.F.Files.faults l.fn.files).read ≤ (g.F.Files.faults l.files).read;
  file : (g.F.Files.faults l.files).file ≡ (g.F.Files.faults l.fn.files).file;
}
