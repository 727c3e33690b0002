use Rattle.std.proofs.Common.{◌≡◌, ◌≤◌, take, map}
use Rattle.std.specs.Prelude.{string_bytes}
use Rattle.std.specs.List.{list_all}
use Rattle.file_model.specs.Disk.{seen}
use Rattle.file_model.specs.Histories.{Now}
use Rattle.mail_tree.specs.Deleting.{is_left_file}
use Rattle.mail_tree.proofs.emptying.are_left_files.Given as goal

abbrev pub invariant-loop-name : goal.invariant-loop-name
invariant-loop-name g l = record {
  history : g.F.Files.history l.files ≡ g.F.Files.history l.fn.files;
  all : Now (g.F.Files.history l.fn.files) (λ w. list_all (is_left_file (seen w.disk) l.dir) (map string_bytes (take l.name-index l.names)) ≡ l.left);
  hear : (g.F.Files.faults l.files).hear ≡ (g.F.Files.faults l.fn.files).hear;
  say : (g.F.Files.faults l.files).say ≡ (g.F.Files.faults l.fn.files).say;
  read : (g.F.Files.faults l.fn.files).read ≤ (g.F.Files.faults l.files).read;
  file : (g.F.Files.faults l.files).file ≡ (g.F.Files.faults l.fn.files).file;
}
