use Rattle.std.proofs.Common.{◌≡◌, ◌≤◌, take, map, false}
use Rattle.std.specs.Prelude.{string_bytes}
use Rattle.file_model.specs.Histories.{Ran, Ended}
use Rattle.file_model.specs.Kept.{Keeps, KeepsDirectories}
use Rattle.mail_tree.specs.Deleting.{Cleared, is_one_of}
use Rattle.mail_tree.proofs.emptying.remove_files.Given as goal

abbrev pub invariant-loop-path : goal.invariant-loop-path
invariant-loop-path g l = record {
  cleared : Ended (Cleared (map string_bytes (take l.path-index l.paths))) (g.F.Files.history l.fn.files) (g.F.Files.history l.files);
  directories : Ran KeepsDirectories (g.F.Files.history l.fn.files) (g.F.Files.history l.files);
  kept : Ran (Keeps (λ q. is_one_of (map string_bytes l.paths) q ≡ false)) (g.F.Files.history l.fn.files) (g.F.Files.history l.files);
  hear : (g.F.Files.faults l.files).hear ≡ (g.F.Files.faults l.fn.files).hear;
  say : (g.F.Files.faults l.files).say ≡ (g.F.Files.faults l.fn.files).say;
  read : (g.F.Files.faults l.fn.files).read ≤ (g.F.Files.faults l.files).read;
  file : (g.F.Files.faults l.files).file ≡ (g.F.Files.faults l.fn.files).file;
}
