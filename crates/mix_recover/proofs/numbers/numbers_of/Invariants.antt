use Rattle.std.proofs.Common.{◌≡◌, false, string_bytes, map, take}
use Rattle.std.specs.List.{list_any, filter_map}
use Rattle.file_model.specs.Disk.{seen}
use Rattle.file_model.specs.Histories.{Now}
use Rattle.mix_data.specs.DataFiles.{number_at}
use Rattle.mix_recover.specs.Reads.{is_long_at}
use Rattle.mix_recover.proofs.numbers.numbers_of.Given as goal

abbrev pub invariant-loop-name : goal.invariant-loop-name
invariant-loop-name g l = record {
  history : g.F.Files.history l.files ≡ g.F.Files.history l.fn.files;
  numbers : Now (g.F.Files.history l.fn.files) (λ w. l.numbers.items ≡ filter_map (number_at (seen w.disk) l.dir) (take l.name-index (map string_bytes l.names)));
  short : Now (g.F.Files.history l.fn.files) (λ w. list_any (is_long_at (seen w.disk) l.dir) (take l.name-index (map string_bytes l.names)) ≡ false);
  hear : (g.F.Files.faults l.files).hear ≡ (g.F.Files.faults l.fn.files).hear;
  say : (g.F.Files.faults l.files).say ≡ (g.F.Files.faults l.fn.files).say;
  file : (g.F.Files.faults l.files).file ≡ (g.F.Files.faults l.fn.files).file;
  read : (g.F.Files.faults l.files).read ≡ (g.F.Files.faults l.fn.files).read;
}
