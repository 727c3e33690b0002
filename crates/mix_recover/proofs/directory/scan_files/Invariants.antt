use Rattle.std.proofs.Common.{◌≡◌, ◌≢◌, ◌≤◌, map, take}
use Rattle.std.specs.Prelude.{All}
use Rattle.mix_data.specs.Scans.{PlacesRise}
use Rattle.mix_recover.proofs.Files.{AreScanned, ReadsSome}
use Rattle.mix_recover.proofs.directory.scan_files.Given as goal

abbrev pub invariant-loop-number : goal.invariant-loop-number
invariant-loop-number g l = record {
  history : g.F.Files.history l.files ≡ g.F.Files.history l.fn.files;
  scanned : AreScanned l.dir l.scans.items l.number-index (g.F.Files.history l.fn.files);
  numbers : map (λ s. s.number) l.scans.items ≡ take l.number-index l.numbers;
  places : All (λ each. PlacesRise each.scan.records.items) l.scans.items;
  uids : All (λ each. All (λ p. p.head.uid ≢ 0) each.scan.records.items) l.scans.items;
  hear : (g.F.Files.faults l.files).hear ≡ (g.F.Files.faults l.fn.files).hear;
  say : (g.F.Files.faults l.files).say ≡ (g.F.Files.faults l.fn.files).say;
  file : (g.F.Files.faults l.files).file ≡ (g.F.Files.faults l.fn.files).file;
  more : (g.F.Files.faults l.fn.files).read ≤ (g.F.Files.faults l.files).read;
  reads : ReadsSome l.dir (g.F.Files.faults l.fn.files).read (g.F.Files.faults l.files).read l.number-index (g.F.Files.history l.fn.files);
}
