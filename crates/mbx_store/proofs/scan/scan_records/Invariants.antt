use Rattle.std.proofs.Common.{◌-◌, ◌≡◌, ◌≤◌, ◌+◌, ◌*◌, length}
use Rattle.std.specs.List.{AllByRecursion}
use Rattle.file_model.specs.Causes.{OnlyFiles}
use Rattle.file_model.specs.Histories.{Now}
use Rattle.file_store.specs.Scans.{OfFile}
use Rattle.mbx_store.specs.Places.{IsNear}
use Rattle.mbx_store.specs.Scans.{AreFound}
use Rattle.mbx_store.proofs.scan.scan_records.Given as goal

abbrev pub invariant-loop-scan : goal.invariant-loop-scan
invariant-loop-scan g l = record {
  found : OfFile (g.F.Files.history l.fn.files) l.path (λ bytes. AreFound l.names bytes l.scan.at l.scan.places.items l.scan.infos.items);
  few : 2048 + length l.scan.places.items ≤ l.scan.at;
  near : AllByRecursion IsNear l.scan.places.items;
  history : g.F.Files.history l.files ≡ g.F.Files.history l.fn.files;
  counts : OnlyFiles (g.F.Files.faults l.fn.files) (g.F.Files.faults l.files);
  file : (g.F.Files.faults l.files).file ≡ (g.F.Files.faults l.fn.files).file;
  read : Now (g.F.Files.history l.fn.files) (λ w. (g.F.Files.faults l.files).read ≤ (g.F.Files.faults l.fn.files).read + 61 * length l.scan.places.items);
}

abbrev pub decreases-loop-scan : goal.decreases-loop-scan
decreases-loop-scan g l = l.long - l.scan.at
