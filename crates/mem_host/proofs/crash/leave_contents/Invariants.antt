use Rattle.std.proofs.Common.{◌≡◌}
use Rattle.file_model.specs.Disk.{Disk}
use Rattle.mem_host.specs.Drafts.{AreDrafts}
use Rattle.mem_host.specs.Crashes.{pick_before, bytes_left}
use Rattle.mem_host.specs.Finding.{AreContents}
use Rattle.mem_host.proofs.crash.leave_contents.Given as goal

abbrev pub invariant-loop-file : goal.invariant-loop-file
invariant-loop-file l = (disk : Disk) → AreDrafts l.files disk → AreContents l.contents.items l.file-index (bytes_left disk.files l.pick) × (l.left ≡ pick_before disk.files l.pick l.file-index)
