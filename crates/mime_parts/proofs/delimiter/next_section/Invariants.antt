use Rattle.std.proofs.Common.{length}
use Rattle.mime_parts.proofs.Tails.{Passed}
use Rattle.mime_parts.proofs.delimiter.next_section.Given as goal

abbrev pub invariant-loop-next : goal.invariant-loop-next
invariant-loop-next l = Passed l.boundary l.text l.tail l.left

abbrev pub decreases-loop-next : goal.decreases-loop-next
decreases-loop-next l = length l.left.marks.now
