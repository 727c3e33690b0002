use Rattle.std.proofs.Common.{length}
use Rattle.mime_parts.proofs.Readings.{Continues}
use Rattle.mime_parts.proofs.value.languages.Given as goal

abbrev pub invariant-loop-word : goal.invariant-loop-word
invariant-loop-word l = Continues l.value l.tokens.items l.left

abbrev pub decreases-loop-word : goal.decreases-loop-word
decreases-loop-word l = length l.left
