use Rattle.std.proofs.Common.{length}
use Rattle.mime_parts.proofs.Readings.{Leaves}
use Rattle.mime_parts.proofs.value.parameters.Given as goal

abbrev pub invariant-loop-params : goal.invariant-loop-params
invariant-loop-params l = Leaves l.text l.params.items l.left

abbrev pub decreases-loop-params : goal.decreases-loop-params
decreases-loop-params l = length l.left
