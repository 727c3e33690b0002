use Rattle.std.proofs.Common.{◌≡◌, length}
use Rattle.text_search.specs.Needles.{is_inside}
use Rattle.text_search.proofs.needle.contains.Given as goal

abbrev pub invariant-loop-rest : goal.invariant-loop-rest
invariant-loop-rest l = is_inside l.fn.needle l.rest ≡ is_inside l.fn.needle l.text

abbrev pub decreases-loop-rest : goal.decreases-loop-rest
decreases-loop-rest l = length l.rest
