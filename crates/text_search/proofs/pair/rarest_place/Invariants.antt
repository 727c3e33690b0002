use Rattle.std.proofs.Common.{◌≤◌, length}
use Rattle.text_search.proofs.pair.rarest_place.Given as goal

abbrev pub invariant-loop-end-2 : goal.invariant-loop-end-2
invariant-loop-end-2 l = l.rarest ≤ length l.needle
