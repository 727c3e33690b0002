use Rattle.std.proofs.Common.{◌≡◌, ◌++◌, drop}
use Rattle.mbx_store.specs.Plans.{unmarked_places}
use Rattle.mbx_store.proofs.plan.unmarked.Given as goal

abbrev pub invariant-loop-old : goal.invariant-loop-old
invariant-loop-old l = l.left.items ++ unmarked_places (drop l.old-index l.olds) ≡ unmarked_places l.olds
