use Rattle.std.proofs.Common.{◌≡◌, ◌≤◌, ◌++◌, drop}
use Rattle.mail_types.specs.Lists.{RiseBelow}
use Rattle.mbx_store.specs.Plans.{undropped_places}
use Rattle.mbx_store.proofs.plan.undropped.Given as goal

abbrev pub invariant-loop-old : goal.invariant-loop-old
invariant-loop-old l = record {
  left : l.left.items ++ undropped_places l.number l.rest (drop l.old-index l.olds) ≡ undropped_places 0 l.places l.olds;
  rise : RiseBelow l.number l._count l.rest;
  few : l.number ≤ l.old-index;
}
