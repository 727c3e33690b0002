use Rattle.std.proofs.Common.{◌^◌, sym, subst}
use Rattle.std.specs.List.{AllByRecursion}
use Rattle.store_index.specs.Steps.{change_of}
use Rattle.mbx_store.specs.Places.{IsNear}
use Rattle.mbx_store.proofs.Planned.{places_near, plan_spans, new_count, plan_count}
use Rattle.mbx_store.proofs.layout.plan_and_places.Goals as goal

pub plan_step-requires-clause-count : goal.plan_step-requires-clause-count
plan_step-requires-clause-count c = new_count c.args.told.now c.args.next.now (change_of c.args.step) c.requires.next

pub of-requires : goal.of-requires
of-requires c = places_near c.args.names _ c.in_ok-places.places.items _ _ c.in_ok-plan.plan c.in_ok-plan.ensures c.in_ok-places.ensures

pub returns-clause-near : goal.returns-clause-near
returns-clause-near c =
    plan_spans (2 ^ 63) c.args.names (change_of c.args.step) c.places.result.now _ c.in_ok-plan.plan (subst (AllByRecursion IsNear) (sym c.places.ensures.are) c.places.ensures.near) c.in_ok-plan.ensures

pub returns-clause-count : goal.returns-clause-count
returns-clause-count c = plan_count c.args.told.now c.args.next.now c.args.names (change_of c.args.step) _ c.in_ok-plan.plan c.requires.next c.in_ok-plan.ensures
