use Rattle.std.proofs.Common.{◌∙◌, ap, sym, subst}
use Rattle.std.specs.List.{AllByRecursion}
use Rattle.store_index.specs.Steps.{change_of}
use Rattle.mbx_store.specs.Places.{IsNear}
use Rattle.mbx_store.specs.Plans.{unmarked_places, left_places}
use Rattle.mbx_store.proofs.Leaving.{left_have, unmarked_have}
use Rattle.mbx_store.proofs.plan.plan_step.Goals as goal

pub plan_over-requires-clause-near : goal.plan_over-requires-clause-near
plan_over-requires-clause-near c = subst (AllByRecursion IsNear) (sym (c.as_slice.ensures.value ∙ c.in_ok-left.ensures)) (left_have IsNear (change_of c.args.step) c.args.olds.now c.requires.near)

pub plan_over-requires-then-whole-gt-FILE_LIMIT-clause-near : goal.plan_over-requires-then-whole-gt-FILE_LIMIT-clause-near
plan_over-requires-then-whole-gt-FILE_LIMIT-clause-near c =
    subst (AllByRecursion IsNear) (sym (c.as_slice-then-whole-gt-FILE_LIMIT-2.ensures.value ∙ c.in_ok-left-2.ensures ∙ ap unmarked_places (c.as_slice-then-whole-gt-FILE_LIMIT.ensures.value ∙ c.in_ok-left.ensures)))
    (unmarked_have IsNear (left_places (change_of c.args.step) c.args.olds.now) (left_have IsNear (change_of c.args.step) c.args.olds.now c.requires.near))
