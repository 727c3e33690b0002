use Rattle.std.proofs.Common.{◌∙◌, ◌≤◌, sym, length, subst, rules}
use Rattle.std.specs.List.{AllByRecursion}
use Rattle.mail_fields.specs.Keyword.{IsKeyword}
use Rattle.store_index.specs.Steps.{change_of}
use Rattle.mbx_store.proofs.RewriteCode.{spans_now, rewritten_now}
use Rattle.mbx_store.proofs.layout.MbxLayoutLayout.rewrite.Goals as goal

pub write_plan-requires-clause-stands : goal.write_plan-requires-clause-stands
write_plan-requires-clause-stands g c = spans_now c.args.path.now c.args.self.now c.args.told.now _ (change_of c.args.step) c.args.next.now.infos c.in-Ok.planned.0 _ c.requires.stands c.in-Ok.ensures.plan

pub returns-in-Ok-write_plan-clause-rewritten : goal.returns-in-Ok-write_plan-clause-rewritten
returns-in-Ok-write_plan-clause-rewritten g c =
    rewritten_now c.args.path.now c.args.told.now c.args.next.now c.in-Ok-write_plan.bytes.items c.args.self.now c.in-Ok.planned.1 _ c.first_names-words.result.now (change_of c.args.step) c.in-Ok.planned.0 _ _ c.requires.next
    (subst (AllByRecursion IsKeyword) c.words.ensures c.see_names.ensures) (λ few. c.first_names-words.ensures.all (subst (λ w. length w ≤ 30) (sym c.words-2.ensures) few) ∙ c.words-2.ensures) (search rules) c.added_by.ensures c.requires.can c.requires.none
    c.in-Ok.ensures.plan c.in-Ok.ensures.places c.requires.stands c.in-Ok-write_plan.ensures.bytes
