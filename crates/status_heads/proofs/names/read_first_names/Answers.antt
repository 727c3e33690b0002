use Rattle.std.proofs.Common.{◌≤◌, ◌∙◌, length, subst, sym, ap}
use Rattle.mail_fields.specs.Names.{are_distinct}
use Rattle.status_heads.proofs.FirstNames.{first-may}
use Rattle.status_heads.proofs.names.read_first_names.Goals as goal

pub returns-clause-few : goal.returns-clause-few
returns-clause-few c =
    subst (λ names. length names ≤ 30) (sym c.of.ensures)
    (first-may c.args.value.now c.loop-word.rest.now c.loop-word.names.items c.loop-word.invariant (rw c.in_default.is at c.next_word.ensures.words)).0

pub returns-clause-distinct : goal.returns-clause-distinct
returns-clause-distinct c =
    ap are_distinct c.of.ensures
    ∙ (first-may c.args.value.now c.loop-word.rest.now c.loop-word.names.items c.loop-word.invariant (rw c.in_default.is at c.next_word.ensures.words)).1
