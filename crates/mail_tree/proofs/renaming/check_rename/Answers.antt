use Rattle.std.proofs.Common.{◌≡◌, sym, ◌∙◌, ap, subst}
use Rattle.std.specs.Prelude.{bytes_eq}
use Rattle.file_model.specs.Disk.{seen}
use Rattle.file_model.specs.Histories.{Now}
use Rattle.any_store.specs.Choice.{formats_of, chosen}
use Rattle.mail_tree.specs.Names.{inbox, IsName}
use Rattle.mail_tree.specs.Renaming.{is_taken}
use Rattle.mail_tree.proofs.RenamedTree.{absent_due, taken_due, none_due}
use Rattle.mail_tree.proofs.renaming.check_rename.Goals as goal

pub returns-then-not-branch-clause-answer : goal.returns-then-not-branch-clause-answer
returns-then-not-branch-clause-answer g c =
    absent_due (formats_of g.S.Store.forms chosen) c.args.root.now c.args.from.now c.args.to.now (subst IsName c.as_slice.ensures.bytes c.as_slice.ensures.name) _
    (ap (λ n. bytes_eq n inbox) (sym c.as_slice.ensures.bytes) ∙ ap (bytes_eq c.as_slice.result.now) (sym c.as_slice-2.ensures) ∙ sym c.eq.ensures ∙ c.if-eq.false)
    (sym c.is_selected_below.ensures ∙ c.if-is_selected_below.false)
    (Unit {0}) c.in_ok-sees_something.field-0 c.if-not-branch.true _ c.in_ok-sees_something.ensures.value (g.met.F.Files.sound c.args.files.now)

pub returns-then-branch-clause-answer : goal.returns-then-branch-clause-answer
returns-then-branch-clause-answer g c =
    taken_due (formats_of g.S.Store.forms chosen) c.args.root.now c.args.from.now c.args.to.now (subst IsName c.as_slice.ensures.bytes c.as_slice.ensures.name) _
    (ap (λ n. bytes_eq n inbox) (sym c.as_slice.ensures.bytes) ∙ ap (bytes_eq c.as_slice.result.now) (sym c.as_slice-2.ensures) ∙ sym c.eq.ensures ∙ c.if-eq.false)
    (sym c.is_selected_below.ensures ∙ c.if-is_selected_below.false) c.in_ok-is_taken.ensures.name
    (Unit {0}) c.in_ok-sees_something.field-0 c.in_ok-is_taken.field-0 c.if-not-branch.false c.if-branch.true _ c.in_ok-sees_something.ensures.value
    (subst (λ h. Now h (λ w. c.in_ok-is_taken.field-0 ≡ is_taken c.args.root.now (seen w.disk) c.args.from.now c.args.to.now)) c.in_ok-sees_something.ensures.history c.in_ok-is_taken.ensures.value)
    (g.met.F.Files.sound c.args.files.now)

pub returns-clause-answer : goal.returns-clause-answer
returns-clause-answer g c =
    none_due (formats_of g.S.Store.forms chosen) c.args.root.now c.args.from.now c.args.to.now (subst IsName c.as_slice.ensures.bytes c.as_slice.ensures.name) _
    (ap (λ n. bytes_eq n inbox) (sym c.as_slice.ensures.bytes) ∙ ap (bytes_eq c.as_slice.result.now) (sym c.as_slice-2.ensures) ∙ sym c.eq.ensures ∙ c.if-eq.false)
    (sym c.is_selected_below.ensures ∙ c.if-is_selected_below.false) c.in_ok-is_taken.ensures.name
    (Unit {0}) tt c.in_ok-sees_something.field-0 c.in_ok-is_taken.field-0 c.if-not-branch.false c.if-branch.false _ c.in_ok-sees_something.ensures.value
    (subst (λ h. Now h (λ w. c.in_ok-is_taken.field-0 ≡ is_taken c.args.root.now (seen w.disk) c.args.from.now c.args.to.now)) c.in_ok-sees_something.ensures.history c.in_ok-is_taken.ensures.value)
    (g.met.F.Files.sound c.args.files.now)
