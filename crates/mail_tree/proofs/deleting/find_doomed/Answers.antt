use Rattle.std.proofs.Common.{rules, ◌≡◌, ◌∙◌, sym, subst, true, false}
use Rattle.file_model.specs.Disk.{seen}
use Rattle.file_model.specs.Histories.{Now}
use Rattle.file_model.proofs.Runs.{now_weaker}
use Rattle.mail_tree.specs.Deleting.{RefusesDoomed}
use Rattle.mail_tree.specs.Sights.{sees_at}
use Rattle.mail_tree.proofs.DueDelete.{unseen_refused, doomed_refused}
use Rattle.mail_tree.proofs.deleting.find_doomed.Goals as goal

pub returns-then-not-branch-clause-refused : goal.returns-then-not-branch-clause-refused
returns-then-not-branch-clause-refused g c =
    let old = g.F.Files.history c.args.files.now in
    unseen_refused g.S.Store.forms (λ d. g.met.S.AnyMailbox.all_read d) c.args.root.now c.args.name.now c.in_ok-path.ensures.name _ (λ tree. search rules) old
    (now_weaker (λ w. c.in_ok-sees.field-0 ≡ sees_at c.args.root.now (seen w.disk) c.args.name.now) (λ w. sees_at c.args.root.now (seen w.disk) c.args.name.now ≡ false) (λ w e. sym e ∙ c.if-not-branch.true) old
    (c.in_ok-sees.ensures.value c.args.name.now (c.as_str-2.ensures.value ∙ c.in_ok-path.ensures.path)))

pub returns-clause-refused : goal.returns-clause-refused
returns-clause-refused g c =
    let old = g.F.Files.history c.args.files.now in
    doomed_refused g.S.Store.forms (λ d. g.met.S.AnyMailbox.all_read d) c.args.root.now c.args.name.now c.in_ok-path.ensures.name _ (λ tree. search rules) c.in-Err.fault old
    (now_weaker (λ w. c.in_ok-sees.field-0 ≡ sees_at c.args.root.now (seen w.disk) c.args.name.now) (λ w. sees_at c.args.root.now (seen w.disk) c.args.name.now ≡ true) (λ w e. sym e ∙ c.if-not-branch.false) old
    (c.in_ok-sees.ensures.value c.args.name.now (c.as_str-2.ensures.value ∙ c.in_ok-path.ensures.path)))
    (g.met.F.Files.sound c.args.files.now)
    (subst (λ p. Now old (λ w. RefusesDoomed c.in-Err.fault p (seen w.disk))) (c.as_str-3.ensures.value ∙ c.in_ok-path.ensures.path)
    (subst (λ h. Now h (λ w. RefusesDoomed c.in-Err.fault c.as_str-3.result.now (seen w.disk))) c.in_ok-sees.ensures.history c.in-Err.ensures.refused))
