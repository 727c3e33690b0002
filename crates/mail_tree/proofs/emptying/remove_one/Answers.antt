use Rattle.std.proofs.Common.{◌≡◌, sym, ◌∙◌, subst, true, Ok}
use Rattle.file_model.specs.Disk.{seen, remove_at}
use Rattle.file_model.specs.Histories.{GoesOn}
use Rattle.file_model.proofs.Directories.{ran_remove}
use Rattle.file_model.proofs.Runs.{now_weaker}
use Rattle.any_store.specs.Choice.{has_file}
use Rattle.mail_tree.proofs.LeftFiles.{removed_cleared, removed_directories}
use Rattle.mail_tree.proofs.emptying.remove_one.Goals as goal

pub returns-in_err-remove-clause-directories : goal.returns-in_err-remove-clause-directories
returns-in_err-remove-clause-directories g c =
    let old = g.F.Files.history c.args.files.now in
    let path = c.args.path.now in
    removed_directories path c.remove.result old (g.F.Files.history c.remove.new.self) (g.met.F.Files.sound c.args.files.now)
    (now_weaker _ (λ w. has_file (seen w.disk) path ≡ true) (λ w e. sym e ∙ c.if-branch.true) old c.in_ok-is_file.ensures.value)
    (subst (λ h. GoesOn (remove_at path) c.remove.result h (g.F.Files.history c.remove.new.self)) c.in_ok-is_file.ensures.history c.remove.ensures.goes_on)

pub returns-in_ok-remove-clause-directories : goal.returns-in_ok-remove-clause-directories
returns-in_ok-remove-clause-directories g c =
    let old = g.F.Files.history c.args.files.now in
    let path = c.args.path.now in
    removed_directories path c.remove.result old (g.F.Files.history c.remove.new.self) (g.met.F.Files.sound c.args.files.now)
    (now_weaker _ (λ w. has_file (seen w.disk) path ≡ true) (λ w e. sym e ∙ c.if-branch.true) old c.in_ok-is_file.ensures.value)
    (subst (λ h. GoesOn (remove_at path) c.remove.result h (g.F.Files.history c.remove.new.self)) c.in_ok-is_file.ensures.history c.remove.ensures.goes_on)

pub returns-in_err-remove-clause-kept : goal.returns-in_err-remove-clause-kept
returns-in_err-remove-clause-kept g c =
    let new = g.F.Files.history c.remove.new.self in
    ran_remove c.remove.result (g.F.Files.history c.args.files.now) new c.args.path.now
    (subst (λ h. GoesOn (remove_at c.args.path.now) c.remove.result h new) c.in_ok-is_file.ensures.history c.remove.ensures.goes_on)

pub returns-in_ok-remove-clause-kept : goal.returns-in_ok-remove-clause-kept
returns-in_ok-remove-clause-kept g c =
    let new = g.F.Files.history c.remove.new.self in
    ran_remove c.remove.result (g.F.Files.history c.args.files.now) new c.args.path.now
    (subst (λ h. GoesOn (remove_at c.args.path.now) c.remove.result h new) c.in_ok-is_file.ensures.history c.remove.ensures.goes_on)

pub returns-in_ok-remove-clause-cleared : goal.returns-in_ok-remove-clause-cleared
returns-in_ok-remove-clause-cleared g c =
    let new = g.F.Files.history c.remove.new.self in
    removed_cleared c.args.path.now tt (g.F.Files.history c.args.files.now) new
    (subst (λ h. GoesOn (remove_at c.args.path.now) (Ok tt) h new) c.in_ok-is_file.ensures.history c.in_ok-remove.ensures.goes_on)
