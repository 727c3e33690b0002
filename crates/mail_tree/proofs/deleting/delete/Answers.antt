use Rattle.std.proofs.Common.{◌≡◌, sym, subst}
use Rattle.file_model.specs.Paths.{child}
use Rattle.file_model.proofs.Runs.{now_weaker}
use Rattle.any_store.specs.Choice.{formats_of, chosen}
use Rattle.mail_tree.specs.Changes.{AnswersTree, delete_refusal, deleted_tree}
use Rattle.mail_tree.specs.Promises.{AnswersBy, CommitsTree, IsDeletable, LeavesBut}
use Rattle.mail_tree.specs.Trees.{seen_node}
use Rattle.mail_tree.proofs.deleting.delete.Goals as goal

pub returns-in-Mailbox-clause-answer : goal.returns-in-Mailbox-clause-answer
returns-in-Mailbox-clause-answer g c =
    now_weaker _ _ (λ w answers. λ tree has. subst (λ due. AnswersTree due c.remove_mailbox.result) (sym (c.in_ok-driver.ensures.due tree)) (answers tree has)) (g.F.Files.history c.args.files.now)
    (subst (λ h. AnswersBy (formats_of g.S.Store.forms chosen) c.args.root.now (λ tree. delete_refusal tree.nodes c.args.name.now (seen_node tree.nodes c.args.name.now)) c.remove_mailbox.result h) c.in_ok-driver.ensures.history c.remove_mailbox.ensures.answer)

pub returns-in-Mailbox-clause-leaves : goal.returns-in-Mailbox-clause-leaves
returns-in-Mailbox-clause-leaves g c =
    subst (λ h. LeavesBut (IsDeletable (child c.args.root.now c.args.name.now)) (λ start q. q ≡ child c.args.root.now c.args.name.now) c.remove_mailbox.result h (g.F.Files.history c.remove_mailbox.new.files)) c.in_ok-driver.ensures.history c.remove_mailbox.ensures.leaves

pub returns-in-Mailbox-clause-commits : goal.returns-in-Mailbox-clause-commits
returns-in-Mailbox-clause-commits g c =
    subst (λ h. CommitsTree (formats_of g.S.Store.forms chosen) c.args.root.now (λ tree. deleted_tree tree c.args.name.now) c.remove_mailbox.result h (g.F.Files.history c.remove_mailbox.new.files)) c.in_ok-driver.ensures.history c.remove_mailbox.ensures.commits

pub returns-in-Directory-clause-answer : goal.returns-in-Directory-clause-answer
returns-in-Directory-clause-answer g c =
    now_weaker _ _ (λ w answers. λ tree has. subst (λ due. AnswersTree due c.remove_directory.result) (sym (c.in_ok-driver.ensures.due tree)) (answers tree has)) (g.F.Files.history c.args.files.now)
    (subst (λ h. AnswersBy (formats_of g.S.Store.forms chosen) c.args.root.now (λ tree. delete_refusal tree.nodes c.args.name.now (seen_node tree.nodes c.args.name.now)) c.remove_directory.result h) c.in_ok-driver.ensures.history c.remove_directory.ensures.answer)

pub returns-in-Directory-clause-leaves : goal.returns-in-Directory-clause-leaves
returns-in-Directory-clause-leaves g c =
    subst (λ h. LeavesBut (IsDeletable (child c.args.root.now c.args.name.now)) (λ start q. q ≡ child c.args.root.now c.args.name.now) c.remove_directory.result h (g.F.Files.history c.remove_directory.new.files)) c.in_ok-driver.ensures.history c.remove_directory.ensures.leaves

pub returns-in-Directory-clause-commits : goal.returns-in-Directory-clause-commits
returns-in-Directory-clause-commits g c =
    subst (λ h. CommitsTree (formats_of g.S.Store.forms chosen) c.args.root.now (λ tree. deleted_tree tree c.args.name.now) c.remove_directory.result h (g.F.Files.history c.remove_directory.new.files)) c.in_ok-driver.ensures.history c.remove_directory.ensures.commits
