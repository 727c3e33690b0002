use Rattle.std.proofs.Common.{[], ◌≡◌, refl, sym, ◌∙◌, subst}
use Rattle.file_model.specs.Paths.{child}
use Rattle.store_trait.specs.Touching.{SeesBut}
use Rattle.any_store.specs.Choice.{formats_of, chosen}
use Rattle.mail_tree.specs.Changes.{due_delete, deleted_tree}
use Rattle.mail_tree.specs.Promises.{ActsUndue, AnswersBy, IsDeletable}
use Rattle.imap_reply.specs.declared.text.Words.TheVariants.{Delete}
use Rattle.imap_session.specs.Delete.{delete}
use Rattle.imap_session.specs.Endings.{open_name}
use Rattle.imap_session.proofs.TreeChanges.{CallsTree, tree_does}
use Rattle.imap_session.proofs.TreeLeads.{delete_leads}
use Rattle.imap_session.proofs.TreeStays.{stays_delete}
use Rattle.imap_session.proofs.commands.delete.answer.Goals as goal

pub returns-clause-does : goal.returns-clause-does
returns-clause-does g c =
    let formats = formats_of g.S.Store.forms chosen in
    let session = c.args.session.now in
    let name = c.in-Some.name in
    let old = g.F.Files.history c.args.files.now in
    let new = g.F.Files.history c.delete-done.new.files in
    let root = c.as_str-root.result.now in
    tree_does formats g.S.Store.view session (λ tree. due_delete tree name (open_name session.selected)) (λ tree. deleted_tree tree name)
    (λ root a b. SeesBut (IsDeletable (child root name)) (λ q. q ≡ child root name) a b)
    c.args.tag Delete (delete c.args.tag c.args.name.now)
    (delete_leads formats g.S.Store.view session c.args.tag c.args.name.now name (sym c.in_ok-name.ensures ∙ c.in-Some.is))
    (record { choice = g.met.S.AnyMailbox.is_choice; reads = λ d. g.met.S.AnyMailbox.all_read d })
    (stays_delete formats g.S.Store.view session (record {
      reads = λ d. g.met.S.AnyMailbox.all_read d;
      is_view = λ store. g.met.S.Store.is_view store;
      of_files = λ store. g.met.S.AnyMailbox.of_files (g.S.Store.view store).driver (g.met.S.Store.is_view store).known;
    }) name)
    c.delete-done.result c.answered_by.result [] old new
    (subst (CallsTree formats (λ tree. due_delete tree name (open_name session.selected)) (λ tree. deleted_tree tree name)
    (λ root a b. SeesBut (IsDeletable (child root name)) (λ q. q ≡ child root name) a b) c.delete-done.result old new) c.as_str-root.ensures.value (record {
      answer = subst (λ s. AnswersBy formats root (λ tree. due_delete tree name s) c.delete-done.result old) c.selected_name.ensures c.delete-done.ensures.answer;
      acts = subst (λ s. ActsUndue formats root (λ tree. due_delete tree name s) old new) c.selected_name.ensures c.delete-done.ensures.acts;
      changes = c.delete-done.ensures.changes;
      sees = c.delete-done.ensures.leaves.sees;
      commits = c.delete-done.ensures.commits;
    }))
    c.answered_by.ensures refl
