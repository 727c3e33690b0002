use Rattle.std.proofs.Common.{[], refl, sym, ◌∙◌, subst}
use Rattle.file_model.specs.Disk.{seen}
use Rattle.any_store.specs.Choice.{formats_of, chosen}
use Rattle.mail_tree.specs.Changes.{due_rename, renamed_tree}
use Rattle.mail_tree.specs.Promises.{ActsUndue, AnswersBy, IsMovedOrNot}
use Rattle.imap_reply.specs.declared.text.Words.TheVariants.{Rename}
use Rattle.imap_session.specs.Endings.{open_name}
use Rattle.imap_session.specs.Rename.{rename}
use Rattle.imap_session.proofs.TreeChanges.{CallsTree, tree_does}
use Rattle.imap_session.proofs.TreeLeads.{rename_leads}
use Rattle.imap_session.proofs.TreeStays.{stays_rename}
use Rattle.imap_session.proofs.commands.rename.answer.Goals as goal

pub returns-clause-does : goal.returns-clause-does
returns-clause-does g c =
    let formats = formats_of g.S.Store.forms chosen in
    let session = c.args.session.now in
    let from = c.in-Some.from in
    let to = c.in-Some-2.to in
    let old = g.F.Files.history c.args.files.now in
    let new = g.F.Files.history c.rename-done.new.files in
    let root = c.as_str-root.result.now in
    tree_does formats g.S.Store.view session (λ tree. due_rename tree from to (open_name session.selected)) (λ tree. renamed_tree tree from to)
    (λ root a b. IsMovedOrNot root from to a (seen a) (seen b))
    c.args.tag Rename (rename c.args.tag c.args.from.now c.args.to.now)
    (rename_leads formats g.S.Store.view session c.args.tag c.args.from.now c.args.to.now from to (sym c.in_ok-from.ensures ∙ c.in-Some.is) (sym c.in_ok-to.ensures ∙ c.in-Some-2.is))
    (record { choice = g.met.S.AnyMailbox.is_choice; reads = λ d. g.met.S.AnyMailbox.all_read d })
    (stays_rename formats g.S.Store.view session (record {
      reads = λ d. g.met.S.AnyMailbox.all_read d;
      is_view = λ store. g.met.S.Store.is_view store;
      of_files = λ store. g.met.S.AnyMailbox.of_files (g.S.Store.view store).driver (g.met.S.Store.is_view store).known;
    }) from to)
    c.rename-done.result c.answered_by.result [] old new
    (subst (CallsTree formats (λ tree. due_rename tree from to (open_name session.selected)) (λ tree. renamed_tree tree from to)
    (λ root a b. IsMovedOrNot root from to a (seen a) (seen b)) c.rename-done.result old new) c.as_str-root.ensures.value (record {
      answer = subst (λ s. AnswersBy formats root (λ tree. due_rename tree from to s) c.rename-done.result old) c.selected_name.ensures c.rename-done.ensures.answer;
      acts = subst (λ s. ActsUndue formats root (λ tree. due_rename tree from to s) old new) c.selected_name.ensures c.rename-done.ensures.acts;
      changes = c.rename-done.ensures.changes;
      sees = c.rename-done.ensures.leaves.sees;
      commits = c.rename-done.ensures.commits;
    }))
    c.answered_by.ensures refl
