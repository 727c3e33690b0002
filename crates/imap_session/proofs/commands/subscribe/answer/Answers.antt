use Rattle.std.proofs.Common.{[], refl, sym, ◌∙◌, subst}
use Rattle.file_model.specs.Kept.{Sees, IsBeside}
use Rattle.any_store.specs.Choice.{formats_of, chosen}
use Rattle.mail_tree.specs.Changes.{subscribed_tree}
use Rattle.mail_tree.specs.Subscriptions.{with_name}
use Rattle.mail_tree.specs.Trees.{list_of}
use Rattle.imap_reply.specs.declared.text.Words.TheVariants.{Subscribe}
use Rattle.imap_session.specs.Subscribe.{subscribe}
use Rattle.imap_session.proofs.TreeChanges.{CallsTree, tree_does, answers_undue, acts_free}
use Rattle.imap_session.proofs.TreeLeads.{none_due, subscribe_leads}
use Rattle.imap_session.proofs.TreeStays.{stays_listed}
use Rattle.imap_session.proofs.commands.subscribe.answer.Goals as goal

pub returns-clause-does : goal.returns-clause-does
returns-clause-does g c =
    let formats = formats_of g.S.Store.forms chosen in
    let session = c.args.session.now in
    let name = c.in-Some.name in
    let old = g.F.Files.history c.args.files.now in
    let new = g.F.Files.history c.subscribe-done.new.files in
    let root = c.as_str.result.now in
    tree_does formats g.S.Store.view session (none_due) (λ tree. subscribed_tree tree name)
    (λ root a b. Sees (IsBeside (list_of root)) a b)
    c.args.tag Subscribe (subscribe c.args.tag c.args.name.now)
    (subscribe_leads formats g.S.Store.view session c.args.tag c.args.name.now name (sym c.in_ok-name.ensures ∙ c.in-Some.is))
    (record { choice = g.met.S.AnyMailbox.is_choice; reads = λ d. g.met.S.AnyMailbox.all_read d })
    (stays_listed formats g.S.Store.view session (record {
      reads = λ d. g.met.S.AnyMailbox.all_read d;
      is_view = λ store. g.met.S.Store.is_view store;
      of_files = λ store. g.met.S.AnyMailbox.of_files (g.S.Store.view store).driver (g.met.S.Store.is_view store).known;
    }) none_due (λ tree. with_name name tree.subscribed))
    c.subscribe-done.result c.answered_by.result [] old new
    (subst (CallsTree formats (none_due) (λ tree. subscribed_tree tree name)
    (λ root a b. Sees (IsBeside (list_of root)) a b) c.subscribe-done.result old new) c.as_str.ensures.value (record {
      answer = answers_undue formats root c.subscribe-done.result old c.subscribe-done.ensures.given;
      acts = acts_free formats root old new;
      changes = c.subscribe-done.ensures.changes;
      sees = c.subscribe-done.ensures.leaves.sees;
      commits = c.subscribe-done.ensures.commits;
    }))
    c.answered_by.ensures refl
