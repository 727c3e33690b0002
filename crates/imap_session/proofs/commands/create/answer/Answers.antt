use Rattle.std.proofs.Common.{[], refl, sym, ◌∙◌, ap, subst, option_map}
use Rattle.file_model.specs.Paths.{child}
use Rattle.store_trait.specs.OwnPaths.{IsNoPath, MayClear}
use Rattle.store_trait.specs.Touching.{SeesBut}
use Rattle.any_store.specs.Choice.{formats_of, chosen}
use Rattle.mail_tree.specs.declared.target.Target.{Target}
use Rattle.mail_tree.specs.Changes.{due_create, created_tree, due_create_dir, tree_with_directory}
use Rattle.mail_tree.specs.Names.{TargetValue}
use Rattle.mail_tree.specs.Promises.{IsMadeAt, IsMadeFor}
use Rattle.imap_reply.specs.declared.text.Words.TheVariants.{Create}
use Rattle.imap_session.specs.Create.{create}
use Rattle.imap_session.proofs.TreeChanges.{CallsTree, tree_does}
use Rattle.imap_session.proofs.TreeLeads.{create_leads, create_leads_dir, target_known}
use Rattle.imap_session.proofs.TreeStays.{stays_create, stays_create_dir}
use Rattle.imap_session.proofs.commands.create.answer.Goals as goal

-- a target's value
abbrev value_of : Target → TargetValue
value_of target = record { name = target.name; driver = target.driver; directory = target.directory }

pub create-made-requires-clause-known : goal.create-made-requires-clause-known
create-made-requires-clause-known g c =
    (g.met.S.AnyMailbox.knows_standing c.in-Some.target.driver).1 (target_known c.args.name.now (value_of c.in-Some.target) (sym c.in_ok-target.ensures ∙ ap (option_map value_of) c.in-Some.is))

pub returns-then-target-clause-does : goal.returns-then-target-clause-does
returns-then-target-clause-does g c =
    let formats = formats_of g.S.Store.forms chosen in
    let session = c.args.session.now in
    let target = c.in-Some.target in
    let name = c.in-Some.target.name in
    let old = g.F.Files.history c.args.files.now in
    let new = g.F.Files.history c.create_dir-made.new.files in
    let root = c.as_str-root.result.now in
    tree_does formats g.S.Store.view session (λ tree. due_create_dir tree name) (λ tree. tree_with_directory tree name)
    (λ root a b. SeesBut IsNoPath (IsMadeAt root name a) a b)
    c.args.tag Create (create c.args.tag c.args.name.now)
    (create_leads_dir formats g.S.Store.view session c.args.tag c.args.name.now name target.driver target.directory (sym c.in_ok-target.ensures ∙ ap (option_map value_of) c.in-Some.is) c.if-target.true)
    (record { choice = g.met.S.AnyMailbox.is_choice; reads = λ d. g.met.S.AnyMailbox.all_read d })
    (stays_create_dir formats g.S.Store.view session (record {
      reads = λ d. g.met.S.AnyMailbox.all_read d;
      is_view = λ store. g.met.S.Store.is_view store;
      of_files = λ store. g.met.S.AnyMailbox.of_files (g.S.Store.view store).driver (g.met.S.Store.is_view store).known;
    }) name)
    c.create_dir-made.result c.answered_by.result [] old new
    (subst (CallsTree formats (λ tree. due_create_dir tree name) (λ tree. tree_with_directory tree name)
    (λ root a b. SeesBut IsNoPath (IsMadeAt root name a) a b) c.create_dir-made.result old new) c.as_str-root.ensures.value (record {
      answer = c.create_dir-made.ensures.answer;
      acts = c.create_dir-made.ensures.acts;
      changes = c.create_dir-made.ensures.changes;
      sees = c.create_dir-made.ensures.leaves.sees;
      commits = c.create_dir-made.ensures.commits;
    }))
    c.answered_by.ensures refl

pub returns-clause-does : goal.returns-clause-does
returns-clause-does g c =
    let formats = formats_of g.S.Store.forms chosen in
    let session = c.args.session.now in
    let target = c.in-Some.target in
    let name = c.in-Some.target.name in
    let driver = c.in-Some.target.driver in
    let fresh = c.number-fresh.result in
    let old = g.F.Files.history c.args.files.now in
    let new = g.F.Files.history c.create-made.new.files in
    let root = c.as_str-root.result.now in
    tree_does formats g.S.Store.view session (λ tree. due_create tree name driver) (λ tree. created_tree tree name driver fresh)
    (λ root a b. SeesBut (MayClear driver (child root name)) (IsMadeFor driver root name a) a b)
    c.args.tag Create (create c.args.tag c.args.name.now)
    (create_leads formats g.S.Store.view session c.args.tag c.args.name.now name driver target.directory fresh (sym c.in_ok-target.ensures ∙ ap (option_map value_of) c.in-Some.is) c.if-target.false c.number-fresh.ensures.value)
    (record { choice = g.met.S.AnyMailbox.is_choice; reads = λ d. g.met.S.AnyMailbox.all_read d })
    (stays_create formats g.S.Store.view session (record {
      reads = λ d. g.met.S.AnyMailbox.all_read d;
      is_view = λ store. g.met.S.Store.is_view store;
      of_files = λ store. g.met.S.AnyMailbox.of_files (g.S.Store.view store).driver (g.met.S.Store.is_view store).known;
    }) name driver fresh (g.met.S.AnyMailbox.of_files driver ((g.met.S.AnyMailbox.knows_standing driver).1 (target_known c.args.name.now (value_of target) (sym c.in_ok-target.ensures ∙ ap (option_map value_of) c.in-Some.is)))))
    c.create-made.result c.answered_by-2.result [] old new
    (subst (CallsTree formats (λ tree. due_create tree name driver) (λ tree. created_tree tree name driver fresh)
    (λ root a b. SeesBut (MayClear driver (child root name)) (IsMadeFor driver root name a) a b) c.create-made.result old new) c.as_str-root.ensures.value (record {
      answer = c.create-made.ensures.answer;
      acts = c.create-made.ensures.acts;
      changes = c.create-made.ensures.changes;
      sees = c.create-made.ensures.leaves.sees;
      commits = c.create-made.ensures.commits;
    }))
    c.answered_by-2.ensures refl
