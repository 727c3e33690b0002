use Rattle.any_store.specs.Choice.{formats_of, chosen}
use Rattle.mail_tree.proofs.Followed.{follows, commits_mailbox}
use Rattle.mail_tree.proofs.Nodes.{AreFormats}
use Rattle.mail_tree.proofs.changing.change_mailbox.Goals as goal

pub returns-clause-follows : goal.returns-clause-follows
returns-clause-follows g c root =
    let fs = formats_of g.S.Store.forms chosen in
    let laws : AreFormats fs = record { choice = g.met.S.AnyMailbox.is_choice; reads = λ d. g.met.S.AnyMailbox.all_read d } in
    let law = g.met.S.Store.is_view c.args.store.now in
    follows fs laws root (g.S.Store.view c.args.store.now) (g.S.Store.view c.change_store.new.store) law (g.met.S.AnyMailbox.of_files (g.S.Store.view c.args.store.now).driver law.known) c.args.change.now
    (g.F.Files.history c.args.files.now) (g.F.Files.history c.change_store.new.files) (g.met.F.Files.sound c.args.files.now) c.change_store.result
    c.change_store.ensures.answers c.change_store.ensures.breaks c.change_store.ensures.same c.change_store.ensures.changes c.change_store.ensures.leaves

pub returns-clause-commits_tree : goal.returns-clause-commits_tree
returns-clause-commits_tree g c root =
    let fs = formats_of g.S.Store.forms chosen in
    let laws : AreFormats fs = record { choice = g.met.S.AnyMailbox.is_choice; reads = λ d. g.met.S.AnyMailbox.all_read d } in
    let law = g.met.S.Store.is_view c.args.store.now in
    commits_mailbox fs laws root (g.S.Store.view c.args.store.now) (g.S.Store.view c.change_store.new.store) law (g.met.S.AnyMailbox.of_files (g.S.Store.view c.args.store.now).driver law.known) c.args.change.now
    (g.F.Files.history c.args.files.now) (g.F.Files.history c.change_store.new.files) (g.met.F.Files.sound c.args.files.now) (g.met.F.Files.sound c.change_store.new.files) c.change_store.result c.change_store.ensures.leaves
