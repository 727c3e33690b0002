use Rattle.std.proofs.Common.{sym, ◌∙◌}
use Rattle.any_store.specs.Choice.{formats_of, chosen}
use Rattle.mail_tree.proofs.ListedTree.{lists_found}
use Rattle.mail_tree.proofs.listing.list.Goals as goal

pub returns-clause-listed : goal.returns-clause-listed
returns-clause-listed g c =
    lists_found (formats_of g.S.Store.forms chosen) c.args.root.now c.args.reference.now c.args.pattern.now c.in_ok-whole.whole _ c.new-found.result.entries c.walk_all.new.found.entries
    c.in_ok-whole.ensures (sym c.is_empty.ensures ∙ c.if-is_empty.false) c.in_ok-as_list-2.ensures c.new-found.ensures.empty _ c.in_ok-walk_all.ensures.found (g.met.F.Files.sound c.args.files.now)
