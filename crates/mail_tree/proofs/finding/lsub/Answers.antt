use Rattle.std.proofs.Common.{◌≡◌, sym, ◌∙◌, ap, ◌++◌, true, false, map}
use Rattle.std.specs.FinMap.{entries, empty}
use Rattle.file_model.specs.Disk.{seen}
use Rattle.file_model.specs.Images.{text_at}
use Rattle.file_model.proofs.Runs.{now_weaker}
use Rattle.any_store.specs.Choice.{formats_of, chosen}
use Rattle.mail_tree.specs.declared.finding.Listed.{Listed as ListedEntry}
use Rattle.mail_tree.specs.Listing.{as_listed, put_all, put_fitting, names_above, listed_subscribed}
use Rattle.mail_tree.specs.Subscriptions.{subscribed_in}
use Rattle.mail_tree.specs.Trees.{Tree, HasTree, list_of}
use Rattle.mail_tree.proofs.Found.{lists_all}
use Rattle.mail_tree.proofs.finding.lsub.Goals as goal

pub returns-clause-listed : goal.returns-clause-listed
returns-clause-listed g c =
    let fs = formats_of g.S.Store.forms chosen in
    let root = c.args.root.now in
    let whole = c.args.reference.now ++ c.args.pattern.now in
    now_weaker (λ w. c.in_ok-names.names.keys ≡ subscribed_in (text_at (seen w.disk) (list_of root)))
    (λ w. (tree : Tree) → HasTree fs root (seen w.disk) tree → map (λ (entry : ListedEntry). record { name = entry.name; directory = entry.directory }) c.in_ok-list.list.items ≡ listed_subscribed tree c.args.reference.now c.args.pattern.now)
    (λ w keys tree has. c.in_ok-list.ensures ∙ ap as_listed (
    lists_all c.in_ok-whole.whole c.as_slice.result.now c.as_slice-2.result.now tree.subscribed c.in_ok-found.found.entries c.put_names.new.found.entries
    (c.as_slice.ensures.keys ∙ keys ∙ sym has.subscribed) (c.as_slice-2.ensures.keys ∙ keys ∙ sym has.subscribed) c.in_ok-found.ensures (λ m same. c.in_ok-put_names.ensures m same)
    ∙ ap (λ p. entries (put_fitting false p tree.subscribed (put_all true (names_above p tree.subscribed) empty))) c.in_ok-whole.ensures))
    (g.F.Files.history c.args.files.now) c.in_ok-names.ensures.value
