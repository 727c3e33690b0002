use Rattle.std.proofs.Common.{sym, subst, take, ◌+◌, ◌++◌, ◌∷◌, []}
use Rattle.imap_session.specs.Items.{AreItems}
use Rattle.imap_session.specs.Told.{told}
use Rattle.imap_session.proofs.ItemTexts.{items_more, taken_more}
use Rattle.imap_session.proofs.commands.fetch_line.item_texts.Goals as goal

pub loop-item-preserved : goal.loop-item-preserved
loop-item-preserved c number text =
    let m = told number c.args.info c.args.recent c.args.looking.now.words.now text in
    subst (λ texts. AreItems (take (c.loop-item.item-index + 1) c.args.looking.now.items.now) m texts) (sym c.in_ok-push.ensures.items)
    (subst (λ items. AreItems items m (c.loop-item.texts.items ++ c.in_ok-item_text.field-0 ∷ [])) (sym (taken_more c.args.looking.now.items.now c.loop-item.item-index c.item-item.result c.loop-item-test.true c.item-item.is))
    (items_more (take c.loop-item.item-index c.args.looking.now.items.now) m c.loop-item.texts.items c.item-item.result c.in_ok-item_text.field-0 (c.loop-item.invariant number text) (c.in_ok-item_text.ensures number text)))
