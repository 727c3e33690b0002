use Rattle.std.proofs.Common.{subst}
use Rattle.structure_text.specs.Appending.{Appends}
use Rattle.looked_message.specs.Messages.{looked_at}
use Rattle.body_sections.specs.Items.{IsItem}
use Rattle.body_sections.proofs.Writing.{items-begin, items-more}
use Rattle.body_sections.proofs.items.put_more_items.Goals as goal

pub loop-item-init : goal.loop-item-init
loop-item-init c = items-begin (looked_at c.args.message.now) c.args.out.now.items

pub loop-item-preserved : goal.loop-item-preserved
loop-item-preserved c =
    let m = looked_at c.args.message.now in
    let own = subst (λ i. Appends (IsItem i m) c.push.new.self.items c.put_item.new.out.items) c.item-item.is c.in_ok-put_item.ensures in
    items-more m c.args.items.now c.loop-item.item-index c.item-item.result c.args.out.now.items c.loop-item.out.items c.push.new.self.items c.put_item.new.out.items c.loop-item-test.true
    c.loop-item.invariant c.in_ok-push.ensures.items own
