use Rattle.std.proofs.Common.{subst}
use Rattle.std.proofs.lemmas.List.{take_rest}
use Rattle.structure_text.specs.Appending.{Appends}
use Rattle.looked_message.specs.Messages.{looked_at}
use Rattle.body_sections.specs.Items.{IsItem, AreMoreItems}
use Rattle.structure_text.proofs.Writing.{ok-then}
use Rattle.body_sections.proofs.Writing.{items-written, no-items}
use Rattle.body_sections.proofs.items.put_spaced_items.Goals as goal

pub returns-in-empty : goal.returns-in-empty
returns-in-empty c = no-items (looked_at c.args.message.now) c.args.items.now c.args.out.now.items c.in-empty.len_below

pub returns-in_ok-put_item-in-len1-up : goal.returns-in_ok-put_item-in-len1-up
returns-in_ok-put_item-in-len1-up c =
    let m = looked_at c.args.message.now in
    let own = subst (λ i. Appends (IsItem i m) c.args.out.now.items c.put_item.new.out.items) c.first-item.is c.in_ok-put_item-in-len1-up.ensures in
    ok-then _ _ c.put_more_items.result
    (λ more. items-written m c.args.items.now c.first-item.result c.args.out.now.items c.put_item.new.out.items c.put_more_items.new.out.items c.in-len1-up.len_at_least own
    (subst (λ rest. Appends (AreMoreItems rest m) c.put_item.new.out.items c.put_more_items.new.out.items) (take_rest c.args.items.now 1) more))
    c.put_more_items.ensures
