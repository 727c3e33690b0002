use Rattle.std.proofs.Common.{take}
use Rattle.structure_text.specs.Appending.{Appends}
use Rattle.looked_message.specs.Messages.{looked_at}
use Rattle.body_sections.specs.Items.{AreMoreItems}
use Rattle.body_sections.proofs.items.put_more_items.Given as goal

abbrev pub invariant-loop-item : goal.invariant-loop-item
invariant-loop-item l = Appends (AreMoreItems (take l.item-index l.items) (looked_at l.message)) l.fn.out.items l.out.items
