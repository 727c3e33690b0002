use Rattle.std.proofs.Common.{ℕ, List, take}
use Rattle.imap_session.specs.Items.{AreItems}
use Rattle.imap_session.specs.Told.{told}
use Rattle.imap_session.proofs.commands.fetch_line.item_texts.Given as goal

abbrev pub invariant-loop-item : goal.invariant-loop-item
invariant-loop-item l = (number : ℕ) (text : List ℕ) → AreItems (take l.item-index l.looking.items.now) (told number l.info l.recent l.looking.words.now text) l.texts.items
