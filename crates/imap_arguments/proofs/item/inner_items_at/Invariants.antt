use Rattle.std.proofs.Common.{◌≡◌, ◌-◌, [], length}
use Rattle.imap_arguments.specs.Tokens.{separated}
use Rattle.imap_arguments.specs.Items.{add_item}
use Rattle.imap_arguments.proofs.item.inner_items_at.Given as goal

abbrev pub invariant-loop : goal.invariant-loop
invariant-loop l = separated 32 add_item (length l.bytes - l.counter) (record { items = l.items.items; literals = l.literals.items }) l.rest ≡ separated 32 add_item (length l.bytes) (record { items = []; literals = l.fn.literals.items }) l.bytes
