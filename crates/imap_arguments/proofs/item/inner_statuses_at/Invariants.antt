use Rattle.std.proofs.Common.{◌≡◌, ◌-◌, [], length}
use Rattle.imap_arguments.specs.Tokens.{separated}
use Rattle.imap_arguments.specs.Items.{add_status}
use Rattle.imap_arguments.proofs.item.inner_statuses_at.Given as goal

abbrev pub invariant-loop : goal.invariant-loop
invariant-loop l = separated 32 add_status (length l.bytes - l.counter) l.items.items l.rest ≡ separated 32 add_status (length l.bytes) [] l.bytes
