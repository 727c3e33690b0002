use Rattle.std.proofs.Common.{◌≡◌, ◌-◌, [], length}
use Rattle.imap_arguments.specs.Tokens.{separated}
use Rattle.imap_arguments.specs.Sets.{add_range}
use Rattle.imap_arguments.proofs.set.ranges_at.Given as goal

abbrev pub invariant-loop : goal.invariant-loop
invariant-loop l = separated 44 add_range (length l.bytes - l.counter) l.ranges.items l.rest ≡ separated 44 add_range (length l.bytes) [] l.bytes
