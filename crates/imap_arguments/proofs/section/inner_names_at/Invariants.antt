use Rattle.std.proofs.Common.{◌≡◌, ◌-◌, [], length}
use Rattle.imap_arguments.specs.Tokens.{separated}
use Rattle.imap_arguments.specs.Sections.{add_name}
use Rattle.imap_arguments.proofs.section.inner_names_at.Given as goal

abbrev pub invariant-loop : goal.invariant-loop
invariant-loop l = separated 32 add_name (length l.bytes - l.counter) (record { names = l.names.items; literals = l.literals.items }) l.rest ≡ separated 32 add_name (length l.bytes) (record { names = []; literals = l.fn.literals.items }) l.bytes
