use Rattle.std.proofs.Common.{◌≡◌, ◌-◌, [], length}
use Rattle.imap_arguments.specs.Sections.{parts_from}
use Rattle.imap_arguments.proofs.section.parts_at.Given as goal

abbrev pub invariant-loop : goal.invariant-loop
invariant-loop l = parts_from (length l.bytes - l.counter) l.numbers.items l.rest ≡ parts_from (length l.bytes) [] l.bytes
