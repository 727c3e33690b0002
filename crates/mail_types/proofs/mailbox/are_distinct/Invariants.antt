use Rattle.std.proofs.Common.{◌≡◌, drop}
use Rattle.mail_fields.specs.Names.{are_distinct}
use Rattle.mail_types.proofs.mailbox.are_distinct.Given as goal

abbrev pub invariant-loop-number : goal.invariant-loop-number
invariant-loop-number l = are_distinct (drop l.number l.words) ≡ are_distinct l.words
