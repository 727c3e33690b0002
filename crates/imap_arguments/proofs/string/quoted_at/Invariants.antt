use Rattle.std.proofs.Common.{◌≡◌, [], false, drop}
use Rattle.imap_arguments.specs.Strings.{quoted_from}
use Rattle.imap_arguments.proofs.string.quoted_at.Given as goal

-- what is read, with what is left
abbrev pub invariant-loop-i : goal.invariant-loop-i
invariant-loop-i l = quoted_from l.escaped l.value.items (drop l.i l.bytes) ≡ quoted_from false [] l.bytes
