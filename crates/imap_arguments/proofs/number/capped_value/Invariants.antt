use Rattle.std.proofs.Common.{◌≡◌, min, take}
use Rattle.imap_arguments.specs.Numbers.{decimal_value}
use Rattle.imap_arguments.proofs.number.capped_value.Given as goal

abbrev pub invariant-loop-digit : goal.invariant-loop-digit
invariant-loop-digit l = l.value ≡ min (decimal_value 0 (take l.digit-index l.digits)) 4294967296
