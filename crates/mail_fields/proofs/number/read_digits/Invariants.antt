use Rattle.std.proofs.Common.{◌≡◌, ◌<◌, ◌^◌, true, take, drop}
use Rattle.std.specs.List.{list_all}
use Rattle.std.specs.Char.{is_digit}
use Rattle.std.specs.Str.Parse.{digits_value_after}
use Rattle.mail_fields.proofs.number.read_digits.Given as goal

abbrev pub invariant-loop-byte : goal.invariant-loop-byte
invariant-loop-byte l = record {
  value : digits_value_after l.base l.number (drop l.byte-index l.bytes) ≡ digits_value_after l.base 0 l.bytes;
  digits : list_all (λ byte. is_digit byte l.base) (take l.byte-index l.bytes) ≡ true;
  small : l.number < l.base ^ l.byte-index;
}
