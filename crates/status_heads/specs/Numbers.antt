-- Numbers of status fields.
use Rattle.std.specs.Prelude.{ℕ, List, Option, Some, None, nat_le, ◌&&◌, if◌then◌else◌}
use Rattle.mail_fields.specs.Numbers.{◌>>=◌, decimal_of}

-- the greatest UID that a message may have; the one above it is left, so that a next one can be told
abbrev pub greatest_uid : ℕ
greatest_uid = 4294967294

-- a decimal number from one number to another
unfoldable pub number_between : ℕ → ℕ → List ℕ → Option ℕ
number_between low high value = do
  number ← decimal_of value
  if nat_le low number && nat_le number high then Some number else None
