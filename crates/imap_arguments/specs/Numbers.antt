-- Numbers of a command (RFC 3501, section 9, number and nz-number).
use Rattle.std.specs.Prelude.{ℕ, ◌+◌, ◌*◌, ◌-◌, Bool, true, false, List, [], ◌∷◌, ◌==◌, ◌&&◌, ◌||◌, not, if◌then◌else◌, Ok, Err, nat_lt, length, take, drop}
use Rattle.std.specs.List.{prefix_len}
use Rattle.std.specs.Char.{is_ascii_digit}
use Rattle.imap_arguments.specs.Readings.{Read, ◌>>=◌}
use Rattle.imap_arguments.specs.Tokens.{broken_off}
use Rattle.imap_arguments.specs.declared.reason.Reason.TheVariants.{NotUnderstood, OutOfRange}

-- the number that decimal digits write, behind one that is read
abbrev pub decimal_value : ℕ → List ℕ → ℕ
decimal_value n [] = n
decimal_value n (digit ∷ digits) = decimal_value (10 * n + (digit - 48)) digits

-- whether a number may stand in a command: 0 only where it is asked for
abbrev pub is_in_range : Bool → ℕ → Bool
is_in_range zero_counts n = not (nat_lt 4294967295 n) && (zero_counts || not (n == 0))

-- what digits say: out of range before there are too many of them, ten at most
unfoldable pub number_in : Bool → List ℕ → Read ℕ
number_in zero_counts digits =
    let n = decimal_value 0 digits in
    if not (is_in_range zero_counts n) then Err OutOfRange
    else if nat_lt 10 (length digits) then Err NotUnderstood
    else Ok n

-- the longest run of digits, of which one at least must stand there
unfoldable pub digits_at : Bool → List ℕ → Read (ℕ × List ℕ)
digits_at zero_counts bytes =
    let width = prefix_len is_ascii_digit bytes in
    if width == 0 then Err (broken_off bytes)
    else (do
      n ← number_in zero_counts (take width bytes)
      Ok (n, drop width bytes))

-- a number that may be 0, and one that may not
abbrev pub number_at : List ℕ → Read (ℕ × List ℕ)
number_at bytes = digits_at true bytes

abbrev pub nonzero_at : List ℕ → Read (ℕ × List ℕ)
nonzero_at bytes = digits_at false bytes
