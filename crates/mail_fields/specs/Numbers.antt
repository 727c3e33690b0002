-- Numbers and names as mail writes them.
use Rattle.std.specs.Prelude.{ℕ, zero, suc, ◌/◌, ◌%◌, List, [], ◌∷◌, ◌++◌, Option, Some, None, ◌&&◌, nat_lt, nat_le, length, take, map, bytes_eq, position, if◌then◌else◌, option_and_then}
use Rattle.std.specs.List.{list_all}
use Rattle.std.specs.Char.{is_digit, digit_char, to_ascii_lowercase}
use Rattle.std.specs.Str.Parse.{digits_value}

infixl 10 ◌>>=◌
-- the next step of a reading, if there is a value so far
abbrev pub ◌>>=◌ : {A B : Type 0} → Option A → (A → Option B) → Option B
value >>= step = option_and_then step value

-- the number that bytes write in a base, if all are digits of it, in either letter case
unfoldable pub number_in : ℕ → List ℕ → Option ℕ
number_in base bytes = if list_all (λ byte. is_digit byte base) bytes then Some (digits_value base bytes) else None

-- the decimal number that bytes write, if all are digits
abbrev pub number_of : List ℕ → Option ℕ
number_of bytes = number_in 10 bytes

-- the number that the first bytes write in a base, so many of them
abbrev pub number_at_front : ℕ → ℕ → List ℕ → Option ℕ
number_at_front base width bytes = if nat_le width (length bytes) then number_in base (take width bytes) else None

-- a number of 1 to 10 decimal digits, and nothing else
abbrev pub decimal_of : List ℕ → Option ℕ
decimal_of bytes = if nat_le 1 (length bytes) && nat_le (length bytes) 10 then number_of bytes else None

-- the last digits of a number in a base, so many of them, the letters in lower case
abbrev pub digits_in : ℕ → ℕ → ℕ → List ℕ
digits_in base zero number = []
digits_in base (suc width) number = digits_in base width (number / base) ++ digit_char (number % base) ∷ []

-- the same, if it is below a limit
abbrev pub number_below : ℕ → List ℕ → Option ℕ
number_below limit bytes = do
  number ← number_of bytes
  if nat_lt number limit then Some number else None

-- the place of a name among names, in any letter case
abbrev pub place_of : List ℕ → List (List ℕ) → Option ℕ
place_of name names = position (λ each. bytes_eq (map to_ascii_lowercase name) (map to_ascii_lowercase each)) names
