-- Dates of header fields, such as `Mon, 1 Apr 2024 12:00:00 +0000` (RFC 5322, section 3.3), as far as their day.
use Rattle.std.specs.Prelude.{ℕ, ℤ, ◌+◌, List, Option, Some, None, is_some, nat_lt, nat_le, ◌==◌, ◌&&◌, if◌then◌else◌, length, take, drop, slice_index, take_while}
use Rattle.std.specs.Char.{is_ascii_digit}
use Rattle.mail_fields.specs.Numbers.{◌>>=◌, number_of, place_of}
use Rattle.mail_fields.specs.CivilDays.{day_names, month_of, civil_day_of}

-- how many spaces stand at the front
abbrev pub space_count : List ℕ → ℕ
space_count text = length (take_while (λ byte. byte == 32) text)

-- what stands behind the spaces at the front
unfoldable pub without_spaces : List ℕ → List ℕ
without_spaces text = drop (space_count text) text

-- what stands behind a day name and its comma, if they stand at the front
unfoldable pub without_day_name : List ℕ → List ℕ
without_day_name text = if is_some (place_of (take 3 text) day_names) && (slice_index text 3 == 44) then drop 4 text else text

-- how many digits stand at the front
abbrev pub digit_count : List ℕ → ℕ
digit_count text = length (take_while is_ascii_digit text)

-- a year of four digits, or of two: 00 to 49 are 2000 to 2049, and 50 to 99 are 1950 to 1999 (RFC 5322, section 4.3)
unfoldable pub field_year_of : List ℕ → Option ℕ
field_year_of text =
    if digit_count text == 4 then number_of (take 4 text)
    else (if digit_count text == 2 then (do
      year ← number_of (take 2 text)
      Some (if nat_lt year 50 then 2000 + year else 1900 + year))
    else None)

-- the same, with spaces before it
unfoldable pub spaced_year_of : List ℕ → Option ℕ
spaced_year_of text = field_year_of (without_spaces text)

-- the day number of a day, with a month name, spaces and a year behind it
unfoldable pub month_then_date_of : ℕ → List ℕ → Option ℤ
month_then_date_of day text =
    if slice_index text 3 == 32 then (do
      month ← month_of (take 3 text)
      year ← spaced_year_of (drop 3 text)
      civil_day_of year month day)
    else None

-- the same, where spaces stand first
unfoldable pub spaced_date_of : ℕ → List ℕ → Option ℤ
spaced_date_of day text = if slice_index text 0 == 32 then month_then_date_of day (without_spaces text) else None

-- the same, from the digits of the day on
unfoldable pub field_day_of : List ℕ → Option ℤ
field_day_of text =
    if nat_le 1 (digit_count text) && nat_le (digit_count text) 2 then (do
      day ← number_of (take (digit_count text) text)
      spaced_date_of day (drop (digit_count text) text))
    else None

-- the day number of a date field: perhaps a day name and a comma, then a day, a month name and a year
unfoldable pub field_date_of : List ℕ → Option ℤ
field_date_of value = field_day_of (without_spaces (without_day_name (without_spaces value)))
