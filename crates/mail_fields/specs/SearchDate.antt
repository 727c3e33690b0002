-- Dates that SEARCH compares with, such as `1-Feb-1994` (RFC 3501, section 9, date).
use Rattle.std.specs.Prelude.{ℕ, ℤ, List, Option, None, ◌==◌, if◌then◌else◌, length, take, drop}
use Rattle.mail_fields.specs.Numbers.{◌>>=◌, number_of}
use Rattle.mail_fields.specs.CivilDays.{dashed_date_of}

-- a day of so many digits, then `-Mon-yyyy`
unfoldable pub day_then_date_of : ℕ → List ℕ → Option ℤ
day_then_date_of width text = do
  day ← number_of (take width text)
  dashed_date_of day (drop width text)

-- the day number of `d-Mon-yyyy` or `dd-Mon-yyyy`
unfoldable pub search_date_of : List ℕ → Option ℤ
search_date_of text =
    if length text == 10 then day_then_date_of 1 text
    else (if length text == 11 then day_then_date_of 2 text else None)
