-- Dates of mix files, such as `20240402080000+0200`.
use Rattle.std.specs.Prelude.{ℕ, ◌++◌, ℤ, ◌+◌, ◌*◌, List, Option, Some, None, nat_le, ◌==◌, if◌then◌else◌, length, take, drop}
use Rattle.mail_fields.specs.Numbers.{◌>>=◌, number_of, number_below, digits_in}
use Rattle.mail_fields.specs.CivilDays.{part, civil_day_of, civil_of}
use Rattle.mail_fields.specs.Clock.{offset_of, digits_clock_text, zone_text}
use Rattle.mail_fields.specs.Stamps.{StampParts}

-- a month of two digits
unfoldable pub month_number_of : List ℕ → Option ℕ
month_number_of bytes = do
  month ← number_below 13 bytes
  if nat_le 1 month then Some month else None

-- the day number of `yyyymmdd`
unfoldable pub digits_day_of : List ℕ → Option ℤ
digits_day_of bytes = do
  year ← number_of (take 4 bytes)
  month ← month_number_of (part 4 2 bytes)
  day ← number_of (drop 6 bytes)
  civil_day_of year month day

-- the second of the day of `hhmmss`
unfoldable pub digits_clock_of : List ℕ → Option ℕ
digits_clock_of bytes = do
  hour ← number_below 24 (take 2 bytes)
  minute ← number_below 60 (part 2 2 bytes)
  second ← number_below 60 (drop 4 bytes)
  Some (3600 * hour + 60 * minute + second)

-- `yyyymmddhhmmss+zzzz`
unfoldable pub mix_date_of : List ℕ → Option StampParts
mix_date_of text =
    if length text == 19 then (do
      civil ← digits_day_of (take 8 text)
      second ← digits_clock_of (part 8 6 text)
      minutes ← offset_of (drop 14 text)
      Some (record { day = civil; second = second; zone_minutes = minutes }))
    else None

-- the text of a stamp in this form
unfoldable pub mix_date_text : StampParts → List ℕ
mix_date_text stamp =
    let date = civil_of stamp.day in
    (digits_in 10 4 date.year ++ digits_in 10 2 date.month ++ digits_in 10 2 date.day) ++ digits_clock_text stamp.second ++ zone_text stamp.zone_minutes
