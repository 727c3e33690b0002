-- The dates that delimiter lines end in, such as `Mon Apr  1 12:00:00 2024` (RFC 4155, appendix A, and older forms).
use Rattle.std.specs.Prelude.{◌<◌, ◌≤ℤ◌, ℕ, ℤ, pos, neg_ℤ, ◌-◌, ◌++◌, codes, Bool, List, Option, Some, None, IsSome, is_some, ◌==◌, ◌&&◌, if◌then◌else◌, length, take, drop, slice_index}
use Rattle.std.specs.Option.{option_or}
use Rattle.std.specs.List.{list_all}
use Rattle.std.specs.Char.{is_ascii_alphabetic}
use Rattle.mail_fields.specs.Numbers.{◌>>=◌, number_of, digits_in, place_of}
use Rattle.mail_fields.specs.CivilDays.{part, day_names, month_of, day_of, civil_day_of, civil_of, weekday_text, day_text, month_text}
use Rattle.mail_fields.specs.Clock.{clock_of, offset_of, clock_text}
use Rattle.mail_fields.specs.Stamps.{StampParts}

-- a space and the four digits of a year
abbrev pub year_of : List ℕ → Option ℕ
year_of bytes = if (length bytes == 5) && (slice_index bytes 0 == 32) then number_of (drop 1 bytes) else None

-- a zone and the space before it, in minutes; three letters, or no zone at all, are taken as UTC
abbrev pub zone_of : List ℕ → Option ℤ
zone_of bytes =
    if length bytes == 0 then Some (pos 0)
    else (if (length bytes == 4) && (slice_index bytes 0 == 32) && list_all is_ascii_alphabetic (drop 1 bytes) then Some (pos 0)
    else (if (length bytes == 6) && (slice_index bytes 0 == 32) then offset_of (drop 1 bytes) else None))

-- a year and a zone
abbrev pub year_zone_of : List ℕ → List ℕ → Option (ℕ × ℤ)
year_zone_of year zone = do
  number ← year_of year
  minutes ← zone_of zone
  Some (number, minutes)

-- the end of a date: a year, with perhaps a zone before or behind it
unfoldable pub end_of : List ℕ → Option (ℕ × ℤ)
end_of bytes =
    option_or (year_zone_of (take 5 bytes) (drop 5 bytes))
    (year_zone_of (drop (length bytes - 5) bytes) (take (length bytes - 5) bytes))

-- a year of four digits, and a zone of less than a day
abbrev pub HasBounds : ℕ × ℤ → Type 0
HasBounds end = (end.0 < 10000) × (neg_ℤ (pos 1439) ≤ℤ end.1) × (end.1 ≤ℤ pos 1439)

-- a day name, and spaces where each form has them
abbrev pub has_frame : List ℕ → Bool
has_frame date =
    is_some (place_of (take 3 date) day_names) && (slice_index date 3 == 32) && (slice_index date 7 == 32) && (slice_index date 10 == 32)

-- the stamp that a date gives with this clock and this end
unfoldable pub stamp_of_fields : List ℕ → List ℕ → List ℕ → Option StampParts
stamp_of_fields date clock end = do
  month ← month_of (part 4 3 date)
  day ← day_of (part 8 2 date)
  second ← clock_of clock
  year_zone ← end_of end
  civil ← civil_day_of year_zone.0 month day
  Some (record { day = civil; second = second; zone_minutes = year_zone.1 })

-- the same, where the clock has its seconds or not
unfoldable pub stamp_in_frame : List ℕ → Option StampParts
stamp_in_frame date =
    if slice_index date 16 == 58 then stamp_of_fields date (part 11 8 date) (drop 19 date)
    else stamp_of_fields date (part 11 5 date) (drop 16 date)

-- the stamp of a from date
unfoldable pub from_date_of : List ℕ → Option StampParts
from_date_of date = if has_frame date then stamp_in_frame date else None

-- a from date is a text that has a stamp
abbrev pub IsFromDate : List ℕ → Type 0
IsFromDate date = IsSome (from_date_of date)

-- the from date of a day and a second in UTC, such as `Mon Apr  1 12:00:00 2024`
unfoldable pub from_date_text : ℤ → ℕ → List ℕ
from_date_text day second =
    let date = civil_of day in
    (weekday_text day ++ codes " " ++ month_text date.month ++ codes " " ++ day_text date.day ++ codes " ")
    ++ clock_text second ++ (codes " " ++ digits_in 10 4 date.year)
