-- Times of day and zones, as dates write them.
use Rattle.std.specs.Prelude.{ℕ, ℤ, pos, neg_ℤ, int_lt, unsigned_abs, ◌+◌, ◌*◌, ◌/◌, ◌%◌, ◌++◌, codes, List, Option, Some, None, ◌==◌, if◌then◌else◌, length, take, drop, slice_index}
use Rattle.mail_fields.specs.Numbers.{◌>>=◌, number_below, digits_in}
use Rattle.mail_fields.specs.CivilDays.{part}

-- a colon and two digits below 60
unfoldable pub sixtieth_of : List ℕ → Option ℕ
sixtieth_of bytes = if slice_index bytes 0 == 58 then number_below 60 (drop 1 bytes) else None

-- the seconds of a clock, 0 where it has none
unfoldable pub seconds_of : List ℕ → Option ℕ
seconds_of bytes = if length bytes == 0 then Some 0 else sixtieth_of bytes

-- the second of the day of `hh:mm:ss`, or of `hh:mm`
unfoldable pub clock_of : List ℕ → Option ℕ
clock_of clock = do
  hour ← number_below 24 (take 2 clock)
  minute ← sixtieth_of (part 2 3 clock)
  second ← seconds_of (drop 5 clock)
  Some (3600 * hour + 60 * minute + second)

-- minutes with their sign
abbrev pub signed : ℕ → ℕ → Option ℤ
signed sign minutes = if sign == 43 then Some (pos minutes) else (if sign == 45 then Some (neg_ℤ (pos minutes)) else None)

-- the minutes of `+hhmm` or `-hhmm`
unfoldable pub offset_of : List ℕ → Option ℤ
offset_of zone = do
  hours ← number_below 24 (part 1 2 zone)
  minutes ← number_below 60 (drop 3 zone)
  signed (slice_index zone 0) (60 * hours + minutes)

-- a second of the day as `hh:mm:ss`
unfoldable pub clock_text : ℕ → List ℕ
clock_text second =
    digits_in 10 2 (second / 3600) ++ codes ":" ++ digits_in 10 2 (second / 60 % 60) ++ codes ":" ++ digits_in 10 2 (second % 60)

-- the same as `hhmmss`
unfoldable pub digits_clock_text : ℕ → List ℕ
digits_clock_text second = digits_in 10 2 (second / 3600) ++ digits_in 10 2 (second / 60 % 60) ++ digits_in 10 2 (second % 60)

-- a zone in minutes as `+hhmm` or `-hhmm`
unfoldable pub zone_text : ℤ → List ℕ
zone_text zone =
    (if int_lt zone (pos 0) then codes "-" else codes "+") ++ digits_in 10 2 (unsigned_abs zone / 60) ++ digits_in 10 2 (unsigned_abs zone % 60)
