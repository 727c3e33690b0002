-- Dates with a time as IMAP writes them, such as ` 2-Apr-2024 08:00:00 +0200` (RFC 3501, section 9, date-time).
use Rattle.std.specs.Prelude.{ℕ, ◌++◌, codes, List, Option, Some, None, ◌==◌, ◌&&◌, if◌then◌else◌, length, take, drop, slice_index}
use Rattle.mail_fields.specs.Numbers.{◌>>=◌, digits_in}
use Rattle.mail_fields.specs.CivilDays.{part, day_of, dashed_date_of, CivilDate, civil_of, day_text, month_text}
use Rattle.mail_fields.specs.Clock.{clock_of, offset_of, clock_text, zone_text}
use Rattle.mail_fields.specs.Stamps.{StampParts}

-- the fields of a text of this form
unfoldable pub imap_fields_of : List ℕ → Option StampParts
imap_fields_of text = do
  day ← day_of (take 2 text)
  civil ← dashed_date_of day (part 2 9 text)
  second ← clock_of (part 12 8 text)
  minutes ← offset_of (drop 21 text)
  Some (record { day = civil; second = second; zone_minutes = minutes })

-- `dd-Mon-yyyy hh:mm:ss +zzzz`, where a day below 10 may begin with a space
unfoldable pub imap_date_of : List ℕ → Option StampParts
imap_date_of text = if (length text == 26) && (slice_index text 11 == 32) && (slice_index text 20 == 32) then imap_fields_of text else None

-- a civil date as `dd-Mon-yyyy` and a space
unfoldable pub dashed_date_text : CivilDate → List ℕ
dashed_date_text date = day_text date.day ++ codes "-" ++ month_text date.month ++ codes "-" ++ digits_in 10 4 date.year ++ codes " "

-- the text of a stamp in this form, the day with a space where it is below 10
unfoldable pub imap_date_text : StampParts → List ℕ
imap_date_text stamp = dashed_date_text (civil_of stamp.day) ++ clock_text stamp.second ++ (codes " " ++ zone_text stamp.zone_minutes)
