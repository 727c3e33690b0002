-- Months, days of months and days of the calendar, as dates write them (RFC 5322, section 3.3).
use Rattle.std.specs.Prelude.{ℕ, zero, suc, ℤ, pos, ◌+ℤ◌, unsigned_abs, ◌+◌, ◌-◌, nat_lt, get_or, List, [], ◌∷◌, Option, Some, None, nat_le, ◌==◌, ◌&&◌, if◌then◌else◌, take, drop, slice_index, codes, option_map}
use Rattle.jiff_core.specs.Calendar.{days_in_year, days_in_month, days_from_civil, weekday_number}
use Rattle.mail_fields.specs.Numbers.{◌>>=◌, number_of, digits_in, place_of}

-- the bytes from a place on, so many of them
abbrev pub part : ℕ → ℕ → List ℕ → List ℕ
part at width bytes = take width (drop at bytes)

-- the names of the days and months (RFC 5322, section 3.3)
abbrev pub day_names : List (List ℕ)
day_names = codes "Mon" ∷ codes "Tue" ∷ codes "Wed" ∷ codes "Thu" ∷ codes "Fri" ∷ codes "Sat" ∷ codes "Sun" ∷ []

abbrev pub month_names : List (List ℕ)
month_names =
    codes "Jan" ∷ codes "Feb" ∷ codes "Mar" ∷ codes "Apr" ∷ codes "May" ∷ codes "Jun"
    ∷ codes "Jul" ∷ codes "Aug" ∷ codes "Sep" ∷ codes "Oct" ∷ codes "Nov" ∷ codes "Dec" ∷ []

-- the month of a name, from 1
unfoldable pub month_of : List ℕ → Option ℕ
month_of name = option_map (λ place. place + 1) (place_of name month_names)

-- a day of the month: two digits, or a space and a digit
unfoldable pub day_of : List ℕ → Option ℕ
day_of bytes = if slice_index bytes 0 == 32 then number_of (drop 1 bytes) else number_of bytes

-- the number of a day, if the calendar has it
unfoldable pub civil_day_of : ℕ → ℕ → ℕ → Option ℤ
civil_day_of year month day =
    if nat_le 1 day && nat_le day (days_in_month (pos year) month) then Some (days_from_civil (pos year) month day) else None

-- the day number of a day of `-Mon-yyyy`, as dates of IMAP write it (RFC 3501, section 9)
unfoldable pub dashed_date_of : ℕ → List ℕ → Option ℤ
dashed_date_of day rest =
    if (slice_index rest 0 == 45) && (slice_index rest 4 == 45) then (do
      month ← month_of (part 1 3 rest)
      year ← number_of (drop 5 rest)
      civil_day_of year month day)
    else None

-- a day of the calendar
pub record CivilDate : Type 0 where
  pub year : ℕ
  pub month : ℕ
  pub day : ℕ

-- the year in which a day lies that is counted from 1 January of a year, and its place there from 0: whole years are taken off, at most so many
unfoldable pub year_from : ℕ → ℕ → ℕ → ℕ × ℕ
year_from zero year days = (year, days)
year_from (suc more) year days =
    if nat_lt days (days_in_year (pos year)) then (year, days) else year_from more (year + 1) (days - days_in_year (pos year))

-- the same for the months of a year, the day counted from the first of a month
unfoldable pub month_from : ℕ → ℕ → ℕ → ℕ → ℕ × ℕ
month_from zero year month days = (month, days)
month_from (suc more) year month days =
    if nat_lt days (days_in_month (pos year) month) then (month, days) else month_from more year (month + 1) (days - days_in_month (pos year) month)

-- the date of a day number of the years 0000 to 9999
unfoldable pub civil_of : ℤ → CivilDate
civil_of day =
    let year = year_from 9999 0 (unsigned_abs (day +ℤ pos 719528)) in
    let month = month_from 11 year.0 1 year.1 in
    record { year = year.0; month = month.0; day = month.1 + 1 }

-- the name of a month, from 1
unfoldable pub month_text : ℕ → List ℕ
month_text month = get_or month_names (month - 1) []

-- the name of the day of the week of a day number
unfoldable pub weekday_text : ℤ → List ℕ
weekday_text day = get_or day_names (weekday_number day) []

-- a day of a month, with a space where it has one digit
unfoldable pub day_text : ℕ → List ℕ
day_text day = if nat_lt day 10 then 32 ∷ digits_in 10 1 day else digits_in 10 2 day
