-- The date of a day number.
use Rattle.std.proofs.Common.{◌≡◌, ℕ, zero, suc, ◌+◌, ◌-◌, ◌<◌, ◌≤◌, ⊎_elim, Some, true, nat_le, cond, refl, sym, ap, ◌∙◌, arith, ℤ, pos, negsuc, neg_ℤ, ◌≤ℤ◌, ◌<ℤ◌, subst, ◌+ℤ◌, unsigned_abs}
use Rattle.std.proofs.lemmas.Bool.{cases_lt, lt-ltb, le-ltb}
use Rattle.std.proofs.lemmas.Bool.Decides.{nat_tests}
use Rattle.jiff_core.specs.Calendar.{day_count, day_of_year, days_in_year, days_in_month, days_from_civil, IsCivilDate}
use Rattle.jiff_core.proofs.SignedLemmas.{signed_arith, one_part}
use Rattle.jiff_core.proofs.CalendarLemmas.{days_from_civil-day_count, day_count-day_of_year, day_of_year_bound, day_count-later_year, day_count-next_year, day_count-next_month, day_count-lt_month, day_count-lt_year, day_count-day, days_in_month_bounds}
use Rattle.jiff_core.specs.declared.civil.date.Date.{Date}
use Rattle.jiff_core.specs.Date.{epoch_day}
use Rattle.jiff_core.proofs.DateLemmas as dates
use Rattle.mail_fields.specs.CivilDays.{year_from, month_from, civil_of, civil_day_of}
use Rattle.mail_fields.proofs.Days.{day_count-zero, days-from_zero}

-- a date of the years 0000 to 9999
pub record IsDateOf (year month day : ℕ) : Type 0 where
  pub year_high : year ≤ 9999
  pub month_low : 1 ≤ month
  pub month_high : month ≤ 12
  pub day_low : 1 ≤ day
  pub day_high : day ≤ days_in_month (pos year) month

civil : (y m d : ℕ) → IsDateOf y m d → IsCivilDate (pos y) m d
civil y m d is = ((omega (arith, signed_arith), omega (arith, signed_arith)), (is.month_low, is.month_high), (is.day_low, is.day_high))

pair : {a b x y : ℕ} → a ≡ b → x ≡ y → ◌≡◌ {A = ℕ × ℕ} (a, x) (b, y)
pair one two = cc

year-found : (more year days y m d : ℕ) → IsDateOf y m d → days + day_count (pos year) 1 1 ≡ day_count (pos y) m d → year ≤ y → y ≤ year + more
    → year_from more year days ≡ (y, day_of_year (pos y) m d - 1)
unfolding year_from
year-found zero year days y m d is count low high =
    let same : year ≡ y = omega arith in
    let place = day_count-day_of_year (pos y) m d is.day_low in
    let first : day_count (pos year) 1 1 ≡ day_count (pos y) 1 1 = ap (λ x. day_count (pos x) 1 1) same in
    pair same (omega arith)
year-found (suc more) year days y m d is count low high =
    let stay : ℕ × ℕ = (year, days) in
    let go : ℕ × ℕ = year_from more (year + 1) (days - days_in_year (pos year)) in
    let place = day_count-day_of_year (pos y) m d is.day_low in
    let inside = day_of_year_bound (pos y) m d (civil y m d is) in
    let next = day_count-next_year (pos year) (pos (year + 1)) (omega (arith, signed_arith)) (omega (arith, signed_arith)) in
    ⊎_elim
    (λ earlier.
    let later = day_count-later_year (pos year) (pos y) (omega (arith, signed_arith)) (omega (arith, signed_arith)) in
    let long : days_in_year (pos year) ≤ days = omega arith in
    ap (λ test. cond test stay go) (le-ltb days (days_in_year (pos year)) long)
    ∙ year-found more (year + 1) (days - days_in_year (pos year)) y m d is (omega arith) (omega arith) (omega arith))
    (λ reached.
    let same : year ≡ y = omega arith in
    let first : day_count (pos year) 1 1 ≡ day_count (pos y) 1 1 = ap (λ x. day_count (pos x) 1 1) same in
    let length : days_in_year (pos year) ≡ days_in_year (pos y) = ap (λ x. days_in_year (pos x)) same in
    let short : days < days_in_year (pos year) = omega arith in
    ap (λ test. cond test stay go) (lt-ltb days (days_in_year (pos year)) short) ∙ pair same (omega arith))
    (cases_lt year y)

month-found : (more month days y m d : ℕ) → IsDateOf y m d → 1 ≤ month → days + day_count (pos y) month 1 ≡ day_count (pos y) m d → month ≤ m → m ≤ month + more
    → month_from more y month days ≡ (m, d - 1)
unfolding month_from
month-found zero month days y m d is first count low high =
    let same : month ≡ m = omega arith in
    let place = day_count-day (pos y) m 1 d (omega arith) is.day_low in
    let start : day_count (pos y) month 1 ≡ day_count (pos y) m 1 = ap (λ x. day_count (pos y) x 1) same in
    pair same (omega arith)
month-found (suc more) month days y m d is first count low high =
    let stay : ℕ × ℕ = (month, days) in
    let width = days_in_month (pos y) month in
    let go : ℕ × ℕ = month_from more y (month + 1) (days - width) in
    let place = day_count-day (pos y) m 1 d (omega arith) is.day_low in
    let wide = days_in_month_bounds (pos y) month in
    let next = day_count-next_month (pos y) month first in
    ⊎_elim
    (λ earlier.
    let last = day_count-day (pos y) month 1 width (omega arith) (omega arith) in
    let before = day_count-lt_month (pos y) month width m d (civil y month width (record { year_high = is.year_high; month_low = first; month_high = omega arith; day_low = omega arith; day_high = omega arith })) is.day_low earlier in
    let long : width ≤ days = omega arith in
    ap (λ test. cond test stay go) (le-ltb days width long)
    ∙ month-found more (month + 1) (days - width) y m d is (omega arith) (omega arith) (omega arith) (omega arith))
    (λ reached.
    let same : month ≡ m = omega arith in
    let start : day_count (pos y) month 1 ≡ day_count (pos y) m 1 = ap (λ x. day_count (pos y) x 1) same in
    let same_width : width ≡ days_in_month (pos y) m = ap (λ x. days_in_month (pos y) x) same in
    let short : days < width = omega (arith, is.day_high, is.day_low) in
    ap (λ test. cond test stay go) (lt-ltb days width short) ∙ pair same (omega arith))
    (cases_lt month m)

pub civil-found : (y m d : ℕ) (day : ℤ) → IsDateOf y m d → day ≡ days_from_civil (pos y) m d → civil_of day ≡ record { year = y; month = m; day = d }
unfolding civil_of
civil-found y m d day is number =
    let days = unsigned_abs (day +ℤ pos 719528) in
    let place = day_count-day_of_year (pos y) m d is.day_low in
    let late = days-from_zero y m d is.day_low in
    let start : days + day_count (pos 0) 1 1 ≡ day_count (pos y) m d =
    omega (arith, signed_arith, number, late, day_count-zero, one_part (day +ℤ pos 719528), days_from_civil-day_count (pos y) m d) in
    let year : year_from 9999 0 days ≡ (y, day_of_year (pos y) m d - 1) = year-found 9999 0 days y m d is start (omega arith) (omega (arith, is.year_high)) in
    let month : month_from 11 y 1 (day_of_year (pos y) m d - 1) ≡ (m, d - 1) =
    month-found 11 1 (day_of_year (pos y) m d - 1) y m d is (omega arith) (omega (arith, is.day_low)) is.month_low (omega (arith, is.month_high)) in
    let last : d - 1 + 1 ≡ d = omega (arith, is.day_low) in
    rw (year, month, last) refl

not-negative : (z : ℤ) → (z <ℤ pos 0 → ⊥) → z ≡ pos (unsigned_abs z)
not-negative (pos n) none = refl
not-negative (negsuc n) none = absurd (none (omega (arith, signed_arith)))

-- a date of the library that isn't before the year 0000
date-is : (date : Date) → date.year ≡ pos (unsigned_abs date.year) → IsDateOf (unsigned_abs date.year) date.month date.day
date-is date same =
    let inside : date.day ≤ days_in_month (pos (unsigned_abs date.year)) date.month = subst (λ y. date.day ≤ days_in_month y date.month) same date.day_in.1 in
    record {
      year_high = omega (arith, signed_arith, date.year_in);
      month_low = date.month_in.0;
      month_high = date.month_in.1;
      day_low = date.day_in.0;
      day_high = inside;
    }

-- what a date of the library, not before the year 0000, says of the date of its day number
pub record IsFound (date : Date) (day : ℤ) : Type 0 where
  pub year : date.year ≡ pos (civil_of day).year
  pub month : date.month ≡ (civil_of day).month
  pub day_is : date.day ≡ (civil_of day).day
  pub valid : civil_day_of (civil_of day).year (civil_of day).month (civil_of day).day ≡ Some day
  pub year_small : (civil_of day).year < 10000
  pub day_small : (civil_of day).day < 100

valid-date : (y m d : ℕ) → IsDateOf y m d → civil_day_of y m d ≡ Some (days_from_civil (pos y) m d)
unfolding civil_day_of
valid-date y m d is =
    let low : nat_le 1 d ≡ true = grind (arith, nat_tests, is.day_low) in
    let high : nat_le d (days_in_month (pos y) m) ≡ true = grind (arith, nat_tests, is.day_high) in
    rw (low, high) refl

pub date-found : (date : Date) (day : ℤ) → epoch_day date ≡ day → neg_ℤ (pos 719528) ≤ℤ day
    → IsFound date day
date-found date day number late =
    let same : date.year ≡ pos (unsigned_abs date.year) = not-negative date.year (λ early.
    omega (arith, signed_arith, number, late, day_count-zero, days_from_civil-day_count date.year date.month date.day, day_count-lt_year date.year date.month date.day (pos 0) 1 1 (dates.civil date) (omega arith) early)) in
    let is = date-is date same in
    let own : day ≡ days_from_civil (pos (unsigned_abs date.year)) date.month date.day = sym number ∙ ap (λ y. days_from_civil y date.month date.day) same in
    let found = civil-found (unsigned_abs date.year) date.month date.day day is own in
    let short = days_in_month_bounds (pos (unsigned_abs date.year)) date.month in
    record {
      year = rw found same;
      month = rw found refl;
      day_is = rw found refl;
      valid = rw found (valid-date (unsigned_abs date.year) date.month date.day is ∙ ap (λ z. Some z) (sym own));
      year_small = rw found (omega (arith, is.year_high));
      day_small = rw found (omega (arith, is.day_high));
    }
