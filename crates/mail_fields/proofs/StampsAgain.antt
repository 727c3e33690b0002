-- Each stamp is read again from each date that is written of it: its day has a date of the years 0000 to 9999.
use Rattle.std.proofs.Common.{◌≡◌, ◌≤◌, ◌<◌, ◌+◌, ◌-◌, ◌+ℤ◌, ℕ, zero, suc, pos, unsigned_abs, true, nat_le, cond, Some, refl, sym, ◌∙◌, ap, subst, arith, ⊎_elim}
use Rattle.std.proofs.lemmas.Bool.{cases_lt, lt-ltb, le-ltb}
use Rattle.std.proofs.lemmas.Bool.Decides.{nat_tests}
use Rattle.jiff_core.specs.Calendar.{day_count, days_in_year, days_in_month, days_from_civil}
use Rattle.jiff_core.proofs.SignedLemmas.{signed_arith, one_part}
use Rattle.jiff_core.proofs.CalendarLemmas.{days_from_civil-day_count, day_count-next_year, day_count-next_month, day_count-day, day_count-last_of_year, days_in_month_bounds, day_count-end}
use Rattle.mail_fields.specs.declared.stamp.Stamp.{Stamp}
use Rattle.mail_fields.specs.CivilDays.{year_from, month_from, civil_of, civil_day_of}
use Rattle.mail_fields.specs.Stamps.{parts_of}
use Rattle.mail_fields.proofs.Days.{day_count-zero, days-from_zero}
use Rattle.mail_fields.specs.FromDate.{from_date_of, from_date_text}
use Rattle.mail_fields.specs.ImapDate.{imap_date_of, imap_date_text}
use Rattle.mail_fields.specs.MixDate.{mix_date_of, mix_date_text}
use Rattle.mail_fields.proofs.FromDateReads.{from-reads}
use Rattle.mail_fields.proofs.ReadBack.{CanStand, imap-reads, mix-reads}

-- ---- The date of a day

-- where whole years are taken off, the rest lies in the year that is reached
record IsYearFrom (more year days : ℕ) (found : ℕ × ℕ) : Type 0 where
  inside : found.1 < days_in_year (pos found.0)
  counts : found.1 + day_count (pos found.0) 1 1 ≡ days + day_count (pos year) 1 1
  high : found.0 ≤ year + more

year_is : (more year days : ℕ) → days + day_count (pos year) 1 1 < day_count (pos (year + more + 1)) 1 1 → IsYearFrom more year days (year_from more year days)
unfolding year_from
year_is zero year days below =
    let next = day_count-next_year (pos year) (pos (year + 1)) (omega (arith, signed_arith)) (omega (arith, signed_arith)) in
    let same : day_count (pos (year + zero + 1)) 1 1 ≡ day_count (pos (year + 1)) 1 1 = ap (λ n. day_count (pos n) 1 1) (omega arith) in
    record { inside = omega (arith, below, next, same); counts = refl; high = omega arith }
year_is (suc more) year days below =
    let next = day_count-next_year (pos year) (pos (year + 1)) (omega (arith, signed_arith)) (omega (arith, signed_arith)) in
    let same : day_count (pos (year + suc more + 1)) 1 1 ≡ day_count (pos (year + 1 + more + 1)) 1 1 = ap (λ n. day_count (pos n) 1 1) (omega arith) in
    ⊎_elim
    (λ short. subst (IsYearFrom (suc more) year days) (sym (ap (λ test. cond test (year, days) (year_from more (year + 1) (days - days_in_year (pos year)))) (lt-ltb days (days_in_year (pos year)) short)))
    (record { inside = short; counts = refl; high = omega arith }))
    (λ long.
    let later = year_is more (year + 1) (days - days_in_year (pos year)) (omega (arith, below, next, same, long)) in
    subst (IsYearFrom (suc more) year days) (sym (ap (λ test. cond test (year, days) (year_from more (year + 1) (days - days_in_year (pos year)))) (le-ltb days (days_in_year (pos year)) long)))
    (record { inside = later.inside; counts = omega (arith, later.counts, next, long); high = omega (arith, later.high) }))
    (cases_lt days (days_in_year (pos year)))

-- the same of the months of a year
record IsMonthFrom (more year month days : ℕ) (found : ℕ × ℕ) : Type 0 where
  inside : found.1 < days_in_month (pos year) found.0
  counts : found.1 + day_count (pos year) found.0 1 ≡ days + day_count (pos year) month 1
  low : month ≤ found.0
  high : found.0 ≤ month + more

month_is : (more year month days : ℕ) → 1 ≤ month → days + day_count (pos year) month 1 < day_count (pos year) (month + more + 1) 1 → IsMonthFrom more year month days (month_from more year month days)
unfolding month_from
month_is zero year month days first below =
    let next = day_count-next_month (pos year) month first in
    let same : day_count (pos year) (month + zero + 1) 1 ≡ day_count (pos year) (month + 1) 1 = ap (λ n. day_count (pos year) n 1) (omega arith) in
    record { inside = omega (arith, below, next, same); counts = refl; low = omega arith; high = omega arith }
month_is (suc more) year month days first below =
    let next = day_count-next_month (pos year) month first in
    let same : day_count (pos year) (month + suc more + 1) 1 ≡ day_count (pos year) (month + 1 + more + 1) 1 = ap (λ n. day_count (pos year) n 1) (omega arith) in
    ⊎_elim
    (λ short. subst (IsMonthFrom (suc more) year month days) (sym (ap (λ test. cond test (month, days) (month_from more year (month + 1) (days - days_in_month (pos year) month))) (lt-ltb days (days_in_month (pos year) month) short)))
    (record { inside = short; counts = refl; low = omega arith; high = omega arith }))
    (λ long.
    let later = month_is more year (month + 1) (days - days_in_month (pos year) month) (omega arith) (omega (arith, below, next, same, long)) in
    subst (IsMonthFrom (suc more) year month days) (sym (ap (λ test. cond test (month, days) (month_from more year (month + 1) (days - days_in_month (pos year) month))) (le-ltb days (days_in_month (pos year) month) long)))
    (record { inside = later.inside; counts = omega (arith, later.counts, next, long); low = omega (arith, later.low); high = omega (arith, later.high) }))
    (cases_lt days (days_in_month (pos year) month))

-- ---- Each date text

-- a stamp can be written
pub stamp_stands : (s : Stamp) → CanStand (parts_of s)
unfolding civil_of civil_day_of
stamp_stands s =
    let days = unsigned_abs (s.day +ℤ pos 719528) in
    let start : days ≤ 3652424 = omega (arith, signed_arith, s.day_in.0, s.day_in.1, one_part (s.day +ℤ pos 719528)) in
    let end : day_count (pos (0 + 9999 + 1)) 1 1 ≡ 7304850 = ap (λ n. day_count (pos n) 1 1) (omega arith) ∙ day_count-end in
    let year = year_is 9999 0 days (omega (arith, start, end, day_count-zero)) in
    let y = (year_from 9999 0 days).0 in
    let rest = (year_from 9999 0 days).1 in
    let last = day_count-last_of_year (pos y) in
    let december = day_count-next_month (pos y) 12 (omega arith) in
    let whole = day_count-day (pos y) 12 1 31 (omega arith) (omega arith) in
    let ends : day_count (pos y) (1 + 11 + 1) 1 ≡ day_count (pos y) (12 + 1) 1 = refl in
    let month = month_is 11 y 1 rest (omega arith) (omega (arith, year.inside, last, december, whole, ends)) in
    let m = (month_from 11 y 1 rest).0 in
    let d = (month_from 11 y 1 rest).1 in
    let at = day_count-day (pos y) m 1 (d + 1) (omega arith) (omega arith) in
    let late = days-from_zero y m (d + 1) (omega arith) in
    let same : days_from_civil (pos y) m (d + 1) ≡ s.day =
    omega (arith, signed_arith, s.day_in.0, late, day_count-zero, one_part (s.day +ℤ pos 719528), days_from_civil-day_count (pos y) m (d + 1), at, month.counts, year.counts) in
    let low : nat_le 1 (d + 1) ≡ true = grind (arith, nat_tests) in
    let inside : nat_le (d + 1) (days_in_month (pos y) m) ≡ true = let e = month.inside in grind (arith, nat_tests, e) in
    record {
      valid = rw (low, inside) (ap (λ z. Some z) same);
      year = omega (arith, year.high);
      month_low = month.low;
      month_high = month.high;
      day = omega (arith, month.inside, days_in_month_bounds (pos y) m);
      second = s.second_in;
      zone_low = s.zone_in.0;
      zone_high = s.zone_in.1;
    }

-- as IMAP writes it
pub imap_again : (s : Stamp) → imap_date_of (imap_date_text (parts_of s)) ≡ Some (parts_of s)
imap_again s = imap-reads (parts_of s) (stamp_stands s)

-- as mix files write it
pub mix_again : (s : Stamp) → mix_date_of (mix_date_text (parts_of s)) ≡ Some (parts_of s)
mix_again s = mix-reads (parts_of s) (stamp_stands s)

-- as delimiter lines write it, in UTC
pub from_again : (s : Stamp) → s.zone_minutes ≡ pos 0 → from_date_of (from_date_text s.day s.second) ≡ Some (parts_of s)
from_again s utc = from-reads (parts_of s) (stamp_stands s) utc
