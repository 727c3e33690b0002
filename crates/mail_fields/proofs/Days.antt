-- The first day of the year 0000 comes before all days of the years from it on.
use Rattle.std.proofs.Common.{◌≡◌, ℕ, zero, suc, ◌≤◌, refl, arith, pos, neg_ℤ, ◌≤ℤ◌}
use Rattle.jiff_core.specs.Calendar.{day_count, days_from_civil}
use Rattle.jiff_core.proofs.SignedLemmas.{signed_arith}
use Rattle.jiff_core.proofs.MarchLemmas.{day_count-early}
use Rattle.jiff_core.proofs.CalendarLemmas.{days_from_civil-day_count, day_count-day_of_year, day_count-later_year}

pub day_count-zero : day_count (pos 0) 1 1 ≡ 3652425
day_count-zero = day_count-early (pos 0) 9999 1 1 refl (omega arith) (omega arith) (omega arith)

day_count-from_zero : (year : ℕ) → 3652425 ≤ day_count (pos year) 1 1
day_count-from_zero zero = omega (arith, day_count-zero)
day_count-from_zero (suc year) =
    omega (arith, day_count-zero, day_count-later_year (pos 0) (pos (suc year)) (omega (arith, signed_arith)) (omega (arith, signed_arith)))

pub days-from_zero : (year month day : ℕ) → 1 ≤ day → neg_ℤ (pos 719528) ≤ℤ days_from_civil (pos year) month day
days-from_zero year month day first =
    omega (arith, signed_arith, days_from_civil-day_count (pos year) month day, day_count-day_of_year (pos year) month day first, day_count-from_zero year)
