-- What is written as a from date is read again as the same stamp.
use Rattle.std.proofs.Common.{◌≡◌, ℕ, zero, suc, ◌<◌, ◌≤◌, true, List, [], ◌∷◌, ◌++◌, length, length-append, get_or, take, drop, codes, Some, is_some, refl, sym, ap, ◌∙◌, subst, arith, ℤ, pos}
use Rattle.jiff_core.specs.Calendar.{weekday_number}
use Rattle.jiff_core.proofs.CalendarLemmas.{weekday_number_bound}
use Rattle.mail_fields.specs.Numbers.{digits_in, place_of}
use Rattle.mail_fields.specs.Texts.{written_at}
use Rattle.mail_fields.specs.Stamps.{StampParts}
use Rattle.mail_fields.specs.CivilDays.{day_names, month_of, day_of, civil_day_of, civil_of, month_text, day_text, weekday_text}
use Rattle.mail_fields.specs.Clock.{clock_text}
use Rattle.mail_fields.specs.FromDate.{end_of, stamp_of_fields, stamp_in_frame, from_date_of, from_date_text}
use Rattle.mail_fields.proofs.Digits.{number-digits}
use Rattle.mail_fields.proofs.Texts.{read-written}
use Rattle.mail_fields.proofs.DateTexts.{month-reads, length-day_text}
use Rattle.mail_fields.proofs.ReadBack.{CanStand, cells_of, cells, day-reads, clock-reads, length-clock}

each-weekday : (number : ℕ) → number < 7 → (is_some (place_of (get_or day_names number []) day_names) ≡ true) × (length (get_or day_names number []) ≡ 3)
each-weekday zero low = (refl, refl)
each-weekday (suc zero) low = (refl, refl)
each-weekday (suc (suc zero)) low = (refl, refl)
each-weekday (suc (suc (suc zero))) low = (refl, refl)
each-weekday (suc (suc (suc (suc zero)))) low = (refl, refl)
each-weekday (suc (suc (suc (suc (suc zero))))) low = (refl, refl)
each-weekday (suc (suc (suc (suc (suc (suc zero)))))) low = (refl, refl)
each-weekday (suc (suc (suc (suc (suc (suc (suc k))))))) low = absurd (omega arith)

weekday-reads : (day : ℤ) → (is_some (place_of (weekday_text day) day_names) ≡ true) × (length (weekday_text day) ≡ 3)
unfolding weekday_text
weekday-reads day = each-weekday (weekday_number day) (weekday_number_bound day)

from-cells : (a b c d e f g h second year month day : ℕ) (civil : ℤ)
    → is_some (place_of (a ∷ b ∷ c ∷ []) day_names) ≡ true → month_of (d ∷ e ∷ f ∷ []) ≡ Some month → day_of (g ∷ h ∷ []) ≡ Some day
    → second < 86400 → year < 10000 → civil_day_of year month day ≡ Some civil
    → from_date_of (a ∷ b ∷ c ∷ 32 ∷ d ∷ e ∷ f ∷ 32 ∷ g ∷ h ∷ 32 ∷ (clock_text second ++ (32 ∷ digits_in 10 4 year)))
    ≡ Some (record { day = civil; second = second; zone_minutes = pos 0 })
unfolding from_date_of stamp_in_frame stamp_of_fields end_of clock_text
from-cells a b c d e f g h second year month day civil name months days small low valid =
    let clock = clock-reads second small in
    let reads = number-digits 10 4 year (omega arith) (omega arith) low in
    rw (name, months, days, clock, reads, valid) refl

from-frame : (name months days : List ℕ) (second year month day : ℕ) (civil : ℤ) → length name ≡ 3 → length months ≡ 3 → length days ≡ 2
    → is_some (place_of name day_names) ≡ true → month_of months ≡ Some month → day_of days ≡ Some day
    → second < 86400 → year < 10000 → civil_day_of year month day ≡ Some civil
    → from_date_of ((name ++ codes " " ++ months ++ codes " " ++ days ++ codes " ") ++ clock_text second ++ (codes " " ++ digits_in 10 4 year))
    ≡ Some (record { day = civil; second = second; zone_minutes = pos 0 })
from-frame name months days second year month day civil n m d =
    let Reads : List ℕ → List ℕ → List ℕ → Type 0 = λ name months days.
    is_some (place_of name day_names) ≡ true → month_of months ≡ Some month → day_of days ≡ Some day
    → second < 86400 → year < 10000 → civil_day_of year month day ≡ Some civil
    → from_date_of ((name ++ codes " " ++ months ++ codes " " ++ days ++ codes " ") ++ clock_text second ++ (codes " " ++ digits_in 10 4 year))
    ≡ Some (record { day = civil; second = second; zone_minutes = pos 0 }) in
    let one : Reads (cells_of 3 name) (cells_of 3 months) (cells_of 2 days) = from-cells _ _ _ _ _ _ _ _ second year month day civil in
    let two = subst (λ x. Reads x (cells_of 3 months) (cells_of 2 days)) (cells 3 name n) one in
    let three = subst (λ x. Reads name x (cells_of 2 days)) (cells 3 months m) two in
    subst (λ x. Reads name months x) (cells 2 days d) three

from-length : (name month day clock year : List ℕ) → length name ≡ 3 → length month ≡ 3 → length day ≡ 2 → length clock ≡ 8 → length year ≡ 4
    → length ((name ++ codes " " ++ month ++ codes " " ++ day ++ codes " ") ++ clock ++ (codes " " ++ year)) ≡ 24
from-length name month day clock year n m d c y = omega (arith, length-append {A = ℕ})

-- a stamp in UTC that can be written
pub from-reads : (stamp : StampParts) → CanStand stamp → stamp.zone_minutes ≡ pos 0 → from_date_of (from_date_text stamp.day stamp.second) ≡ Some stamp
unfolding from_date_text
from-reads stamp can zone =
    let date = civil_of stamp.day in
    let name = weekday-reads stamp.day in
    let month = month-reads date.month can.month_low can.month_high in
    from-frame (weekday_text stamp.day) (month_text date.month) (day_text date.day) stamp.second date.year date.month date.day stamp.day
    name.1 month.1 (length-day_text date.day) name.0 month.0 (day-reads date.day can.day) can.second can.year can.valid
    ∙ ap (λ z. Some (record { day = stamp.day; second = stamp.second; zone_minutes = z })) (sym zone)

-- a from date has 24 bytes
pub from-width : (stamp : StampParts) → CanStand stamp → length (from_date_text stamp.day stamp.second) ≡ 24
unfolding from_date_text
from-width stamp can =
    let date = civil_of stamp.day in
    from-length (weekday_text stamp.day) (month_text date.month) (day_text date.day) (clock_text stamp.second) (digits_in 10 4 date.year)
    (weekday-reads stamp.day).1 (month-reads date.month can.month_low can.month_high).1 (length-day_text date.day) (length-clock stamp.second) refl

-- and it stands where it was written
pub from-stands : (buffer : List ℕ) (place : ℕ) (stamp : StampParts) → CanStand stamp → stamp.zone_minutes ≡ pos 0 → place ≤ length buffer
    → from_date_of (take 24 (drop place (written_at buffer place (from_date_text stamp.day stamp.second)))) ≡ Some stamp
from-stands buffer place stamp can zone inside =
    let text = from_date_text stamp.day stamp.second in
    ap (λ n. from_date_of (take n (drop place (written_at buffer place text)))) (sym (from-width stamp can))
    ∙ ap from_date_of (read-written buffer text place inside) ∙ from-reads stamp can zone
