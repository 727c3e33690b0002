-- What is written as a date is read again as the same stamp.
use Rattle.std.proofs.Common.{◌≡◌, ℕ, zero, suc, ◌+◌, ◌*◌, ◌/◌, ◌%◌, ◌<◌, ◌≤◌, ⊎_elim, false, true, nat_le, List, [], ◌∷◌, ◌++◌, length, length-append, get_or, take, drop, codes, Option, Some, refl, sym, ap, ◌∙◌, subst, arith, ℤ, pos, negsuc, neg_ℤ, ◌≤ℤ◌, ◌==◌}
use Rattle.std.proofs.lemmas.Bool.{cases_lt, lt-ltb, le-ltb, ne_eqb}
use Rattle.std.proofs.lemmas.Bool.Decides.{nat_tests}
use Rattle.std.specs.Char.{digit_char}
use Rattle.jiff_core.proofs.SignedLemmas.{signed_arith}
use Rattle.mail_fields.specs.Numbers.{◌>>=◌, number_of, number_below, digits_in}
use Rattle.mail_fields.specs.Stamps.{StampParts}
use Rattle.mail_fields.specs.CivilDays.{month_of, day_of, civil_day_of, dashed_date_of, civil_of, month_text, day_text}
use Rattle.mail_fields.specs.Clock.{clock_of, sixtieth_of, seconds_of, offset_of, clock_text, digits_clock_text, zone_text}
use Rattle.mail_fields.specs.MixDate.{month_number_of, digits_day_of, digits_clock_of, mix_date_of, mix_date_text}
use Rattle.mail_fields.specs.ImapDate.{imap_fields_of, imap_date_of, dashed_date_text, imap_date_text}
use Rattle.mail_fields.specs.Texts.{written_at}
use Rattle.mail_fields.proofs.Texts.{read-written}
use Rattle.mail_fields.proofs.Digits.{number-digits}
use Rattle.mail_fields.proofs.DateTexts.{month-reads, length-day_text}

-- a text byte by byte
abbrev pub cells_of : ℕ → List ℕ → List ℕ
cells_of zero text = []
cells_of (suc width) text = get_or text 0 0 ∷ cells_of width (drop 1 text)

pub cells : (width : ℕ) (text : List ℕ) → length text ≡ width → cells_of width text ≡ text
cells zero [] long = refl
cells zero (byte ∷ rest) long = absurd (omega arith)
cells (suc width) [] long = absurd (omega arith)
cells (suc width) (byte ∷ rest) long = ap (λ others. byte ∷ others) (cells width rest (omega arith))

below-reads : (limit number : ℕ) → number < limit → number < 100 → number_below limit (digits_in 10 2 number) ≡ Some number
below-reads limit number below small = rw (number-digits 10 2 number (omega arith) (omega arith) small, lt-ltb number limit below) refl

digit-is : (digit : ℕ) → digit < 10 → digit_char digit ≡ 48 + digit
digit-is digit small = grind (arith, nat_tests)

pub day-reads : (day : ℕ) → day < 100 → day_of (day_text day) ≡ Some day
unfolding day_of day_text
day-reads day small = ⊎_elim
    (λ one. rw (lt-ltb day 10 one) (number-digits 10 1 day (omega arith) (omega arith) one))
    (λ two.
    let digit : digit_char (day / 10 % 10) ≡ 48 + day / 10 % 10 = digit-is (day / 10 % 10) (omega arith) in
    let other : (digit_char (day / 10 % 10) == 32) ≡ false = ne_eqb (digit_char (day / 10 % 10)) 32 (λ is. omega arith) in
    let reads : number_of (digits_in 10 2 day) ≡ Some day = number-digits 10 2 day (omega arith) (omega arith) small in
    rw (le-ltb day 10 two, other) reads)
    (cases_lt day 10)

pub clock-reads : (second : ℕ) → second < 86400 → clock_of (clock_text second) ≡ Some second
unfolding clock_of sixtieth_of seconds_of clock_text
clock-reads second small =
    let hour = below-reads 24 (second / 3600) (omega arith) (omega arith) in
    let minute = below-reads 60 (second / 60 % 60) (omega arith) (omega arith) in
    let rest = below-reads 60 (second % 60) (omega arith) (omega arith) in
    rw (hour, minute, rest) (ap (λ s. Some s) (omega arith))

pub zone-reads : (zone : ℤ) → neg_ℤ (pos 1439) ≤ℤ zone → zone ≤ℤ pos 1439 → offset_of (zone_text zone) ≡ Some zone
unfolding offset_of zone_text
zone-reads (pos n) low high =
    let small : n ≤ 1439 = omega (arith, signed_arith, high) in
    let hours = below-reads 24 (n / 60) (omega arith) (omega arith) in
    let minutes = below-reads 60 (n % 60) (omega arith) (omega arith) in
    rw (le-ltb n 0 (omega arith), hours, minutes) (ap (λ m. Some (pos m)) (omega arith))
zone-reads (negsuc n) low high =
    let small : n < 1439 = omega (arith, signed_arith, low) in
    let hours = below-reads 24 (suc n / 60) (omega arith) (omega arith) in
    let minutes = below-reads 60 (suc n % 60) (omega arith) (omega arith) in
    let whole : 60 * (suc n / 60) + suc n % 60 ≡ suc n = omega arith in
    rw (hours, minutes) (ap (λ m. Some (neg_ℤ (pos m))) whole)

length-zone : (zone : ℤ) → length (zone_text zone) ≡ 5
unfolding zone_text
length-zone (pos n) = rw (le-ltb n 0 (omega arith)) refl
length-zone (negsuc n) = refl

pub length-clock : (second : ℕ) → length (clock_text second) ≡ 8
unfolding clock_text
length-clock second = refl

-- a stamp that can be written
pub record CanStand (stamp : StampParts) : Type 0 where
  pub valid : civil_day_of (civil_of stamp.day).year (civil_of stamp.day).month (civil_of stamp.day).day ≡ Some stamp.day
  pub year : (civil_of stamp.day).year < 10000
  pub month_low : 1 ≤ (civil_of stamp.day).month
  pub month_high : (civil_of stamp.day).month ≤ 12
  pub day : (civil_of stamp.day).day < 100
  pub second : stamp.second < 86400
  pub zone_low : neg_ℤ (pos 1439) ≤ℤ stamp.zone_minutes
  pub zone_high : stamp.zone_minutes ≤ℤ pos 1439

-- the fields of an IMAP date, read one by one
abbrev imap_parts : Option ℕ → Option ℕ → Option ℕ → Option ℕ → Option ℤ → Option StampParts
imap_parts days months years clock zone = do
  day ← days
  civil ← months >>= (λ month. years >>= (λ year. civil_day_of year month day))
  second ← clock
  minutes ← zone
  Some (record { day = civil; second = second; zone_minutes = minutes })

imap-frame : (day month year clock zone : List ℕ) → length day ≡ 2 → length month ≡ 3 → length year ≡ 4 → length clock ≡ 8 → length zone ≡ 5
    → imap_date_of ((day ++ codes "-" ++ month ++ codes "-" ++ year ++ codes " ") ++ clock ++ (codes " " ++ zone))
    ≡ imap_parts (day_of day) (month_of month) (number_of year) (clock_of clock) (offset_of zone)
unfolding imap_date_of imap_fields_of dashed_date_of
imap-frame day month year clock zone d m y c z =
    let Reads : List ℕ → List ℕ → List ℕ → List ℕ → List ℕ → Type 0 = λ day month year clock zone.
    imap_date_of ((day ++ codes "-" ++ month ++ codes "-" ++ year ++ codes " ") ++ clock ++ (codes " " ++ zone))
    ≡ imap_parts (day_of day) (month_of month) (number_of year) (clock_of clock) (offset_of zone) in
    let one : Reads (cells_of 2 day) (cells_of 3 month) (cells_of 4 year) (cells_of 8 clock) (cells_of 5 zone) = refl in
    let two = subst (λ x. Reads x (cells_of 3 month) (cells_of 4 year) (cells_of 8 clock) (cells_of 5 zone)) (cells 2 day d) one in
    let three = subst (λ x. Reads day x (cells_of 4 year) (cells_of 8 clock) (cells_of 5 zone)) (cells 3 month m) two in
    let four = subst (λ x. Reads day month x (cells_of 8 clock) (cells_of 5 zone)) (cells 4 year y) three in
    let five = subst (λ x. Reads day month year x (cells_of 5 zone)) (cells 8 clock c) four in
    subst (λ x. Reads day month year clock x) (cells 5 zone z) five

pub imap-reads : (stamp : StampParts) → CanStand stamp → imap_date_of (imap_date_text stamp) ≡ Some stamp
unfolding imap_date_text dashed_date_text
imap-reads stamp can =
    let date = civil_of stamp.day in
    let day = day-reads date.day can.day in
    let month = month-reads date.month can.month_low can.month_high in
    let year = number-digits 10 4 date.year (omega arith) (omega arith) can.year in
    let clock = clock-reads stamp.second can.second in
    let zone = zone-reads stamp.zone_minutes can.zone_low can.zone_high in
    imap-frame (day_text date.day) (month_text date.month) (digits_in 10 4 date.year) (clock_text stamp.second) (zone_text stamp.zone_minutes)
    (length-day_text date.day) month.1 refl (length-clock stamp.second) (length-zone stamp.zone_minutes)
    ∙ rw (day, month.0, year, clock, zone, can.valid) refl

imap-length : (day month year clock zone : List ℕ) → length day ≡ 2 → length month ≡ 3 → length year ≡ 4 → length clock ≡ 8 → length zone ≡ 5
    → length ((day ++ codes "-" ++ month ++ codes "-" ++ year ++ codes " ") ++ clock ++ (codes " " ++ zone)) ≡ 26
imap-length day month year clock zone d m y c z = omega (arith, length-append {A = ℕ})

pub imap-width : (stamp : StampParts) → CanStand stamp → length (imap_date_text stamp) ≡ 26
unfolding imap_date_text dashed_date_text
imap-width stamp can =
    imap-length (day_text (civil_of stamp.day).day) (month_text (civil_of stamp.day).month) (digits_in 10 4 (civil_of stamp.day).year) (clock_text stamp.second) (zone_text stamp.zone_minutes)
    (length-day_text (civil_of stamp.day).day) (month-reads (civil_of stamp.day).month can.month_low can.month_high).1 refl (length-clock stamp.second) (length-zone stamp.zone_minutes)

-- and it stands where it was written
pub imap-stands : (buffer : List ℕ) (place : ℕ) (stamp : StampParts) → CanStand stamp → place ≤ length buffer
    → imap_date_of (take 26 (drop place (written_at buffer place (imap_date_text stamp)))) ≡ Some stamp
imap-stands buffer place stamp can inside =
    let text = imap_date_text stamp in
    let long : length text ≡ 26 = imap-width stamp can in
    ap (λ n. imap_date_of (take n (drop place (written_at buffer place text)))) (sym long) ∙ ap imap_date_of (read-written buffer text place inside) ∙ imap-reads stamp can

month-number-reads : (month : ℕ) → 1 ≤ month → month ≤ 12 → month_number_of (digits_in 10 2 month) ≡ Some month
unfolding month_number_of
month-number-reads month low high =
    let some : nat_le 1 month ≡ true = grind (arith, nat_tests) in
    let reads = below-reads 13 month (omega arith) (omega arith) in
    rw (reads, some) refl

digits-clock-reads : (second : ℕ) → second < 86400 → digits_clock_of (digits_clock_text second) ≡ Some second
unfolding digits_clock_of digits_clock_text
digits-clock-reads second small =
    let hour = below-reads 24 (second / 3600) (omega arith) (omega arith) in
    let minute = below-reads 60 (second / 60 % 60) (omega arith) (omega arith) in
    let rest = below-reads 60 (second % 60) (omega arith) (omega arith) in
    rw (hour, minute, rest) (ap (λ s. Some s) (omega arith))

length-digits-clock : (second : ℕ) → length (digits_clock_text second) ≡ 6
unfolding digits_clock_text
length-digits-clock second = refl

-- the fields of a mix date, read one by one
abbrev mix_parts : Option ℕ → Option ℕ → Option ℕ → Option ℕ → Option ℤ → Option StampParts
mix_parts years months days clock zone = do
  civil ← years >>= (λ year. months >>= (λ month. days >>= (λ day. civil_day_of year month day)))
  second ← clock
  minutes ← zone
  Some (record { day = civil; second = second; zone_minutes = minutes })

mix-frame : (year month day clock zone : List ℕ) → length year ≡ 4 → length month ≡ 2 → length day ≡ 2 → length clock ≡ 6 → length zone ≡ 5
    → mix_date_of ((year ++ month ++ day) ++ clock ++ zone) ≡ mix_parts (number_of year) (month_number_of month) (number_of day) (digits_clock_of clock) (offset_of zone)
unfolding mix_date_of digits_day_of
mix-frame year month day clock zone y m d c z =
    let Reads : List ℕ → List ℕ → List ℕ → List ℕ → List ℕ → Type 0 = λ year month day clock zone.
    mix_date_of ((year ++ month ++ day) ++ clock ++ zone) ≡ mix_parts (number_of year) (month_number_of month) (number_of day) (digits_clock_of clock) (offset_of zone) in
    let one : Reads (cells_of 4 year) (cells_of 2 month) (cells_of 2 day) (cells_of 6 clock) (cells_of 5 zone) = refl in
    let two = subst (λ x. Reads x (cells_of 2 month) (cells_of 2 day) (cells_of 6 clock) (cells_of 5 zone)) (cells 4 year y) one in
    let three = subst (λ x. Reads year x (cells_of 2 day) (cells_of 6 clock) (cells_of 5 zone)) (cells 2 month m) two in
    let four = subst (λ x. Reads year month x (cells_of 6 clock) (cells_of 5 zone)) (cells 2 day d) three in
    let five = subst (λ x. Reads year month day x (cells_of 5 zone)) (cells 6 clock c) four in
    subst (λ x. Reads year month day clock x) (cells 5 zone z) five

mix-length : (year month day clock zone : List ℕ) → length year ≡ 4 → length month ≡ 2 → length day ≡ 2 → length clock ≡ 6 → length zone ≡ 5
    → length ((year ++ month ++ day) ++ clock ++ zone) ≡ 19
mix-length year month day clock zone y m d c z = omega (arith, length-append {A = ℕ})

pub mix-reads : (stamp : StampParts) → CanStand stamp → mix_date_of (mix_date_text stamp) ≡ Some stamp
unfolding mix_date_text
mix-reads stamp can =
    let date = civil_of stamp.day in
    let year = number-digits 10 4 date.year (omega arith) (omega arith) can.year in
    let month = month-number-reads date.month can.month_low can.month_high in
    let day = number-digits 10 2 date.day (omega arith) (omega arith) can.day in
    let clock = digits-clock-reads stamp.second can.second in
    let zone = zone-reads stamp.zone_minutes can.zone_low can.zone_high in
    mix-frame (digits_in 10 4 date.year) (digits_in 10 2 date.month) (digits_in 10 2 date.day) (digits_clock_text stamp.second) (zone_text stamp.zone_minutes)
    refl refl refl (length-digits-clock stamp.second) (length-zone stamp.zone_minutes)
    ∙ rw (year, month, day, clock, zone, can.valid) refl

pub mix-width : (stamp : StampParts) → length (mix_date_text stamp) ≡ 19
unfolding mix_date_text
mix-width stamp =
    let date = civil_of stamp.day in
    mix-length (digits_in 10 4 date.year) (digits_in 10 2 date.month) (digits_in 10 2 date.day) (digits_clock_text stamp.second) (zone_text stamp.zone_minutes)
    refl refl refl (length-digits-clock stamp.second) (length-zone stamp.zone_minutes)

pub mix-stands : (buffer : List ℕ) (place : ℕ) (stamp : StampParts) → CanStand stamp → place ≤ length buffer
    → mix_date_of (take 19 (drop place (written_at buffer place (mix_date_text stamp)))) ≡ Some stamp
mix-stands buffer place stamp can inside =
    let text = mix_date_text stamp in
    let long : length text ≡ 19 = mix-width stamp in
    ap (λ n. mix_date_of (take n (drop place (written_at buffer place text)))) (sym long) ∙ ap mix_date_of (read-written buffer text place inside) ∙ mix-reads stamp can
