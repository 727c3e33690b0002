-- Bytes above those of line ends, which dates, numbers and names have alone.
use Rattle.std.proofs.Common.{◌≡◌, ℕ, ℤ, zero, suc, ◌+◌, ◌-◌, ◌≤◌, ◌/◌, ◌%◌, Bool, true, false, cond, List, [], ◌∷◌, ◌++◌, ◌&&◌, nat_lt, nat_le, get_or, codes, refl, ap, ◌∙◌, arith}
use Rattle.std.specs.Char.{digit_char}
use Rattle.std.specs.Cmp.Derive.{both_true}
use Rattle.std.specs.List.{list_all}
use Rattle.std.proofs.lemmas.Bool.{and_parts}
use Rattle.std.proofs.lemmas.Bool.Decides.{nat_tests}
use Rattle.std.proofs.lemmas.List.Folds.{list_all-append}
use Rattle.mail_fields.specs.CivilDays.{civil_of, day_names, day_text, month_names, month_text, weekday_text}
use Rattle.mail_fields.specs.Clock.{clock_text}
use Rattle.mail_fields.specs.FromDate.{from_date_text}
use Rattle.mail_fields.specs.Keyword.{is_keyword}
use Rattle.mail_fields.specs.Numbers.{digits_in}
use Rattle.status_heads.specs.HeadTexts.{names_text, spaced_names}
use Rattle.status_heads.proofs.WrittenValues.{is_solid, keyword-solid}

abbrev pub is_high : List ℕ → Bool
is_high text = list_all (nat_le 14) text

pub high-both : (one other : List ℕ) → is_high one ≡ true → is_high other ≡ true → is_high (one ++ other) ≡ true
high-both one other a b = list_all-append (nat_le 14) one other ∙ both_true a b

-- such bytes pass any test that each of them passes
pub high-pass : (test : ℕ → Bool) → ((byte : ℕ) → 14 ≤ byte → test byte ≡ true) → (text : List ℕ) → is_high text ≡ true → list_all test text ≡ true
high-pass test passes [] all = refl
high-pass test passes (byte ∷ rest) all =
    let parts = and_parts (nat_le 14 byte) (is_high rest) all in
    both_true (passes byte (grind (arith, nat_tests, parts.0))) (high-pass test passes rest parts.1)

pub solid-high : (text : List ℕ) → is_solid text ≡ true → is_high text ≡ true
solid-high [] all = refl
solid-high (byte ∷ rest) all =
    let parts = and_parts (nat_le 33 byte) (is_solid rest) all in
    both_true (grind (arith, nat_tests, parts.0)) (solid-high rest parts.1)

spaced-high : (names : List (List ℕ)) → list_all is_keyword names ≡ true → is_high (spaced_names names) ≡ true
spaced-high [] all = refl
spaced-high (name ∷ names) all =
    let parts = and_parts (is_keyword name) (list_all is_keyword names) all in
    high-both (32 ∷ name) (spaced_names names) (solid-high name (keyword-solid name parts.0).0) (spaced-high names parts.1)

-- so do the names of keywords
pub names-high : (names : List (List ℕ)) → list_all is_keyword names ≡ true → is_high (names_text names) ≡ true
names-high [] all = refl
names-high (name ∷ names) all =
    let parts = and_parts (is_keyword name) (list_all is_keyword names) all in
    high-both name (spaced_names names) (solid-high name (keyword-solid name parts.0).0) (spaced-high names parts.1)

-- ---- Dates

one-of : (names : List (List ℕ)) (k : ℕ) → list_all is_high names ≡ true → is_high (get_or names k []) ≡ true
one-of [] k all = refl
one-of (name ∷ names) zero all = (and_parts (is_high name) (list_all is_high names) all).0
one-of (name ∷ names) (suc k) all = one-of names k (and_parts (is_high name) (list_all is_high names) all).1

byte-high : (byte : ℕ) → 14 ≤ byte → is_high (byte ∷ []) ≡ true
byte-high byte high = let first : nat_le 14 byte ≡ true = grind (arith, nat_tests, high) in ap (λ t. t && true) first

digit-high : (digit : ℕ) → is_high (digit_char digit ∷ []) ≡ true
digit-high digit =
    let small = byte-high (48 + digit) (omega arith) in
    let large = byte-high (87 + digit) (omega arith) in
    elim (nat_lt digit 10) as (λ is. is_high (cond is (48 + digit) (87 + digit) ∷ []) ≡ true) [ true ↦ small | false ↦ large ]

pub digits-high : (width number : ℕ) → is_high (digits_in 10 width number) ≡ true
digits-high zero number = refl
digits-high (suc width) number =
    high-both (digits_in 10 width (number / 10)) (digit_char (number % 10) ∷ []) (digits-high width (number / 10)) (digit-high (number % 10))

day-high : (day : ℕ) → is_high (day_text day) ≡ true
unfolding day_text
day-high day =
    let one = digits-high 1 day in
    let two = digits-high 2 day in
    elim (nat_lt day 10) as (λ is. is_high (cond is (32 ∷ digits_in 10 1 day) (digits_in 10 2 day)) ≡ true) [ true ↦ one | false ↦ two ]

clock-high : (second : ℕ) → is_high (clock_text second) ≡ true
unfolding clock_text
clock-high second =
    let hours = digits_in 10 2 (second / 3600) in
    let minutes = digits_in 10 2 (second / 60 % 60) in
    let colon = codes ":" in
    let front = high-both hours colon (digits-high 2 (second / 3600)) refl in
    let middle = high-both (hours ++ colon) minutes front (digits-high 2 (second / 60 % 60)) in
    high-both (hours ++ colon ++ minutes ++ colon) (digits_in 10 2 (second % 60)) (high-both (hours ++ colon ++ minutes) colon middle refl)
    (digits-high 2 (second % 60))

weekday-high : (day : ℤ) → is_high (weekday_text day) ≡ true
unfolding weekday_text
weekday-high day = one-of day_names _ refl

month-high : (month : ℕ) → is_high (month_text month) ≡ true
unfolding month_text
month-high month = one-of month_names (month - 1) refl

-- a from date has such bytes alone
pub date-high : (day : ℤ) (second : ℕ) → is_high (from_date_text day second) ≡ true
unfolding from_date_text
date-high day second =
    let date = civil_of day in
    let space = codes " " in
    let name = weekday_text day in
    let month = month_text date.month in
    let number = day_text date.day in
    let first = high-both (name ++ space) month (high-both name space (weekday-high day) refl) (month-high date.month) in
    let second_part = high-both (name ++ space ++ month ++ space) number (high-both (name ++ space ++ month) space first refl) (day-high date.day) in
    let front = high-both (name ++ space ++ month ++ space ++ number) space second_part refl in
    high-both ((name ++ space ++ month ++ space ++ number ++ space) ++ clock_text second) (space ++ digits_in 10 4 date.year)
    (high-both (name ++ space ++ month ++ space ++ number ++ space) (clock_text second) front (clock-high second))
    (high-both space (digits_in 10 4 date.year) refl (digits-high 4 date.year))
