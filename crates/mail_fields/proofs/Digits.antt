-- Digits of numbers in a base.
use Rattle.std.proofs.Common.{◌≡◌, ℕ, zero, suc, ◌+◌, ◌*◌, ◌-◌, ◌/◌, ◌%◌, ◌^◌, ◌<◌, ◌≤◌, List, [], ◌∷◌, ◌++◌, length, take, drop, slice_set, nat_le, true, Some, refl, ap, sym, ◌∙◌, arith, length-append, length-drop, append_assoc, add-zero}
use native.Mathlib.Numerals.{unary_clauses}
use Rattle.std.proofs.Math.Nat.{mul-le-mul_left, pow-le-pow_right, div-lt_iff_lt-mul}
use Rattle.std.proofs.lemmas.Bool.Decides.{nat_tests}
use Rattle.std.proofs.lemmas.Grind.{pow_more, drop-set_at}
use Rattle.std.proofs.lemmas.List.{take-set-le, take-append-drop, append-nil}
use Rattle.std.proofs.lemmas.List.Folds.{list_all-append}
use Rattle.std.proofs.lemmas.Int.Digits.{digits_value_push}
use Rattle.std.specs.List.{list_all}
use Rattle.std.specs.Char.{digit_char, digit_value, is_digit}
use Rattle.std.specs.Str.Parse.{digits_value}
use Rattle.std.specs.Fmt.{decimal}
use Rattle.std.proofs.lemmas.Fmt.{decimal_by_steps, decimal_nonempty, length-decimal-le, digits_value-decimal}
use Rattle.std.proofs.lemmas.Str.Parse.{numerals_by_value, tells_all_ascii_digits}
use Rattle.mail_fields.specs.Numbers.{number_in, number_at_front, decimal_of, digits_in}
use Rattle.mail_fields.specs.Texts.{written_at}
use Rattle.mail_fields.proofs.Texts.{read-written, length-written}

-- one digit more still fits
pub room_for_digit : (base number digit index width : ℕ) → number < base ^ index → digit < base → index < width → base * number + digit < base ^ width
room_for_digit base number digit index width small below inside =
    let times : base * (number + 1) ≤ base * base ^ index = mul-le-mul_left base (omega arith) in
    let power : base ^ (index + 1) ≡ base ^ index * base = pow_more base index in
    let wide : base ^ (index + 1) ≤ base ^ width = pow-le-pow_right (omega arith) (omega arith) in
    omega arith

-- 16 digits in base 16, or 21 in base 8, fit 64 bits
pub hex_fits : (width : ℕ) → width ≤ 16 → 16 ^ width ≤ 2 ^ 64
hex_fits width short = pow-le-pow_right (omega arith) short

pub octal_fits : (width : ℕ) → width ≤ 21 → 8 ^ width ≤ 2 ^ 64
octal_fits width short = let all : 8 ^ width ≤ 8 ^ 21 = pow-le-pow_right (omega arith) short in omega arith

-- a number of at most 10 digits is below 10 ^ 10
pub ten_digits : (width : ℕ) → width ≤ 10 → 10 ^ width ≤ 10 ^ 10
ten_digits width short = pow-le-pow_right (omega arith) short

pub length-digits_in : (base width number : ℕ) → length (digits_in base width number) ≡ width
length-digits_in base zero number = refl
length-digits_in base (suc width) number =
    let more = length-append (digits_in base width (number / base)) (digit_char (number % base) ∷ []) in
    let rest = length-digits_in base width (number / base) in
    omega arith

-- a digit reads as its value
digit-reads : (digit base : ℕ) → digit < base → base ≤ 16 → (digit_value (digit_char digit) ≡ digit) × (is_digit (digit_char digit) base ≡ true)
digit-reads digit base below low = (value digit (omega arith), grind (arith, nat_tests, value digit (omega arith)))
  where
    value : (digit : ℕ) → digit < 16 → digit_value (digit_char digit) ≡ digit
    value digit small = grind (arith, nat_tests)

digits-are : (base width number : ℕ) → 2 ≤ base → base ≤ 16 → list_all (λ byte. is_digit byte base) (digits_in base width number) ≡ true
digits-are base zero number low high = refl
digits-are base (suc width) number low high =
    let last = (digit-reads (number % base) base (omega arith) high).1 in
    list_all-append (λ byte. is_digit byte base) (digits_in base width (number / base)) (digit_char (number % base) ∷ [])
    ∙ rw (digits-are base width (number / base) low high, last) refl

value-digits : (base width number : ℕ) → 2 ≤ base → base ≤ 16 → number < base ^ width → digits_value base (digits_in base width number) ≡ number
value-digits base zero number low high small = let none : number < 1 = simp unary_clauses at small in omega arith
value-digits base (suc width) number low high small =
    let power = simp unary_clauses at small in
    let less : number / base < base ^ width = (div-lt_iff_lt-mul {k = base} {x = number} {y = base ^ width} (omega arith)).1 (omega arith) in
    let last = (digit-reads (number % base) base (omega arith) high).0 in
    digits_value_push base (digits_in base width (number / base)) (digit_char (number % base))
    ∙ rw (value-digits base width (number / base) low high less, last) (omega arith)

-- what is written in a base is read in it
pub number-digits : (base width number : ℕ) → 2 ≤ base → base ≤ 16 → number < base ^ width → number_in base (digits_in base width number) ≡ Some number
unfolding number_in
number-digits base width number low high small =
    rw (digits-are base width number low high, value-digits base width number low high small) refl

pub front-written : (base width number place : ℕ) (buffer : List ℕ) → 2 ≤ base → base ≤ 16 → number < base ^ width → place + width ≤ length buffer
    → number_at_front base width (drop place (written_at buffer place (digits_in base width number))) ≡ Some number
front-written base width number place buffer low high small room =
    let text = digits_in base width number in
    let wide : length text ≡ width = length-digits_in base width number in
    let long : length (written_at buffer place text) ≡ length buffer = length-written buffer text place (omega arith) in
    let inside : nat_le width (length (drop place (written_at buffer place text))) ≡ true = grind (arith, nat_tests, long, length-drop place (written_at buffer place text)) in
    let same : take width (drop place (written_at buffer place text)) ≡ text =
    ap (λ n. take n (drop place (written_at buffer place text))) (sym wide) ∙ read-written buffer text place (omega arith) in
    rw (inside, same) (number-digits base width number low high small)

pub put-start : (buffer : List ℕ) (place base width number : ℕ)
    → take place buffer ++ digits_in base width number ++ drop (place + width) buffer ≡ written_at buffer place (digits_in base width number)
unfolding written_at
put-start buffer place base width number = rw (length-digits_in base width number) refl

last-digit : (base left rest digit : ℕ) → 0 < left → digit ≡ digit_char (rest % base) → digits_in base left rest ≡ digits_in base (left - 1) (rest / base) ++ digit ∷ []
last-digit base zero rest digit some is = absurd (omega arith)
last-digit base (suc left) rest digit some is = let before : suc left - 1 ≡ left = omega arith in rw (before, is) refl

-- one digit written, before those that stand there
pub put-digit : (buffer : List ℕ) (place left base rest digit : ℕ) → 0 < left → place + left ≤ length buffer → digit ≡ digit_char (rest % base)
    → take place (slice_set buffer (place + (left - 1)) digit) ++ digits_in base (left - 1) (rest / base) ++ drop (place + (left - 1)) (slice_set buffer (place + (left - 1)) digit)
    ≡ take place buffer ++ digits_in base left rest ++ drop (place + left) buffer
put-digit buffer place left base rest digit some room is =
    let at = place + (left - 1) in
    let front : take place (slice_set buffer at digit) ≡ take place buffer = take-set-le place buffer at digit (omega arith) in
    let back : drop at (slice_set buffer at digit) ≡ digit ∷ drop (at + 1) buffer = drop-set_at buffer at at digit refl (omega arith) in
    let next : at + 1 ≡ place + left = omega arith in
    let step : digits_in base left rest ≡ digits_in base (left - 1) (rest / base) ++ digit ∷ [] = last-digit base left rest digit some is in
    let others = digits_in base (left - 1) (rest / base) in
    let tail = drop (place + left) buffer in
    rw (front, back, next, step)
    (sym (append_assoc (take place buffer ++ others) (digit ∷ []) tail) ∙ ap (λ text. text ++ tail) (append_assoc (take place buffer) others (digit ∷ [])))

pub put-end : (buffer all : List ℕ) (place left base rest : ℕ) → left ≤ 0 → take place buffer ++ digits_in base left rest ++ drop (place + left) buffer ≡ all → buffer ≡ all
put-end buffer all place left base rest none is =
    let done : left ≡ 0 = omega arith in
    sym (take-append-drop place buffer) ∙ sym (last left done) ∙ is
  where
    last : (left : ℕ) → left ≡ 0 → take place buffer ++ digits_in base left rest ++ drop (place + left) buffer ≡ take place buffer ++ drop place buffer
    last left done = rw (done, add-zero place, append-nil (take place buffer)) refl

-- a decimal number without zeros before it reads as itself
pub decimal-digits : (number : ℕ) → number < 2 ^ 64 → list_all (λ byte. is_digit byte 10) (decimal number) ≡ true
decimal-digits = decimal_by_steps (λ number text. list_all (λ byte. is_digit byte 10) text ≡ true)
    (λ digit small. digits-are-one digit small)
    (λ number text small before. list_all-append (λ byte. is_digit byte 10) text ((48 + number % 10) ∷ []) ∙ rw (before, digits-are-one (number % 10) (omega arith)) refl)
  where
    digits-are-one : (digit : ℕ) → digit < 10 → list_all (λ byte. is_digit byte 10) ((48 + digit) ∷ []) ≡ true
    digits-are-one digit small = grind (arith, nat_tests)

pub decimal-reads : (number : ℕ) → number < 10 ^ 10 → decimal_of (decimal number) ≡ Some number
unfolding number_in
decimal-reads number small =
    let some : nat_le 1 (length (decimal number)) ≡ true = grind (arith, nat_tests, decimal_nonempty number (omega arith)) in
    let few : nat_le (length (decimal number)) 10 ≡ true = grind (arith, nat_tests, length-decimal-le 10 number (omega arith) small (omega arith)) in
    rw (some, few, decimal-digits number (omega arith), digits_value-decimal (numerals_by_value _ tells_all_ascii_digits) number (omega arith)) refl
