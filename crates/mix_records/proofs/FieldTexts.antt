-- Fields as they are written, read again.
use Rattle.std.proofs.Common.{◌≡◌, ℕ, ◌+◌, ◌<◌, ◌≤◌, ◌^◌, List, [], ◌∷◌, ◌++◌, length, take, drop, Some, refl, ap, sym, ◌∙◌, arith, true, nat_le, length-append, cond, Result, Ok, Err}
use Rattle.std.specs.Result.{is_ok, OnOk}
use Rattle.std.proofs.Math.Nat.{pow-le-pow_right}
use Rattle.std.proofs.lemmas.Bool.Decides.{nat_tests}
use Rattle.std.proofs.lemmas.List.{take_at, drop_at}
use Rattle.mail_fields.specs.Numbers.{digits_in}
use Rattle.mail_fields.specs.Stamps.{StampParts}
use Rattle.mail_fields.specs.MixDate.{mix_date_of, mix_date_text}
use Rattle.mail_fields.specs.Texts.{written_at}
use Rattle.mail_fields.proofs.Digits.{length-digits_in, number-digits}
use Rattle.mail_fields.proofs.Texts.{read-written}
use Rattle.mix_records.specs.Fields.{hex_at_front, hex_text, date_at_front, date_text, end_at_front, record_end}

-- 8 digits fit a word
pub word_fits : (width : ℕ) → width ≤ 8 → 16 ^ width ≤ 2 ^ 32
word_fits width short = pow-le-pow_right (omega arith) short

-- a text that is written behind the first byte of a buffer
pub front-written : (buffer text new : List ℕ) (byte width : ℕ) → new ≡ written_at buffer 1 text → take 1 buffer ≡ byte ∷ [] → length text ≡ width → take (width + 1) new ≡ byte ∷ text
unfolding written_at
front-written buffer text new byte width is first long =
    let behind = drop (1 + length text) buffer in
    ap (take (width + 1)) (is ∙ ap (λ front. front ++ text ++ behind) first) ∙ take_at (byte ∷ text) behind (width + 1) (omega arith)

pub hex-written : (buffer new : List ℕ) (width number wide : ℕ) → new ≡ written_at buffer 1 (digits_in 16 width wide) → wide ≡ number → take 1 buffer ≡ 58 ∷ []
    → take (width + 1) new ≡ hex_text width number
unfolding hex_text
hex-written buffer new width number wide is same first =
    front-written buffer (digits_in 16 width wide) new 58 width is first (length-digits_in 16 width wide) ∙ ap (λ n. 58 ∷ digits_in 16 width n) same

pub date-written : (buffer new : List ℕ) (stamp : StampParts) → new ≡ written_at buffer 1 (mix_date_text stamp) → length (mix_date_text stamp) ≡ 19 → take 1 buffer ≡ 58 ∷ []
    → take 20 new ≡ date_text stamp
unfolding date_text
date-written buffer new stamp is long first = front-written buffer (mix_date_text stamp) new 58 19 is first long

-- a number is read again, whatever stands behind it
pub hex-reads : (width number : ℕ) (rest : List ℕ) → number < 16 ^ width → hex_at_front width (hex_text width number ++ rest) ≡ Some (number, rest)
unfolding hex_at_front hex_text
hex-reads width number rest small =
    let digits = digits_in 16 width number in
    let long : length digits ≡ width = length-digits_in 16 width number in
    let inside : nat_le width (length (digits ++ rest)) ≡ true = grind (arith, nat_tests, long, length-append digits rest) in
    let front : take width (digits ++ rest) ≡ digits = take_at digits rest width long in
    let back : drop (width + 1) (58 ∷ (digits ++ rest)) ≡ rest = drop_at (58 ∷ digits) rest (width + 1) (omega arith) in
    rw (inside, front, number-digits 16 width number (omega arith) (omega arith) small, back) refl

-- and a date
pub date-reads : (stamp : StampParts) (rest : List ℕ) → length (mix_date_text stamp) ≡ 19 → mix_date_of (mix_date_text stamp) ≡ Some stamp
    → date_at_front (date_text stamp ++ rest) ≡ Some (stamp, rest)
unfolding date_at_front date_text
date-reads stamp rest long reads =
    let text = mix_date_text stamp in
    let inside : nat_le 20 (length (58 ∷ (text ++ rest))) ≡ true = grind (arith, nat_tests, long, length-append text rest) in
    let front : take 19 (text ++ rest) ≡ text = take_at text rest 19 long in
    let back : drop 20 (58 ∷ (text ++ rest)) ≡ rest = drop_at (58 ∷ text) rest 20 (omega arith) in
    rw (inside, front, reads, back) refl

-- what an append that succeeds leaves
pub appended : {T E : Type 0} (result : Result T E) (old new text whole : List ℕ) → new ≡ cond (is_ok result) (old ++ text) old → text ≡ whole → OnOk result (new ≡ old ++ whole)
appended (Ok value) old new text whole items same = items ∙ ap (λ text. old ++ text) same
appended (Err fault) old new text whole items same = tt

pub on_ok : {T E : Type 0} {fact : Type 0} (result : Result T E) → fact → OnOk result fact
on_ok (Ok value) holds = holds
on_ok (Err fault) holds = tt

-- and the end of a record
pub end-reads : (rest : List ℕ) → end_at_front (record_end ++ rest) ≡ Some rest
unfolding end_at_front
end-reads rest = refl

-- a date that was written in a buffer
pub date-stands : (buffer new : List ℕ) (stamp : StampParts) → 1 ≤ length buffer → new ≡ written_at buffer 1 (mix_date_text stamp) → length (mix_date_text stamp) ≡ 19
    → mix_date_of (take 19 (drop 1 new)) ≡ Some stamp → (rest : List ℕ) → date_at_front (date_text stamp ++ rest) ≡ Some (stamp, rest)
date-stands buffer new stamp room is long reads rest =
    let text = mix_date_text stamp in
    let stands : take 19 (drop 1 new) ≡ text =
    ap (λ b. take 19 (drop 1 b)) is ∙ ap (λ n. take n (drop 1 (written_at buffer 1 text))) (sym long) ∙ read-written buffer text 1 room in
    date-reads stamp rest long (ap mix_date_of (sym stands) ∙ reads)
