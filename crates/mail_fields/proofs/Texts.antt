-- Texts that are written into a buffer.
use Rattle.std.proofs.Common.{◌≡◌, ℕ, ◌+◌, ◌≤◌, List, [], ◌++◌, length, take, drop, refl, ap, sym, ◌∙◌, arith, length-append, append_assoc}
use Rattle.std.proofs.lemmas.Grind.{common_steps}
use Rattle.std.proofs.Common.{length-take-le}
use Rattle.std.proofs.lemmas.List.{take_at, drop_at, drop-drop}
use Rattle.std.proofs.Math.Seq.{drop-append-add, drop-length}
use Rattle.std.proofs.lemmas.List.{append-nil}
use Rattle.mail_fields.specs.Texts.{written_at}

-- the text stands where it was written
pub read-written : (buffer text : List ℕ) (place : ℕ) → place ≤ length buffer → take (length text) (drop place (written_at buffer place text)) ≡ text
unfolding written_at
read-written buffer text place inside =
    let front : length (take place buffer) ≡ place = length-take-le place buffer inside in
    rw (append_assoc, drop_at (take place buffer) (text ++ drop (place + length text) buffer) place front) (take_at text (drop (place + length text) buffer) (length text) refl)

-- and the buffer is as long as before
pub length-written : (buffer text : List ℕ) (place : ℕ) → place + length text ≤ length buffer → length (written_at buffer place text) ≡ length buffer
unfolding written_at
length-written buffer text place inside = grind (arith, common_steps)

-- a text written behind another is a longer text
pub then-written : (buffer one two : List ℕ) (place next : ℕ) → next ≡ place + length one → next ≤ length buffer
    → written_at (written_at buffer place one) next two ≡ written_at buffer place (one ++ two)
unfolding written_at
then-written buffer one two place next is inside =
    let start = take place buffer ++ one in
    let rest = drop (place + length one) buffer in
    let front : length (take place buffer) ≡ place = length-take-le place buffer (omega arith) in
    let whole : next ≡ length start = omega (arith, length-append (take place buffer) one) in
    let before : take next (start ++ rest) ≡ start = take_at start rest next (sym whole) in
    let after : drop (next + length two) (start ++ rest) ≡ drop (place + length (one ++ two)) buffer =
    ap (λ n. drop (n + length two) (start ++ rest)) whole ∙ drop-append-add start rest (length two) ∙ drop-drop (length two) (place + length one) buffer
    ∙ ap (λ n. drop n buffer) (omega (arith, length-append one two)) in
    rw (before, after) (ap (λ text. text ++ drop (place + length (one ++ two)) buffer) (append_assoc (take place buffer) one two))

-- and three texts, each behind the one before
pub parts-written : (buffer first second third one two three : List ℕ) (place next after : ℕ)
    → first ≡ written_at buffer place one → second ≡ written_at first next two → third ≡ written_at second after three
    → next ≡ place + length one → after ≡ place + length one + length two → place + length one + length two + length three ≤ length buffer
    → third ≡ written_at buffer place (one ++ two ++ three)
parts-written buffer first second third one two three place next after a b c n f room =
    let front : second ≡ written_at buffer place (one ++ two) = b ∙ ap (λ w. written_at w next two) a ∙ then-written buffer one two place next n (omega arith) in
    c ∙ ap (λ w. written_at w after three) front ∙ then-written buffer (one ++ two) three place after (omega (arith, length-append one two)) (omega arith)

-- a text that fills the buffer
pub whole-written : (buffer text : List ℕ) → length text ≡ length buffer → written_at buffer 0 text ≡ text
unfolding written_at
whole-written buffer text same =
    let all : drop (0 + length text) buffer ≡ [] = ap (λ n. drop n buffer) (omega arith) ∙ drop-length buffer in
    ap (λ rest. text ++ rest) all ∙ append-nil text
