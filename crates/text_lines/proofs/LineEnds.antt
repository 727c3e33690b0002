-- Line ends: where the text of a line ends.
use Rattle.std.proofs.Common.{◌≡◌, ◌≢◌, ℕ, zero, suc, ◌<◌, true, false, cond, List, [], ◌∷◌, ◌++◌, ◌==◌, length, take, drop, get_or, refl, ap, ◌∙◌, arith}
use Rattle.std.proofs.lemmas.Bool.{false≢true, eqb-true, and_parts, cond-true, cond-false, false_from_ne_true}
use Rattle.std.proofs.Math.Dec.{eqb-suc-zero}
use Rattle.text_lines.specs.Lines.{is_line_end, line_end_of, line_text}

-- a line is its text and its line end
pub text-then-end : (line : List ℕ) → line_text line ++ line_end_of line ≡ line
text-then-end [] = refl
text-then-end (byte ∷ rest) =
    elim (is_line_end (byte ∷ rest)) as (λ is. cond is [] (byte ∷ line_text rest) ++ cond is (byte ∷ rest) (line_end_of rest) ≡ byte ∷ rest) [
      | true ↦ refl
      | false ↦ ap (λ tail. byte ∷ tail) (text-then-end rest)
    ]

-- what more of a line end stands behind is a CR
pub return-before : (line : List ℕ) (at : ℕ) → is_line_end line ≡ true → is_line_end (drop (suc at) line) ≡ true → get_or line at 0 ≡ 13
return-before [] at is behind = absurd (false≢true is)
return-before (byte ∷ []) zero is behind = absurd (false≢true behind)
return-before (byte ∷ []) (suc at) is behind = absurd (false≢true behind)
return-before (byte ∷ next ∷ rest) zero is behind = eqb-true byte 13 (and_parts (byte == 13) (is_line_end (next ∷ rest)) is).0
return-before (byte ∷ next ∷ rest) (suc at) is behind =
    return-before (next ∷ rest) at (and_parts (byte == 13) (is_line_end (next ∷ rest)) is).1 behind

-- the text of a line reaches to a line end that no CR stands before
pub text-to : (line : List ℕ) (at : ℕ) → is_line_end (drop at line) ≡ true → ((k : ℕ) → at ≡ suc k → get_or line k 0 ≢ 13) → line_text line ≡ take at line
text-to [] zero is before = refl
text-to [] (suc at) is before = refl
text-to (byte ∷ rest) zero is before = cond-true (is_line_end (byte ∷ rest)) [] (byte ∷ line_text rest) is
text-to (byte ∷ rest) (suc at) is before =
    let longer : is_line_end (byte ∷ rest) ≡ false =
    false_from_ne_true _ (λ whole. before at refl (return-before (byte ∷ rest) at whole is)) in
    cond-false (is_line_end (byte ∷ rest)) [] (byte ∷ line_text rest) longer
    ∙ ap (λ tail. byte ∷ tail) (text-to rest at is (λ k same. before (suc k) (ap suc same)))

-- a line end ends in LF
pub feed-last : (end : List ℕ) → is_line_end end ≡ true → (front : List ℕ) × (end ≡ front ++ 10 ∷ [])
feed-last [] is = absurd (false≢true is)
feed-last (byte ∷ []) is = ([], ap (λ b. b ∷ []) (eqb-true byte 10 is))
feed-last (byte ∷ next ∷ rest) is =
    let shorter = feed-last (next ∷ rest) (and_parts (byte == 13) (is_line_end (next ∷ rest)) is).1 in
    (byte ∷ shorter.0, ap (λ tail. byte ∷ tail) shorter.1)

-- a line without LF at its end is all text
pub text-whole : (line : List ℕ) → ((front : List ℕ) → line ≢ front ++ 10 ∷ []) → line_text line ≡ line
text-whole [] none = refl
text-whole (byte ∷ rest) none =
    let open_end : is_line_end (byte ∷ rest) ≡ false =
    false_from_ne_true _ (λ whole. let last = feed-last (byte ∷ rest) whole in none last.0 last.1) in
    cond-false (is_line_end (byte ∷ rest)) [] (byte ∷ line_text rest) open_end
    ∙ ap (λ tail. byte ∷ tail) (text-whole rest (λ front is. none (byte ∷ front) (ap (λ tail. byte ∷ tail) is)))

-- a line with a byte is empty where its text is
pub empty_text : (line : List ℕ) → 0 < length line → (length (line_text line) == 0) ≡ is_line_end line
empty_text [] some = absurd (omega arith)
empty_text (byte ∷ rest) some =
    elim (is_line_end (byte ∷ rest)) as (λ is. (length (cond is [] (byte ∷ line_text rest)) == 0) ≡ is) [ true ↦ refl | false ↦ eqb-suc-zero _ ]
