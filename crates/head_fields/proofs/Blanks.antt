-- Blanks at the front of some bytes.
use Rattle.std.proofs.Common.{◌≡◌, ℕ, ◌+◌, ◌-◌, ◌<◌, ⊎_elim, ◌⊎◌, inl, inr, true, false, cond, suc, List, [], ◌∷◌, ◌++◌, ◌==◌, length, take, drop, refl, ap, ◌∙◌, sym, arith}
use Rattle.std.specs.List.{prefix_len, suffix_len}
use Rattle.std.proofs.lemmas.Bool.{cases_Bool, cond-true, cond-false, or_cases, eqb-true}
use Rattle.std.proofs.lemmas.List.{length-drop, length-take-le, append-nil}
use Rattle.text_lines.specs.Blanks.{is_blank}
use Rattle.head_fields.specs.Blanks.{trim_start, trim_end}

pub blank_is : (byte : ℕ) → is_blank byte ≡ true → (byte ≡ 32) ⊎ (byte ≡ 9)
blank_is byte blank =
    ⊎_elim (λ space. inl (eqb-true byte 32 space)) (λ tab. inr (eqb-true byte 9 tab)) (or_cases (byte == 32) (byte == 9) blank)

-- one byte more at the front
trim_start-cons : (byte : ℕ) (rest : List ℕ) → trim_start (byte ∷ rest) ≡ cond (is_blank byte) (trim_start rest) (byte ∷ rest)
trim_start-cons byte rest =
    let n = prefix_len is_blank rest in
    elim (is_blank byte) as (λ is. drop (cond is (1 + n) 0) (byte ∷ rest) ≡ cond is (drop n rest) (byte ∷ rest)) [
      | true ↦ ap (λ k. drop k (byte ∷ rest)) (by_one n)
      | false ↦ refl
    ]
  where
    by_one : (n : ℕ) → 1 + n ≡ suc n
    by_one n = omega arith

trim_start-blank : (byte : ℕ) (rest : List ℕ) → is_blank byte ≡ true → trim_start (byte ∷ rest) ≡ trim_start rest
trim_start-blank byte rest is = trim_start-cons byte rest ∙ cond-true (is_blank byte) (trim_start rest) (byte ∷ rest) is

trim_start-other : (byte : ℕ) (rest : List ℕ) → is_blank byte ≡ false → trim_start (byte ∷ rest) ≡ byte ∷ rest
trim_start-other byte rest is = trim_start-cons byte rest ∙ cond-false (is_blank byte) (trim_start rest) (byte ∷ rest) is

-- bytes may be trimmed before more is appended
pub trim_start-append : (front rest : List ℕ) → trim_start (trim_start front ++ rest) ≡ trim_start (front ++ rest)
trim_start-append [] rest = refl
trim_start-append (byte ∷ front) rest =
    ⊎_elim
    (λ is. ap (λ bytes. trim_start (bytes ++ rest)) (trim_start-blank byte front is) ∙ trim_start-append front rest ∙ sym (trim_start-blank byte (front ++ rest) is))
    (λ is. ap (λ bytes. trim_start (bytes ++ rest)) (trim_start-other byte front is))
    (cases_Bool (is_blank byte))

pub trim_start-twice : (bytes : List ℕ) → trim_start (trim_start bytes) ≡ trim_start bytes
trim_start-twice bytes =
    ap trim_start (sym (append-nil (trim_start bytes))) ∙ trim_start-append bytes [] ∙ ap trim_start (append-nil bytes)

-- behind some trimmed bytes anything may stand
pub trim_start-keeps : (front rest : List ℕ) → trim_start front ≡ front → 0 < length front → trim_start (front ++ rest) ≡ front ++ rest
trim_start-keeps [] rest trimmed some = absurd (omega arith)
trim_start-keeps (byte ∷ front) rest trimmed some =
    ⊎_elim
    (λ is.
    let shorter = ap length (sym (trim_start-blank byte front is) ∙ trimmed) in
    let left = length-drop (prefix_len is_blank front) front in
    absurd (omega arith))
    (λ is. trim_start-other byte (front ++ rest) is)
    (cases_Bool (is_blank byte))

-- the trimmed bytes are as many of the bytes in front
pub length-trim_end : (bytes : List ℕ) → take (length (trim_end bytes)) bytes ≡ trim_end bytes
length-trim_end bytes =
    let n = length bytes - suffix_len is_blank bytes in
    ap (λ k. take k bytes) (length-take-le n bytes (omega arith))
