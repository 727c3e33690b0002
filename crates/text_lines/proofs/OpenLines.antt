-- Lines with an LF at their end, and bytes without one.
use Rattle.std.proofs.Common.{◌≡◌, ℕ, true, false, List, [], ◌∷◌, ◌++◌, ◌==◌, ⊎_elim, refl, ap, sym, ◌∙◌}
use Rattle.std.proofs.lemmas.Bool.{cases_Bool, cond-true, cond-false, false≢true}
use Rattle.text_lines.specs.Lines.{is_line_end, is_open, line_text}
use Rattle.text_lines.proofs.Texts.{is_closed}

-- the first byte of a closed line that is no line end
pub closed-other : (byte : ℕ) (rest : List ℕ) → is_closed (byte ∷ rest) ≡ true → is_line_end (byte ∷ rest) ≡ false → (byte == 10) ≡ false
closed-other byte [] closed more = more
closed-other byte (next ∷ rest) closed more = ⊎_elim
    (λ feed. absurd (false≢true (sym (cond-true (byte == 10) false (is_closed (next ∷ rest)) feed) ∙ closed)))
    (λ other. other)
    (cases_Bool (byte == 10))

pub closed-behind : (byte : ℕ) (rest : List ℕ) → (byte == 10) ≡ false → is_closed (byte ∷ rest) ≡ true → is_closed rest ≡ true
closed-behind byte [] other closed = absurd (false≢true (sym (cond-false (byte == 10) true false other) ∙ closed))
closed-behind byte (next ∷ rest) other closed = sym (cond-false (byte == 10) false (is_closed (next ∷ rest)) other) ∙ closed

-- a byte other than LF before a closed line
pub closed-before : (byte : ℕ) (rest : List ℕ) → (byte == 10) ≡ false → is_closed rest ≡ true → is_closed (byte ∷ rest) ≡ true
closed-before byte [] other closed = absurd (false≢true closed)
closed-before byte (next ∷ rest) other closed = cond-false (byte == 10) false (is_closed (next ∷ rest)) other ∙ closed

pub open-before : (byte : ℕ) (rest : List ℕ) → (byte == 10) ≡ false → is_open rest ≡ true → is_open (byte ∷ rest) ≡ true
open-before byte rest other is = cond-false (byte == 10) false (is_open rest) other ∙ is

pub open-first : (byte : ℕ) (rest : List ℕ) → is_open (byte ∷ rest) ≡ true → (byte == 10) ≡ false
open-first byte rest is = ⊎_elim
    (λ feed. absurd (false≢true (sym (cond-true (byte == 10) false (is_open rest) feed) ∙ is)))
    (λ other. other)
    (cases_Bool (byte == 10))

pub open-behind : (byte : ℕ) (rest : List ℕ) → is_open (byte ∷ rest) ≡ true → is_open rest ≡ true
open-behind byte rest is = sym (cond-false (byte == 10) false (is_open rest) (open-first byte rest is)) ∙ is

-- what stands before the line end has no LF
pub closed-text : (line : List ℕ) → is_closed line ≡ true → is_open (line_text line) ≡ true
closed-text [] closed = refl
closed-text (byte ∷ rest) closed = ⊎_elim
    (λ whole. ap is_open (cond-true (is_line_end (byte ∷ rest)) [] (byte ∷ line_text rest) whole))
    (λ part.
    let other = closed-other byte rest closed part in
    let inner = closed-text rest (closed-behind byte rest other closed) in
    ap is_open (cond-false (is_line_end (byte ∷ rest)) [] (byte ∷ line_text rest) part)
    ∙ open-before byte (line_text rest) other inner)
    (cases_Bool (is_line_end (byte ∷ rest)))

-- bytes without LF and a closed line are a closed line
pub open-then-closed : (front line : List ℕ) → is_open front ≡ true → is_closed line ≡ true → is_closed (front ++ line) ≡ true
open-then-closed [] line is closed = closed
open-then-closed (byte ∷ front) line is closed =
    closed-before byte (front ++ line) (open-first byte front is) (open-then-closed front line (open-behind byte front is) closed)
