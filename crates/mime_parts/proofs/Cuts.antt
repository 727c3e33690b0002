-- The lines of a part, whose last line has lost its end to a delimiter line.
use Rattle.std.proofs.Common.{◌≡◌, ◌≢◌, ◌∙◌, ⊎_elim, inr, ◌+◌, ◌-◌, ◌<◌, ◌≤◌, ◌==◌, ◌&&◌, ◌||◌, ℕ, zero, suc, Bool, true, false, cond, List, [], ◌∷◌, ◌++◌, length, get_or, refl, ap, sym, arith}
use Rattle.std.specs.List.{concat}
use Rattle.std.proofs.lemmas.Bool.{cases_Bool, cases_eq, cond-true, cond-false, false≢true, eqb-true, eq-eqb, ne_eqb, and_parts}
use Rattle.std.proofs.lemmas.List.{append-nil, length-append}
use Rattle.std.proofs.Math.Seq.{get_or-append_right}
use Rattle.text_lines.specs.Lines.{lines_of, line_text, is_line_end}
use Rattle.text_lines.proofs.OpenLines.{closed-text as line-open}
use Rattle.text_lines.proofs.Texts.{is_closed, is_open, lines-joined, closed-first, some-byte}
use Rattle.text_lines.proofs.Lines.{no_lines}
use Rattle.mime_parts.specs.Marks.{is_dashed, marks_from, ends_line}
use Rattle.mime_parts.proofs.Marks.{dashed-text}

-- lines that each end in LF
abbrev pub AreClosed : List (List ℕ) → Type 0
AreClosed [] = Unit {0}
AreClosed (line ∷ lines) = (is_closed line ≡ true) × AreClosed lines

pub closed-few : (lines : List (List ℕ)) → AreClosed lines → length lines ≤ length (concat lines)
closed-few [] closed = omega arith
closed-few (line ∷ lines) closed = let some = some-byte line closed.0 in let rest = closed-few lines closed.1 in let long = length-append line (concat lines) in omega arith

-- the lines, the last without its end, if anything is left of it
abbrev pub cut_lines : List (List ℕ) → List (List ℕ)
cut_lines [] = []
cut_lines (line ∷ []) = cond (length (line_text line) == 0) [] (line_text line ∷ [])
cut_lines (line ∷ next ∷ lines) = line ∷ cut_lines (next ∷ lines)

-- a line end has no LF but its last byte
closed-inside : (line more : List ℕ) → is_closed line ≡ true → 0 < length more → is_line_end (line ++ more) ≡ false
closed-inside [] more closed some = absurd (false≢true closed)
closed-inside (a ∷ []) [] closed some = absurd (omega arith)
closed-inside (a ∷ []) (b ∷ more) closed some =
    let feed : a ≡ 10 = ⊎_elim (λ is. eqb-true a 10 is) (λ other. absurd (false≢true (sym (cond-false (a == 10) true false other) ∙ closed))) (cases_Bool (a == 10)) in
    ap (λ c. (c == 13) && is_line_end (b ∷ more)) feed
closed-inside (a ∷ b ∷ rest) more closed some =
    let behind : is_closed (b ∷ rest) ≡ true = ⊎_elim
    (λ feed. absurd (false≢true (sym (cond-true (a == 10) false (is_closed (b ∷ rest)) feed) ∙ closed)))
    (λ other. sym (cond-false (a == 10) false (is_closed (b ∷ rest)) other) ∙ closed)
    (cases_Bool (a == 10)) in
    ap (λ e. (a == 13) && e) (closed-inside (b ∷ rest) more behind some) ∙ and-second (a == 13)
  where
    and-second : (x : Bool) → x && false ≡ false
    and-second true = refl
    and-second false = refl

-- the text of lines is in front what closed lines are
pub closed-text : (line more : List ℕ) → is_closed line ≡ true → 0 < length more → line_text (line ++ more) ≡ line ++ line_text more
closed-text [] more closed some = refl
closed-text (a ∷ []) more closed some = cond-false (is_line_end (a ∷ more)) [] (a ∷ line_text more) (closed-inside (a ∷ []) more closed some)
closed-text (a ∷ b ∷ rest) more closed some =
    let behind : is_closed (b ∷ rest) ≡ true = ⊎_elim
    (λ feed. absurd (false≢true (sym (cond-true (a == 10) false (is_closed (b ∷ rest)) feed) ∙ closed)))
    (λ other. sym (cond-false (a == 10) false (is_closed (b ∷ rest)) other) ∙ closed)
    (cases_Bool (a == 10)) in
    cond-false (is_line_end (a ∷ b ∷ (rest ++ more))) [] (a ∷ line_text (b ∷ (rest ++ more))) (closed-inside (a ∷ b ∷ rest) more closed some)
    ∙ ap (λ t. a ∷ t) (closed-text (b ∷ rest) more behind some)

-- bytes without LF don't end in it, and a closed line does
open-byte : (bytes : List ℕ) (k : ℕ) → is_open bytes ≡ true → k < length bytes → get_or bytes k 0 ≢ 10
open-byte [] k is inside same = absurd (omega arith)
open-byte (b ∷ rest) zero is inside same = false≢true (sym (cond-true (b == 10) false (is_open rest) (eq-eqb b 10 same)) ∙ is)
open-byte (b ∷ rest) (suc k) is inside same =
    open-byte rest k (⊎_elim
    (λ feed. absurd (false≢true (sym (cond-true (b == 10) false (is_open rest) feed) ∙ is)))
    (λ other. sym (cond-false (b == 10) false (is_open rest) other) ∙ is)
    (cases_Bool (b == 10))) (omega arith) same

closed-byte : (line : List ℕ) → is_closed line ≡ true → get_or line (length line - 1) 0 ≡ 10
closed-byte [] closed = absurd (false≢true closed)
closed-byte (a ∷ []) closed = ⊎_elim (λ is. eqb-true a 10 is) (λ other. absurd (false≢true (sym (cond-false (a == 10) true false other) ∙ closed))) (cases_Bool (a == 10))
closed-byte (a ∷ b ∷ rest) closed =
    let behind : is_closed (b ∷ rest) ≡ true = ⊎_elim
    (λ feed. absurd (false≢true (sym (cond-true (a == 10) false (is_closed (b ∷ rest)) feed) ∙ closed)))
    (λ other. sym (cond-false (a == 10) false (is_closed (b ∷ rest)) other) ∙ closed)
    (cases_Bool (a == 10)) in
    ap (λ n. get_or (a ∷ b ∷ rest) n 0) (let e : length (a ∷ b ∷ rest) - 1 ≡ suc (length (b ∷ rest) - 1) = omega arith in e) ∙ closed-byte (b ∷ rest) behind

or-second : (x y : Bool) → x ≡ false → x || y ≡ y
or-second true y is = absurd (false≢true (sym is))
or-second false y is = refl

pub ends-open : (bytes : List ℕ) → is_open bytes ≡ true → 0 < length bytes → ends_line bytes ≡ false
ends-open bytes is some =
    or-second (length bytes == 0) _ (ne_eqb (length bytes) 0 (λ e. omega arith)) ∙ ne_eqb (get_or bytes (length bytes - 1) 0) 10 (open-byte bytes (length bytes - 1) is (omega arith))

pub ends-closed : (line more : List ℕ) → is_closed line ≡ true → ends_line (line ++ more) ≡ ends_line more
ends-closed line [] closed =
    let some = some-byte line closed in
    ap ends_line (append-nil line) ∙ or-second (length line == 0) _ (ne_eqb (length line) 0 (λ e. omega arith)) ∙ eq-eqb (get_or line (length line - 1) 0) 10 (closed-byte line closed)
ends-closed line (b ∷ more) closed =
    let some = some-byte line closed in
    let long = length-append line (b ∷ more) in
    let tail = b ∷ more in
    let place : length (line ++ tail) - 1 - length line ≡ length tail - 1 = omega arith in
    or-second (length (line ++ tail) == 0) _ (ne_eqb (length (line ++ tail)) 0 (λ e. omega arith))
    ∙ ap (λ v. v == 10) (get_or-append_right line tail (length (line ++ tail) - 1) 0 (omega arith) ∙ ap (λ n. get_or tail n 0) place)
    ∙ sym (or-second (length tail == 0) _ (ne_eqb (length tail) 0 (λ e. omega arith)))

-- a line is dashed where its text is
dashed-back : (line : List ℕ) → is_dashed line ≡ true → is_dashed (line_text line) ≡ true
dashed-back [] is = is
dashed-back (a ∷ []) is = absurd (false≢true is)
dashed-back (a ∷ b ∷ rest) is =
    let both = and_parts (a == 45) (b == 45) is in
    let first : is_line_end (a ∷ b ∷ rest) ≡ false = ap (λ c. (c == 13) && is_line_end (b ∷ rest)) (eqb-true a 45 both.0) in
    let second : is_line_end (b ∷ rest) ≡ false = ap (λ c. is_line_end (c ∷ rest)) (eqb-true b 45 both.1) ∙ dash rest in
    ap is_dashed (cond-false (is_line_end (a ∷ b ∷ rest)) [] (a ∷ line_text (b ∷ rest)) first ∙ ap (λ t. a ∷ t) (cond-false (is_line_end (b ∷ rest)) [] (b ∷ line_text rest) second)) ∙ is
  where
    dash : (rest : List ℕ) → is_line_end (45 ∷ rest) ≡ false
    dash [] = refl
    dash (c ∷ rest) = refl

same-dashed : (line : List ℕ) → is_dashed (line_text line) ≡ is_dashed line
same-dashed line = ⊎_elim (λ is. dashed-back line is ∙ sym is) (λ plain. dashed-text line plain ∙ sym plain) (cases_Bool (is_dashed line))

no-text : (bytes : List ℕ) → length bytes ≡ 0 → bytes ≡ []
no-text [] none = refl
no-text (b ∷ rest) none = absurd (omega arith)

some-text : (bytes : List ℕ) → (length bytes ≡ 0 → ⊥) → 0 < length bytes
some-text [] some = absurd (some refl)
some-text (b ∷ rest) some = omega arith

some-lines : (next : List ℕ) (lines : List (List ℕ)) → AreClosed (next ∷ lines) → 0 < length (concat (next ∷ lines))
some-lines next lines closed = let some = some-byte next closed.0 in let long = length-append next (concat lines) in omega arith

pub cut-lines : (lines : List (List ℕ)) → AreClosed lines → lines_of (line_text (concat lines)) ≡ cut_lines lines
cut-lines [] closed = no_lines [] refl
cut-lines (line ∷ []) closed = ap (λ t. lines_of (line_text t)) (append-nil line) ∙ ⊎_elim
    (λ empty. no_lines (line_text line) empty ∙ sym (cond-true (length (line_text line) == 0) [] (line_text line ∷ []) (eq-eqb _ 0 empty)))
    (λ some.
    let alone : lines_of (line_text line ++ []) ≡ line_text line ∷ [] = lines-joined (line_text line ∷ []) (inr (some-text (line_text line) some, line-open line closed.0, refl)) in
    ap lines_of (sym (append-nil (line_text line))) ∙ alone ∙ sym (cond-false (length (line_text line) == 0) [] (line_text line ∷ []) (ne_eqb _ 0 some)))
    (cases_eq (length (line_text line)) 0)
cut-lines (line ∷ next ∷ lines) closed =
    ap lines_of (closed-text line (concat (next ∷ lines)) closed.0 (some-lines next lines closed.1)) ∙ closed-first line (line_text (concat (next ∷ lines))) closed.0
    ∙ ap (λ ls. line ∷ ls) (cut-lines (next ∷ lines) closed.1)

pub cut-count : (line : List ℕ) (lines : List (List ℕ)) → AreClosed (line ∷ lines) → cond (ends_line (line_text (concat (line ∷ lines)))) 1 0 + length (cut_lines (line ∷ lines)) ≡ length (line ∷ lines)
cut-count line [] closed = (let e : cond (ends_line (line_text (line ++ []))) 1 0 + length (cut_lines (line ∷ [])) ≡ cond (ends_line (line_text line)) 1 0 + length (cut_lines (line ∷ [])) = (λ i. cond (ends_line (line_text (append-nil line i))) 1 0 + length (cut_lines (line ∷ []))) in e) ∙ ⊎_elim
    (λ empty. (λ i. cond (ends_line (no-text (line_text line) empty i)) 1 0 + length (cond-true (length (line_text line) == 0) [] (line_text line ∷ []) (eq-eqb _ 0 empty) i)))
    (λ some.
    (λ i. cond (ends-open (line_text line) (line-open line closed.0) (some-text (line_text line) some) i) 1 0 + length (cond-false (length (line_text line) == 0) [] (line_text line ∷ []) (ne_eqb _ 0 some) i)))
    (cases_eq (length (line_text line)) 0)
cut-count line (next ∷ lines) closed =
    let ends : ends_line (line_text (concat (line ∷ next ∷ lines))) ≡ ends_line (line_text (concat (next ∷ lines))) =
    ap ends_line (closed-text line (concat (next ∷ lines)) closed.0 (some-lines next lines closed.1)) ∙ ends-closed line (line_text (concat (next ∷ lines))) closed.0 in
    let rest = cut-count next lines closed.1 in
    let e : cond {A = ℕ} (ends_line (line_text (concat (line ∷ next ∷ lines)))) 1 0 ≡ cond {A = ℕ} (ends_line (line_text (concat (next ∷ lines)))) 1 0 = (λ i. cond (ends i) 1 0) in
    omega (arith, e, rest)

pub cut-marks : (at count : ℕ) (lines : List (List ℕ)) → AreClosed lines → marks_from at count (cut_lines lines) ≡ marks_from at count lines
cut-marks at count [] closed = refl
cut-marks at count (line ∷ []) closed = ⊎_elim
    (λ empty.
    let plain : is_dashed line ≡ false = sym (same-dashed line) ∙ ap is_dashed (no-text (line_text line) empty) in
    ap (marks_from at count) (cond-true (length (line_text line) == 0) [] (line_text line ∷ []) (eq-eqb _ 0 empty)) ∙ sym (cond-false (is_dashed line) _ [] plain))
    (λ some.
    ap (marks_from at count) (cond-false (length (line_text line) == 0) [] (line_text line ∷ []) (ne_eqb _ 0 some)) ∙ ap (λ d. cond d (record { at = at; lines = count } ∷ []) []) (same-dashed line))
    (cases_eq (length (line_text line)) 0)
cut-marks at count (line ∷ next ∷ lines) closed =
    ap (λ later. cond (is_dashed line) (record { at = at; lines = count } ∷ later) later) (cut-marks (at + length line) (count + 1) (next ∷ lines) closed.1)
