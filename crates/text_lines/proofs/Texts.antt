-- Texts made of lines: their lines are these again.
use Rattle.std.proofs.Common.{◌≡◌, ◌⊎◌, inl, inr, ⊎_elim, ℕ, zero, suc, ◌<◌, ◌≤◌, Bool, true, false, cond, List, [], ◌∷◌, ◌++◌, ◌==◌, map, flat_map, length, length-append, take, drop, take_all, length-drop, take-append-drop, append-nil, refl, ap, sym, subst, ◌∙◌, arith}
use Rattle.std.specs.List.{concat}
use Rattle.std.proofs.lemmas.Bool.{cases_Bool, cond-true, cond-false, false≢true}
use Rattle.std.proofs.lemmas.List.{take-append-le, drop-append-le, drop_all}
use Rattle.bstr.proofs.lemmas.LineLemmas.{lines-nil, lines-step, line_len-bounds}
use Rattle.bstr.specs.Text.{line_len}
use Rattle.text_lines.specs.Lines.{lines_of}
pub use Rattle.text_lines.specs.Lines.{is_open}

abbrev is_null : List ℕ → Bool
is_null [] = true
is_null (byte ∷ rest) = false

-- one LF, at the end
abbrev pub is_closed : List ℕ → Bool
is_closed [] = false
is_closed (byte ∷ rest) = cond (byte == 10) (is_null rest) (is_closed rest)

-- the lines of some text: each is closed, but the last may be open, and has a byte then
abbrev pub AreLines : List (List ℕ) → Type 0
AreLines [] = Unit {0}
AreLines (line ∷ lines) = ((is_closed line ≡ true) × AreLines lines) ⊎ ((0 < length line) × (is_open line ≡ true) × (lines ≡ []))

-- the first line of a text is closed, or the text is open
first-is : (text : List ℕ) → (is_closed (take (line_len text) text) ≡ true) ⊎ ((is_open text ≡ true) × (line_len text ≡ length text))
unfolding line_len
first-is [] = inr (refl, refl)
first-is (byte ∷ rest) = ⊎_elim
    (λ feed.
    inl (ap (λ n. is_closed (take n (byte ∷ rest))) (cond-true (byte == 10) 1 (suc (line_len rest)) feed)
    ∙ cond-true (byte == 10) true false feed))
    (λ other.
    let long = cond-false (byte == 10) 1 (suc (line_len rest)) other in
    ⊎_elim
    (λ closed.
    inl (ap (λ n. is_closed (take n (byte ∷ rest))) long
    ∙ cond-false (byte == 10) (is_null (take (line_len rest) rest)) (is_closed (take (line_len rest) rest)) other
    ∙ closed))
    (λ open_rest. inr (cond-false (byte == 10) false (is_open rest) other ∙ open_rest.0, long ∙ ap suc open_rest.1))
    (first-is rest))
    (cases_Bool (byte == 10))

are-lines-within : (most : ℕ) (text : List ℕ) → length text ≤ most → AreLines (lines_of text)
are-lines-within most [] within = subst AreLines (sym lines-nil) tt
are-lines-within zero (byte ∷ rest) within = absurd (omega arith)
are-lines-within (suc most) (byte ∷ rest) within =
    let text = byte ∷ rest in
    let width = line_len text in
    let bounds = line_len-bounds text (omega arith) in
    let left = length-drop width text in
    subst AreLines (sym (lines-step text (omega arith))) (⊎_elim
    (λ closed. inl (closed, are-lines-within most (drop width text) (omega arith)))
    (λ whole.
    let all : take width text ≡ text = take_all width text (omega (arith, whole.1)) in
    let none : lines_of (drop width text) ≡ [] = ap lines_of (drop_all width text (omega (arith, whole.1))) ∙ lines-nil in
    inr (subst (λ line. 0 < length line) (sym all) (omega arith), ap is_open all ∙ whole.0, none))
    (first-is text))

pub are-lines : (text : List ℕ) → AreLines (lines_of text)
are-lines text = are-lines-within (length text) text (omega arith)

joined-within : (most : ℕ) (text : List ℕ) → length text ≤ most → concat (lines_of text) ≡ text
joined-within most [] within = ap concat lines-nil
joined-within zero (byte ∷ rest) within = absurd (omega arith)
joined-within (suc most) (byte ∷ rest) within =
    let text = byte ∷ rest in
    let width = line_len text in
    let bounds = line_len-bounds text (omega arith) in
    let left = length-drop width text in
    ap concat (lines-step text (omega arith))
    ∙ ap (λ behind. take width text ++ behind) (joined-within most (drop width text) (omega arith))
    ∙ take-append-drop width text

-- a text is its lines one behind the other
pub joined : (text : List ℕ) → concat (lines_of text) ≡ text
joined text = joined-within (length text) text (omega arith)

closed-width : (line more : List ℕ) → is_closed line ≡ true → line_len (line ++ more) ≡ length line
unfolding line_len
closed-width [] more closed = absurd (false≢true closed)
closed-width (byte ∷ []) more closed = ⊎_elim
    (λ feed. cond-true (byte == 10) 1 (suc (line_len more)) feed)
    (λ other. absurd (false≢true (sym (cond-false (byte == 10) true false other) ∙ closed)))
    (cases_Bool (byte == 10))
closed-width (byte ∷ next ∷ rest) more closed = ⊎_elim
    (λ feed. absurd (false≢true (sym (cond-true (byte == 10) false (is_closed (next ∷ rest)) feed) ∙ closed)))
    (λ other.
    let inner = closed-width (next ∷ rest) more (sym (cond-false (byte == 10) false (is_closed (next ∷ rest)) other) ∙ closed) in
    cond-false (byte == 10) 1 (suc (line_len ((next ∷ rest) ++ more))) other ∙ ap suc inner)
    (cases_Bool (byte == 10))

open-width : (line : List ℕ) → is_open line ≡ true → line_len line ≡ length line
unfolding line_len
open-width [] is = refl
open-width (byte ∷ rest) is = ⊎_elim
    (λ feed. absurd (false≢true (sym (cond-true (byte == 10) false (is_open rest) feed) ∙ is)))
    (λ other.
    let inner = open-width rest (sym (cond-false (byte == 10) false (is_open rest) other) ∙ is) in
    cond-false (byte == 10) 1 (suc (line_len rest)) other ∙ ap suc inner)
    (cases_Bool (byte == 10))

pub some-byte : (line : List ℕ) → is_closed line ≡ true → 0 < length line
some-byte [] closed = absurd (false≢true closed)
some-byte (byte ∷ rest) closed = omega arith

-- a closed line is the first of any text that it begins
pub closed-first : (line more : List ℕ) → is_closed line ≡ true → lines_of (line ++ more) ≡ line ∷ lines_of more
closed-first line more closed =
    let text = line ++ more in
    let width = length line in
    let some = some-byte line closed in
    let long = length-append line more in
    let front : take width text ≡ line = take-append-le width line more (omega arith) ∙ take_all width line (omega arith) in
    let behind : drop width text ≡ more = drop-append-le width line more (omega arith) ∙ ap (λ left. left ++ more) (drop_all width line (omega arith)) in
    lines-step text (omega arith)
    ∙ ap (λ n. take n text ∷ lines_of (drop n text)) (closed-width line more closed)
    ∙ ap (λ l. l ∷ lines_of (drop width text)) front
    ∙ ap (λ t. line ∷ lines_of t) behind

open-alone : (line : List ℕ) → 0 < length line → is_open line ≡ true → lines_of line ≡ line ∷ []
open-alone line some is =
    let width = length line in
    lines-step line some
    ∙ ap (λ n. take n line ∷ lines_of (drop n line)) (open-width line is)
    ∙ ap (λ l. l ∷ lines_of (drop width line)) (take_all width line (omega arith))
    ∙ ap (λ t. line ∷ lines_of t) (drop_all width line (omega arith))
    ∙ ap (λ lines. line ∷ lines) lines-nil

-- the lines of lines one behind the other are these lines
pub lines-joined : (lines : List (List ℕ)) → AreLines lines → lines_of (concat lines) ≡ lines
lines-joined [] are = lines-nil
lines-joined (line ∷ lines) are = ⊎_elim
    (λ more. closed-first line (concat lines) more.0 ∙ ap (λ l. line ∷ l) (lines-joined lines more.1))
    (λ last.
    ap (λ l. lines_of (line ++ concat l)) last.2 ∙ ap lines_of (append-nil line) ∙ open-alone line last.0 last.1
    ∙ ap (λ l. line ∷ l) (sym last.2))
    are

-- what becomes of each line are lines again, where a closed one stays closed
pub map-lines : (form : List ℕ → List ℕ) → ((line : List ℕ) → is_closed line ≡ true → is_closed (form line) ≡ true)
    → ((line : List ℕ) → 0 < length line → is_open line ≡ true → AreLines (form line ∷ []))
    → (lines : List (List ℕ)) → AreLines lines → AreLines (map form lines)
map-lines form closed last [] are = tt
map-lines form closed last (line ∷ lines) are = ⊎_elim
    (λ more. inl (closed line more.0, map-lines form closed last lines more.1))
    (λ whole. subst (λ l. AreLines (form line ∷ map form l)) (sym whole.2) (last line whole.0 whole.1))
    are

pub flat-is-joined : (form : List ℕ → List ℕ) (lines : List (List ℕ)) → flat_map form lines ≡ concat (map form lines)
flat-is-joined form [] = refl
flat-is-joined form (line ∷ lines) = ap (λ behind. form line ++ behind) (flat-is-joined form lines)
