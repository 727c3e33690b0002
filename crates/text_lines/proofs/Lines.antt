-- The lines of a text, one after the other.
use Rattle.std.proofs.Common.{◌≡◌, ℕ, suc, ◌+◌, ◌<◌, ◌≤◌, ⊎_elim, Bool, true, false, cond, List, [], ◌∷◌, ◌==◌, ◌||◌, nat_le, not, length, take, drop, length-drop, refl, ap, ◌∙◌, sym, arith}
use Rattle.std.specs.List.{before_first, prefix_len, count_by, list_any}
use Rattle.std.proofs.lemmas.Bool.{cases_eq, eq-eqb, ne_eqb, lt-leb}
use Rattle.std.proofs.lemmas.List.{drop_all}
use Rattle.std.proofs.lemmas.List.Sums.{sum_by-cons}
use Rattle.bstr.proofs.lemmas.LineLemmas.{lines-nil, lines-empty, lines-step}
use Rattle.bstr.specs.Text.{line_len}
use Rattle.text_lines.specs.Lines.{lines_of, header_of, is_empty_line}

-- what is known of the length of the first line
pub record IsFirstLine (text : List ℕ) (width : ℕ) : Type 0 where
  pub within : width ≤ length text
  pub some : 0 < length text → 0 < width
  pub lines : 0 < length text → lines_of text ≡ take width text ∷ lines_of (drop width text)

-- a text whose first line is all of it has no other line
pub one-line : (text : List ℕ) (width : ℕ) → IsFirstLine text width → (width == length text) ≡ nat_le (length (lines_of text)) 1
one-line [] width first = eq-eqb width 0 (omega (arith, first.within)) ∙ ap (λ lines. nat_le (length lines) 1) (sym lines-nil)
one-line (byte ∷ rest) width first =
    let text = byte ∷ rest in
    let lines = first.lines (omega arith) in
    let left = length-drop width text in
    ⊎_elim
    (λ whole.
    let none : lines_of (drop width text) ≡ [] = ap lines_of (drop_all width text (omega arith)) ∙ lines-nil in
    eq-eqb width (length text) whole ∙ ap (λ l. nat_le (length l) 1) (sym (lines ∙ ap (λ l. take width text ∷ l) none)))
    (λ part.
    let within = first.within in
    let more = lines-step (drop width text) (omega arith) in
    let two : nat_le (2 + length (lines_of (drop (line_len (drop width text)) (drop width text)))) 1 ≡ false = lt-leb _ 1 (omega arith) in
    ne_eqb width (length text) part ∙ sym two ∙ ap (λ n. nat_le n 1) (omega arith) ∙ ap (λ l. nat_le (length l) 1) (sym (lines ∙ ap (λ l. take width text ∷ l) more)))
    (cases_eq width (length text))

-- the lines before the first that passes a test, one line more
pub before-step : (test : List ℕ → Bool) (line : List ℕ) (lines : List (List ℕ)) → before_first test (line ∷ lines) ≡ cond (test line) [] (line ∷ before_first test lines)
before-step test line lines =
    let n = prefix_len (λ other. not (test other)) lines in
    elim (test line) as (λ is. take (cond (not is) (1 + n) 0) (line ∷ lines) ≡ cond is [] (line ∷ take n lines)) [
      | true ↦ refl
      | false ↦ ap (λ k. take k (line ∷ lines)) (by_one n)
    ]
  where
    by_one : (n : ℕ) → 1 + n ≡ suc n
    by_one n = omega arith

module _ (test : List ℕ → Bool) (text : List ℕ) (width : ℕ) (some : 0 < length text) (first : IsFirstLine text width) where
  -- the lines that pass a test: the first, if it does, and those behind it
  pub count-lines : count_by test (lines_of text) ≡ cond (test (take width text)) 1 0 + count_by test (lines_of (drop width text))
  count-lines =
      ap (count_by test) (first.lines some) ∙ sum_by-cons (λ line. cond (test line) 1 0) (take width text) (lines_of (drop width text))

  -- a header line passes a test: the first, or one behind it, unless the first is empty
  pub any-header : list_any test (header_of text) ≡ cond (is_empty_line (take width text)) false (test (take width text) || list_any test (header_of (drop width text)))
  any-header =
      let line = take width text in
      let lines = lines_of (drop width text) in
      let header = ap (before_first is_empty_line) (first.lines some) ∙ before-step is_empty_line line lines in
      ap (list_any test) header
      ∙ elim (is_empty_line line) as (λ is. list_any test (cond is [] (line ∷ before_first is_empty_line lines)) ≡ cond is false (test line || list_any test (before_first is_empty_line lines))) [
        | true ↦ refl
        | false ↦ refl
      ]

pub no_lines : (text : List ℕ) → length text ≡ 0 → lines_of text ≡ []
no_lines = lines-empty
