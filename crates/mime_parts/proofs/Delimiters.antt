-- The lines up to a delimiter line, a line at a time.
use Rattle.std.proofs.Common.{◌≡◌, ◌∙◌, ◌+◌, ◌≤◌, ℕ, suc, true, false, not, cond, List, [], ◌∷◌, ◌++◌, length, take, drop, refl, ap, sym, arith}
use Rattle.std.specs.List.{concat, prefix_len}
use Rattle.std.proofs.Math.Seq.{take-add}
use Rattle.std.proofs.lemmas.Bool.{cond-true, cond-false}
use Rattle.std.proofs.lemmas.List.{append_assoc, append-nil, take-append-drop, length-drop, drop-drop, take_at}
use Rattle.text_lines.specs.Lines.{lines_of, line_text, line_end_of}
use Rattle.text_lines.proofs.LineEnds.{text-then-end}
use Rattle.text_lines.proofs.Lines.{before-step, no_lines}
use Rattle.mime_parts.specs.Delimiters.{is_delimiter, text_before, lines_before, lines_from_delimiter, BeginsLines}

module _ (boundary line : List ℕ) (rest : List (List ℕ)) where
  pub before-other : is_delimiter boundary line ≡ false → lines_before boundary (line ∷ rest) ≡ line ∷ lines_before boundary rest
  before-other other = before-step (is_delimiter boundary) line rest ∙ cond-false (is_delimiter boundary line) [] (line ∷ lines_before boundary rest) other

  pub before-delimiter : is_delimiter boundary line ≡ true → lines_before boundary (line ∷ rest) ≡ []
  before-delimiter is = before-step (is_delimiter boundary) line rest ∙ cond-true (is_delimiter boundary line) [] (line ∷ lines_before boundary rest) is

  counted : prefix_len (λ l. not (is_delimiter boundary l)) (line ∷ rest) ≡ cond (not (is_delimiter boundary line)) (1 + prefix_len (λ l. not (is_delimiter boundary l)) rest) 0
  counted = refl

  pub from-other : is_delimiter boundary line ≡ false → lines_from_delimiter boundary (line ∷ rest) ≡ lines_from_delimiter boundary rest
  from-other other =
      let n = prefix_len (λ l. not (is_delimiter boundary l)) rest in
      ap (λ k. drop k (line ∷ rest)) (cond-true (not (is_delimiter boundary line)) (1 + n) 0 (ap not other) ∙ (let e : 1 + n ≡ suc n = omega arith in e))

  pub from-delimiter : is_delimiter boundary line ≡ true → lines_from_delimiter boundary (line ∷ rest) ≡ line ∷ rest
  from-delimiter is =
      let n = prefix_len (λ l. not (is_delimiter boundary l)) rest in
      ap (λ k. drop k (line ∷ rest)) (cond-false (not (is_delimiter boundary line)) (1 + n) 0 (ap not is))

module _ (boundary text line : List ℕ) (at : ℕ) (first : BeginsLines (drop at text) line) where
  place : drop (length line) (drop at text) ≡ drop (at + length line) text
  place = drop-drop (length line) at text

  lines-at : lines_of (drop at text) ≡ line ∷ lines_of (drop (at + length line) text)
  lines-at = first.lines ∙ ap (λ t. line ∷ lines_of t) place

  passed : take (at + length line) text ≡ take at text ++ line
  passed = take-add at (length line) text ∙ ap (λ l. take at text ++ l) (sym first.front)

  pub before-goes_on : is_delimiter boundary line ≡ false
      → take (at + length line) text ++ concat (lines_before boundary (lines_of (drop (at + length line) text))) ≡ take at text ++ concat (lines_before boundary (lines_of (drop at text)))
  before-goes_on other =
      ap (λ t. t ++ concat (lines_before boundary (lines_of (drop (at + length line) text)))) passed
      ∙ append_assoc (take at text) line _
      ∙ ap (λ ls. take at text ++ concat ls) (sym (before-other boundary line (lines_of (drop (at + length line) text)) other))
      ∙ ap (λ ls. take at text ++ concat (lines_before boundary ls)) (sym lines-at)

  pub behind-goes_on : is_delimiter boundary line ≡ false → lines_from_delimiter boundary (lines_of (drop (at + length line) text)) ≡ lines_from_delimiter boundary (lines_of (drop at text))
  behind-goes_on other = sym (from-other boundary line (lines_of (drop (at + length line) text)) other) ∙ ap (lines_from_delimiter boundary) (sym lines-at)

  pub before-ends : is_delimiter boundary line ≡ true → take at text ++ concat (lines_before boundary (lines_of (drop at text))) ≡ take at text
  before-ends is = ap (λ ls. take at text ++ concat (lines_before boundary ls)) lines-at ∙ ap (λ ls. take at text ++ concat ls) (before-delimiter boundary line (lines_of (drop (at + length line) text)) is) ∙ append-nil (take at text)

  pub behind-ends : is_delimiter boundary line ≡ true → lines_from_delimiter boundary (lines_of (drop at text)) ≡ line ∷ lines_of (drop (at + length line) text)
  behind-ends is = ap (lines_from_delimiter boundary) lines-at ∙ from-delimiter boundary line (lines_of (drop (at + length line) text)) is

-- the text of a part that a delimiter ends, and of one that goes on to the end
pub text-ended : (text line : List ℕ) (lines more behind : List (List ℕ)) (front : List ℕ) → concat lines ≡ front → behind ≡ line ∷ more → text_before lines behind ≡ line_text front
text-ended text line lines more behind front whole is = ap (text_before lines) is ∙ ap line_text whole

pub text-whole : (lines behind : List (List ℕ)) (front : List ℕ) → concat lines ≡ front → behind ≡ [] → text_before lines behind ≡ front
text-whole lines behind front whole is = ap (text_before lines) is ∙ whole

-- a line's text stands in front of its line end
pub text-front : (text : List ℕ) (at : ℕ) → take (length (line_text (take at text))) text ≡ line_text (take at text)
text-front text at =
    let front = line_text (take at text) in
    let end = line_end_of (take at text) in
    let whole : text ≡ front ++ (end ++ drop at text) = sym (take-append-drop at text) ∙ ap (λ t. t ++ drop at text) (sym (text-then-end (take at text))) ∙ append_assoc front end (drop at text) in
    ap (take (length front)) whole ∙ take_at front (end ++ drop at text) (length front) refl

-- at the end no line is left
pub no-lines-left : (text : List ℕ) (at : ℕ) → length text ≤ at → lines_of (drop at text) ≡ []
no-lines-left text at end = no_lines (drop at text) (let left = length-drop at text in omega arith)
