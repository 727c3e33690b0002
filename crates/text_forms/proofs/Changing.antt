-- One line of a text put into a form, and the lines behind it.
use Rattle.std.proofs.Common.{◌≡◌, ◌+◌, ◌-◌, ◌≤◌, ℕ, List, [], ◌∷◌, ◌++◌, flat_map, length, take, drop, slice_range, append_assoc, refl, ap, sym, ◌∙◌, arith}
use Rattle.std.proofs.Math.Seq.{take-add}
use Rattle.std.proofs.lemmas.List.{append-nil, drop-drop, drop_all, drop-append-le, take-append-drop, take-append-le, take_all, length-drop}
use Rattle.text_lines.proofs.Lines.{no_lines}
use Rattle.text_lines.specs.Lines.{lines_of}

-- a part of a text and the part behind it
pub slice-slice : (text : List ℕ) (from middle to : ℕ) → from ≤ middle → middle ≤ to → slice_range text from middle ++ slice_range text middle to ≡ slice_range text from to
slice-slice text from middle to low high =
    let first = middle - from in
    let second = to - middle in
    let there : from + first ≡ middle = omega (arith, low) in
    let all : first + second ≡ to - from = omega (arith, low, high) in
    ap (λ t. take first (drop from text) ++ take second t) (ap (λ n. drop n text) (sym there) ∙ sym (drop-drop first from text))
    ∙ sym (take-add first second (drop from text)) ∙ ap (λ n. take n (drop from text)) all

module _ (form : List ℕ → List ℕ) where
  -- the lines of a text in the form
  abbrev pub formed : List ℕ → List ℕ
  formed text = flat_map form (lines_of text)

  module _ (text line : List ℕ) (copied at : ℕ) (low : copied ≤ at) (within : at ≤ length text)
      (front : take (length line) (drop at text) ≡ line) (lines : lines_of (drop at text) ≡ line ∷ lines_of (drop (length line) (drop at text))) where
    abbrev end : ℕ
    end = at + length line

    behind : drop (length line) (drop at text) ≡ drop end text
    behind = drop-drop (length line) at text

    here : slice_range text at end ≡ line
    here = ap (λ n. take n (drop at text)) (width (length line)) ∙ front
      where
        width : (n : ℕ) → at + n - at ≡ n
        width n = omega arith

    rest-is : formed (drop at text) ≡ form line ++ formed (drop end text)
    rest-is = ap (flat_map form) lines ∙ ap (λ t. form line ++ formed t) behind

    -- a line that stays goes to what is kept
    pub line-stays : form line ≡ line → slice_range text copied end ++ formed (drop end text) ≡ slice_range text copied at ++ formed (drop at text)
    line-stays same =
        ap (λ front. front ++ formed (drop end text)) (sym (slice-slice text copied at end low (omega arith)) ∙ ap (λ l. slice_range text copied at ++ l) here)
        ∙ append_assoc (slice_range text copied at) line (formed (drop end text))
        ∙ ap (λ l. slice_range text copied at ++ (l ++ formed (drop end text))) (sym same)
        ∙ ap (λ t. slice_range text copied at ++ t) (sym rest-is)

    module _ (from to : ℕ) (few : from ≤ length line) (most : to ≤ length line) where
      first-part : slice_range text copied (at + from) ≡ slice_range text copied at ++ take from line
      first-part =
          let parts = slice-slice text copied at (at + from) low (omega arith) in
          let width : at + from - at ≡ from = omega arith in
          sym parts ∙ ap (λ t. slice_range text copied at ++ t) (ap (λ n. take n (drop at text)) width
          ∙ ap (take from) (sym (take-append-drop (length line) (drop at text)) ∙ ap (λ l. l ++ drop (length line) (drop at text)) front)
          ∙ take-append-le from line (drop (length line) (drop at text)) few)

      last-part : slice_range text (at + to) end ≡ drop to line
      last-part =
          let tail = drop (length line) (drop at text) in
          let width : end - (at + to) ≡ length line - to = omega (arith, most) in
          let size = length-drop to line in
          ap (λ n. take n (drop (at + to) text)) width
          ∙ ap (take (length line - to)) (sym (drop-drop to at text) ∙ ap (drop to) (sym (take-append-drop (length line) (drop at text)) ∙ ap (λ l. l ++ tail) front) ∙ drop-append-le to line tail most)
          ∙ take-append-le (length line - to) (drop to line) tail (omega (arith, size, most))
          ∙ take_all (length line - to) (drop to line) (omega (arith, size, most))

      -- a line with a mark
      pub line-changes : (mark out : List ℕ) → form line ≡ take from line ++ (mark ++ drop to line)
          → ((out ++ slice_range text copied (at + from)) ++ mark) ++ (slice_range text (at + to) end ++ formed (drop end text)) ≡ out ++ (slice_range text copied at ++ formed (drop at text))
      line-changes mark out is =
          ap (λ t. ((out ++ t) ++ mark) ++ (slice_range text (at + to) end ++ formed (drop end text))) first-part
          ∙ ap (λ t. ((out ++ (slice_range text copied at ++ take from line)) ++ mark) ++ (t ++ formed (drop end text))) last-part
          ∙ regroup out (slice_range text copied at) (take from line) mark (drop to line) (formed (drop end text))
          ∙ ap (λ l. out ++ (slice_range text copied at ++ (l ++ formed (drop end text)))) (sym is)
          ∙ ap (λ t. out ++ (slice_range text copied at ++ t)) (sym rest-is)
        where
          regroup : (a b c d e f : List ℕ) → ((a ++ (b ++ c)) ++ d) ++ (e ++ f) ≡ a ++ (b ++ ((c ++ (d ++ e)) ++ f))
          regroup a b c d e f = simp append_assoc

  -- at the end of a text what is left is kept
  pub none-behind : (text : List ℕ) (copied at : ℕ) → length text ≤ at → slice_range text copied at ++ formed (drop at text) ≡ drop copied text
  none-behind text copied at past =
      let size = length-drop copied text in
      ap (λ t. slice_range text copied at ++ formed t) (drop_all at text past)
      ∙ ap (λ lines. slice_range text copied at ++ flat_map form lines) (no_lines [] refl)
      ∙ append-nil (slice_range text copied at)
      ∙ take_all (at - copied) (drop copied text) (omega (arith, size, past))
