-- The lines of fields, by where their names and values stand.
use Rattle.std.proofs.Common.{◌≡◌, ◌∙◌, ◌⊎◌, inl, inr, ⊎_elim, ℕ, zero, suc, ◌+◌, ◌-◌, ◌≤◌, ◌<◌, ◌^◌, Bool, true, false, List, [], ◌∷◌, ◌++◌, ◌==◌, ◌&&◌, not, length, take, drop, map, refl, ap, sym, subst, arith, slice_range}
use Rattle.std.specs.List.{concat, after_first, position_or_len, prefix_len}
use Rattle.std.proofs.lemmas.Bool.{cases_Bool, cond-true, cond-false, and_parts, and_right, eqb-true, false≢true}
use Rattle.std.proofs.lemmas.List.{append_assoc, append-nil, take-append-drop, drop_at, length-append, length-take, length-take-le, length-drop}
use Rattle.std.proofs.lemmas.List.Folds.{concat-append}
use Rattle.text_lines.specs.Blanks.{is_continuation}
use Rattle.text_lines.specs.Lines.{lines_of, lines_from, header_of, line_text, line_end_of, is_line_end, is_empty_line, is_open}
use Rattle.text_lines.proofs.LineEnds.{text-then-end}
use Rattle.text_lines.proofs.OpenLines.{closed-other, closed-behind, open-first, open-behind}
use Rattle.text_lines.proofs.Texts.{is_closed, AreLines, are-lines, joined, closed-first}
use Rattle.head_fields.specs.Fields.{is_colon, begins_field, name_of, value_of, continuations, readings_of, reading_in, field_at, fields_from, fields_of, span_at}
use Rattle.head_fields.proofs.FieldLines.{fields-of_first, fields-of_other}
use Rattle.head_fields.proofs.FieldPlaces.{colon-inside}
use Rattle.head_fields.proofs.Readings.{readings-are}
use Rattle.body_sections.specs.FieldLines.{field_spans, first_line, field_end, lines_span, chosen_lines}

no-line : length (first_line (lines_of [])) ≡ 0
unfolding lines_from
no-line = refl

-- how long the first line of a text is
pub first_length : (text : List ℕ) (n : ℕ) → n ≤ length text → (0 < length text → lines_of text ≡ take n text ∷ lines_of (drop n text)) → n ≡ length (first_line (lines_of text))
first_length [] n few lines = omega (arith, few, no-line)
first_length (byte ∷ rest) n few lines = sym (length-take-le n (byte ∷ rest) few) ∙ sym (ap (λ l. length (first_line l)) (lines (omega arith)))

-- what is cut out at an offset ends within the address space
pub slice_fits : (text : List ℕ) (from to : ℕ) → from < 2 ^ 64 → length text < 2 ^ 64 → from + length (slice_range text from to) < 2 ^ 64
slice_fits text from to low small =
    let cut = length-take (to - from) (drop from text) in
    let left = length-drop from text in
    omega (arith, cut, left, low, small)

-- ---- What stands behind a value

-- bytes that end in a line with LF end in a line end
end-of_closed : (front line : List ℕ) → is_closed line ≡ true → is_line_end (line_end_of (front ++ line)) ≡ true
end-of_closed [] [] closed = absurd (false≢true closed)
end-of_closed [] (byte ∷ rest) closed = ⊎_elim
    (λ whole. ap is_line_end (cond-true (is_line_end (byte ∷ rest)) (byte ∷ rest) (line_end_of rest) whole) ∙ whole)
    (λ part.
    ap is_line_end (cond-false (is_line_end (byte ∷ rest)) (byte ∷ rest) (line_end_of rest) part)
    ∙ end-of_closed [] rest (closed-behind byte rest (closed-other byte rest closed part) closed))
    (cases_Bool (is_line_end (byte ∷ rest)))
end-of_closed (byte ∷ front) line closed =
    let bytes = byte ∷ front ++ line in
    ⊎_elim
    (λ whole. ap is_line_end (cond-true (is_line_end bytes) bytes (line_end_of (front ++ line)) whole) ∙ whole)
    (λ part. ap is_line_end (cond-false (is_line_end bytes) bytes (line_end_of (front ++ line)) part) ∙ end-of_closed front line closed)
    (cases_Bool (is_line_end bytes))

no-end : (front line : List ℕ) → 0 < length line → is_open line ≡ true → is_line_end (front ++ line) ≡ false
no-end front [] some is = absurd (omega (arith, some))
no-end [] (byte ∷ []) some is = open-first byte [] is
no-end [] (byte ∷ next ∷ rest) some is = and_right (byte == 13) (is_line_end (next ∷ rest)) (no-end [] (next ∷ rest) (omega arith) (open-behind byte (next ∷ rest) is))
no-end (byte ∷ []) (next ∷ rest) some is = and_right (byte == 13) (is_line_end (next ∷ rest)) (no-end [] (next ∷ rest) some is)
no-end (byte ∷ other ∷ front) (next ∷ rest) some is = and_right (byte == 13) (is_line_end (other ∷ front ++ next ∷ rest)) (no-end (other ∷ front) (next ∷ rest) some is)

-- bytes that end in others without LF end in none
end-of_open : (line : List ℕ) → is_open line ≡ true → line_end_of line ≡ []
end-of_open [] is = refl
end-of_open (byte ∷ rest) is =
    cond-false (is_line_end (byte ∷ rest)) (byte ∷ rest) (line_end_of rest) (no-end [] (byte ∷ rest) (omega arith) is) ∙ end-of_open rest (open-behind byte rest is)

end-of_last : (front line : List ℕ) → 0 < length line → is_open line ≡ true → line_end_of (front ++ line) ≡ []
end-of_last [] line some is = end-of_open line is
end-of_last (byte ∷ front) line some is =
    let bytes = byte ∷ front ++ line in
    cond-false (is_line_end bytes) bytes (line_end_of (front ++ line)) (no-end (byte ∷ front) line some is) ∙ end-of_last front line some is

-- some bytes end in a line end, or no line follows them
abbrev Ends : List ℕ → List (List ℕ) → Type 0
Ends bytes next = (is_line_end (line_end_of bytes) ≡ true) ⊎ ((line_end_of bytes ≡ []) × (next ≡ []))

-- so they do with lines behind them
more-ends : (n : ℕ) (front : List ℕ) (rest others : List (List ℕ)) → Ends front (rest ++ others) → AreLines (rest ++ others) → Ends (front ++ concat (take n rest)) (drop n rest ++ others)
more-ends zero front rest others ends are = subst (λ b. Ends b (rest ++ others)) (sym (append-nil front)) ends
more-ends (suc n) front [] others ends are = subst (λ b. Ends b others) (sym (append-nil front)) ends
more-ends (suc n) front (line ∷ rest) others ends are =
    let ended : Ends (front ++ line) (rest ++ others) =
    ⊎_elim (λ more. inl (end-of_closed front line more.0)) (λ last. inr (end-of_last front line last.0 last.1, last.2)) are in
    let later : AreLines (rest ++ others) = ⊎_elim (λ more. more.1) (λ last. subst AreLines (sym last.2) tt) are in
    subst (λ b. Ends b (drop n rest ++ others)) (append_assoc front line (concat (take n rest))) (more-ends n (front ++ line) rest others ended later)

end-closed : (end : List ℕ) → is_line_end end ≡ true → is_closed end ≡ true
end-closed [] is = absurd (false≢true is)
end-closed (byte ∷ []) is = cond-true (byte == 10) true false is
end-closed (byte ∷ next ∷ rest) is =
    let parts = and_parts (byte == 13) (is_line_end (next ∷ rest)) is in
    cond-false (byte == 10) false (is_closed (next ∷ rest)) (ap (λ b. b == 10) (eqb-true byte 13 parts.0)) ∙ end-closed (next ∷ rest) parts.1

-- what is left of the line behind a value is the line end
rest-length : (bytes : List ℕ) (next : List (List ℕ)) → Ends bytes next → length (first_line (lines_of (line_end_of bytes ++ concat next))) ≡ length (line_end_of bytes)
rest-length bytes next ends = ⊎_elim
    (λ is. ap (λ l. length (first_line l)) (closed-first (line_end_of bytes) (concat next) (end-closed (line_end_of bytes) is)))
    (λ none.
    ap (λ e. length (first_line (lines_of (e ++ concat next)))) none.0
    ∙ ap (λ n. length (first_line (lines_of (concat n)))) none.1 ∙ no-line ∙ sym (ap length none.0))
    ends

-- ---- One field

-- behind a colon a line with LF still has its LF
closed-behind_colon : (line : List ℕ) → is_closed line ≡ true → position_or_len is_colon line < length line → is_closed (after_first is_colon line) ≡ true
closed-behind_colon [] closed inside = absurd (false≢true closed)
closed-behind_colon (byte ∷ rest) closed inside =
    let n = position_or_len is_colon rest in
    ⊎_elim
    (λ colon.
    let here : position_or_len is_colon (byte ∷ rest) ≡ 0 = cond-false (not (byte == 58)) (1 + n) 0 (ap not colon) in
    ap (λ k. is_closed (drop (k + 1) (byte ∷ rest))) here ∙ closed-behind byte rest (ap (λ b. b == 10) (eqb-true byte 58 colon)) closed)
    (λ other.
    let later : position_or_len is_colon (byte ∷ rest) ≡ 1 + n = cond-true (not (byte == 58)) (1 + n) 0 (ap not other) in
    let within : n < length rest = omega (arith, later, inside) in
    ap (λ k. is_closed (drop (k + 1) (byte ∷ rest))) later ∙ ap (λ k. is_closed (drop k (byte ∷ rest))) (one_more n)
    ∙ closed-behind_colon rest (closed-behind byte rest (no-feed rest within closed) closed) within)
    (cases_Bool (byte == 58))
  where
    one_more : (n : ℕ) → 1 + n + 1 ≡ suc (n + 1)
    one_more n = omega arith

    -- the LF is the last byte
    no-feed : (rest : List ℕ) → position_or_len is_colon rest < length rest → is_closed (byte ∷ rest) ≡ true → (byte == 10) ≡ false
    no-feed [] within closed = absurd (omega (arith, within))
    no-feed (next ∷ rest) within closed = ⊎_elim
        (λ feed. absurd (false≢true (sym (cond-true (byte == 10) false (is_closed (next ∷ rest)) feed) ∙ closed)))
        (λ other. other)
        (cases_Bool (byte == 10))

open-drop : (n : ℕ) (line : List ℕ) → is_open line ≡ true → is_open (drop n line) ≡ true
open-drop zero line is = is
open-drop (suc n) [] is = refl
open-drop (suc n) (byte ∷ rest) is = open-drop n rest (open-behind byte rest is)

abbrev first-name : List (List ℕ × List ℕ) → List ℕ
first-name [] = []
first-name (reading ∷ more) = reading.0

module _ (text before line : List ℕ) (rest others : List (List ℕ)) (whole : text ≡ before ++ concat ((line ∷ rest) ++ others)) (are : AreLines ((line ∷ rest) ++ others)) (begins : begins_field line ≡ true) where
  -- its name stands where it begins
  name-here : slice_range text (length before) (length before + length (name_of line)) ≡ name_of line
  name-here =
      let offset = length before in
      let more = continuations rest in
      ap (λ fields. first-name (map (reading_in text) fields)) (sym (fields-of_first offset line rest begins))
      ∙ ap first-name (readings-are text before (concat others) (line ∷ rest) (whole ∙ ap (λ t. before ++ t) (concat-append (line ∷ rest) others)))
      ∙ ap first-name (cond-true (begins_field line) ((name_of line, value_of line more) ∷ readings_of rest) (readings_of rest) begins)

  -- its last line ends behind it and the lines that continue it
  end-here : field_end text (field_at (length before) line (continuations rest)) ≡ length before + length (concat (line ∷ continuations rest))
  end-here =
      let n = prefix_len is_continuation rest in
      let more = take n rest in
      let next = drop n rest ++ others in
      let colon = position_or_len is_colon line in
      let inside = colon-inside line begins in
      let front = take (colon + 1) line in
      let behind = drop (colon + 1) line in
      let tail = behind ++ concat more in
      let value = line_text tail in
      let end = line_end_of tail in
      let to = length before + colon + 1 + length value in
      let begun : Ends behind (rest ++ others) = ⊎_elim
      (λ closed. inl (end-of_closed [] behind (closed-behind_colon line closed.0 inside)))
      (λ last. inr (end-of_open behind (open-drop (colon + 1) line last.1), last.2))
      are in
      let later : AreLines (rest ++ others) = ⊎_elim (λ closed. closed.1) (λ last. subst AreLines (sym last.2) tt) are in
      let line_is : line ≡ front ++ behind = sym (take-append-drop (colon + 1) line) in
      let rest_is : concat (rest ++ others) ≡ concat more ++ concat next =
      ap (λ l. concat (l ++ others)) (sym (take-append-drop n rest)) ∙ ap concat (append_assoc more (drop n rest) others) ∙ concat-append more next in
      let parts : text ≡ ((before ++ front) ++ value) ++ (end ++ concat next) =
      whole ∙ ap (λ l. before ++ (l ++ concat (rest ++ others))) line_is ∙ ap (λ r. before ++ ((front ++ behind) ++ r)) rest_is
      ∙ regroup before front behind (concat more) (concat next)
      ∙ ap (λ v. (before ++ front) ++ (v ++ concat next)) (sym (text-then-end tail))
      ∙ apart (before ++ front) value end (concat next) in
      let taken = length-take-le (colon + 1) line (omega (arith, inside)) in
      let fronts = length-append before front in
      let texts = length-append (before ++ front) value in
      let left : drop to text ≡ end ++ concat next = ap (drop to) parts ∙ drop_at ((before ++ front) ++ value) (end ++ concat next) to (omega (arith, taken, fronts, texts)) in
      let rested = ap (λ t. length (first_line (lines_of t))) left ∙ rest-length tail next (more-ends n behind rest others begun later) in
      let both = ap length (text-then-end tail) in
      let tails = length-append value end in
      let behinds = length-append behind (concat more) in
      let dropped = length-drop (colon + 1) line in
      let all = length-append line (concat more) in
      omega (arith, inside, rested, both, tails, behinds, dropped, all)
    where
      regroup : (before front behind more left : List ℕ) → before ++ ((front ++ behind) ++ (more ++ left)) ≡ (before ++ front) ++ ((behind ++ more) ++ left)
      regroup before front behind more left = simp append_assoc

      apart : (before value end left : List ℕ) → before ++ ((value ++ end) ++ left) ≡ (before ++ value) ++ (end ++ left)
      apart before value end left = simp append_assoc

-- ---- All fields

module _ (chosen : List ℕ → Bool) (at : ℕ) (text : List ℕ) where
  lines-are : (before : List ℕ) (lines others : List (List ℕ)) → AreLines (lines ++ others) → text ≡ before ++ concat (lines ++ others)
      → field_spans chosen (at + length before) lines ≡ chosen_lines chosen at text (fields_from (length before) lines)
  lines-are before [] others are whole = refl
  lines-are before (line ∷ rest) others are whole =
      let offset = length before in
      let more = continuations rest in
      let field = field_at offset line more in
      let width = length (concat (line ∷ more)) in
      let sum = length-append before line in
      let spans = field_spans chosen (at + offset + length line) rest in
      let fields = fields_from (offset + length line) rest in
      let next : AreLines (rest ++ others) = ⊎_elim (λ closed. closed.1) (λ last. subst AreLines (sym last.2) tt) are in
      let later : spans ≡ chosen_lines chosen at text fields =
      ap (λ n. field_spans chosen n rest) (omega (arith, sum))
      ∙ lines-are (before ++ line) rest others next (whole ∙ sym (append_assoc before line (concat (rest ++ others))))
      ∙ ap (λ n. chosen_lines chosen at text (fields_from n rest)) sum in
      ⊎_elim
      (λ begins.
      let name : chosen (slice_range text field.name.from field.name.to) ≡ chosen (name_of line) = ap chosen (name-here text before line rest others whole are begins) in
      let end = end-here text before line rest others whole are begins in
      let own : span_at (at + offset) width ≡ lines_span at text field = ap (λ to. record { from = at + offset; to = to }) (omega (arith, end)) in
      let are-fields = ap (chosen_lines chosen at text) (fields-of_first offset line rest begins) in
      ⊎_elim
      (λ is.
      cond-true (begins_field line && chosen (name_of line)) (span_at (at + offset) width ∷ spans) spans (ap (λ b. b && chosen (name_of line)) begins ∙ is)
      ∙ (λ i. own i ∷ later i)
      ∙ sym (are-fields ∙ ap (map (lines_span at text)) (cond-true (chosen (slice_range text field.name.from field.name.to)) _ _ (name ∙ is))))
      (λ is.
      cond-false (begins_field line && chosen (name_of line)) (span_at (at + offset) width ∷ spans) spans (ap (λ b. b && chosen (name_of line)) begins ∙ is)
      ∙ later
      ∙ sym (are-fields ∙ ap (map (lines_span at text)) (cond-false (chosen (slice_range text field.name.from field.name.to)) _ _ (name ∙ is))))
      (cases_Bool (chosen (name_of line))))
      (λ other.
      cond-false (begins_field line && chosen (name_of line)) (span_at (at + offset) width ∷ spans) spans (ap (λ b. b && chosen (name_of line)) other)
      ∙ later ∙ sym (ap (chosen_lines chosen at text) (fields-of_other offset line rest other)))
      (cases_Bool (begins_field line))

-- the lines of the chosen fields of a header, by their names and values
pub header_lines : (chosen : List ℕ → Bool) (at : ℕ) (header : List ℕ) → field_spans chosen at (header_of header) ≡ chosen_lines chosen at header (fields_of header)
header_lines chosen at header =
    let lines = lines_of header in
    let others = drop (position_or_len is_empty_line lines) lines in
    let all : header_of header ++ others ≡ lines = take-append-drop (position_or_len is_empty_line lines) lines in
    ap (λ n. field_spans chosen n (header_of header)) (omega arith)
    ∙ lines-are chosen at header [] (header_of header) others (subst AreLines (sym all) (are-lines header)) (sym (joined header) ∙ ap concat (sym all))
