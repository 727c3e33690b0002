-- The bytes that stand where a field's name and value are said to stand.
use Rattle.std.proofs.Common.{◌≡◌, ◌∙◌, ◌+◌, ◌-◌, ◌∷◌, ◌++◌, ⊎_elim, ℕ, true, false, [], List, length, take, drop, map, slice_range, refl, ap, sym, arith}
use Rattle.std.specs.List.{concat, position_or_len, prefix_len}
use Rattle.std.proofs.lemmas.Bool.{cases_Bool, cond-true, cond-false}
use Rattle.std.proofs.lemmas.List.{append_assoc, take-append-drop, drop_at, take_at, length-append, length-take-le}
use Rattle.std.proofs.lemmas.List.Folds.{concat-append}
use Rattle.text_lines.specs.Lines.{line_end_of}
use Rattle.text_lines.proofs.LineEnds.{text-then-end}
use Rattle.text_lines.specs.Blanks.{is_continuation}
use Rattle.head_fields.specs.Fields.{is_colon, name_of, begins_field, continuations, value_of, readings_of, fields_from, reading_in}
use Rattle.head_fields.proofs.FieldLines.{fields-of_other, fields-of_first}
use Rattle.head_fields.proofs.FieldPlaces.{colon-inside, name-front}

-- a part that stands behind some bytes
part-at : (text before part after : List ℕ) (from to : ℕ) → text ≡ before ++ (part ++ after) → length before ≡ from → to ≡ from + length part → slice_range text from to ≡ part
part-at text before part after from to whole starts ends =
    ap (λ t. slice_range t from to) whole
    ∙ ap (take (to - from)) (drop_at before (part ++ after) from starts)
    ∙ take_at part after (to - from) (omega arith)

module _ (text before after line : List ℕ) (rest : List (List ℕ)) (whole : text ≡ before ++ (concat (line ∷ rest) ++ after)) where
  name-at : slice_range text (length before) (length before + length (name_of line)) ≡ name_of line
  name-at =
      let front = name-front line in
      let name = name_of line in
      let parts : text ≡ before ++ (name ++ (front.0 ++ (concat rest ++ after))) =
      whole ∙ ap (λ l. before ++ ((l ++ concat rest) ++ after)) front.1 ∙ simp append_assoc in
      part-at text before name _ (length before) (length before + length name) parts refl refl

  value-at : begins_field line ≡ true → (from to : ℕ) → from ≡ length before + position_or_len is_colon line + 1 → to ≡ from + length (value_of line (continuations rest)) → slice_range text from to ≡ value_of line (continuations rest)
  value-at begins from to starts ends =
      let more = continuations rest in
      let left = drop (prefix_len is_continuation rest) rest in
      let colon = position_or_len is_colon line in
      let inside = colon-inside line begins in
      let front = take (colon + 1) line in
      let tail = drop (colon + 1) line in
      let value = value_of line more in
      let end = line_end_of (tail ++ concat more) in
      let line_is : line ≡ front ++ tail = sym (take-append-drop (colon + 1) line) in
      let rest_is : concat rest ≡ concat more ++ concat left =
      ap concat (sym (take-append-drop (prefix_len is_continuation rest) rest)) ∙ concat-append more left in
      let parts : text ≡ (before ++ front) ++ (value ++ (end ++ (concat left ++ after))) =
      whole
      ∙ ap (λ l. before ++ ((l ++ concat rest) ++ after)) line_is
      ∙ ap (λ r. before ++ (((front ++ tail) ++ r) ++ after)) rest_is
      ∙ regroup before front tail (concat more) (concat left) after
      ∙ ap (λ v. (before ++ front) ++ (v ++ (concat left ++ after))) (sym (text-then-end (tail ++ concat more)))
      ∙ ap (λ v. (before ++ front) ++ v) (append_assoc value end (concat left ++ after)) in
      let taken = length-take-le (colon + 1) line (omega arith) in
      let joined = length-append before front in
      part-at text (before ++ front) value _ from to parts (omega arith) ends
    where
      regroup : (before front tail more left after : List ℕ) → before ++ (((front ++ tail) ++ (more ++ left)) ++ after) ≡ (before ++ front) ++ ((tail ++ more) ++ (left ++ after))
      regroup before front tail more left after = simp append_assoc

  next-whole : text ≡ (before ++ line) ++ (concat rest ++ after)
  next-whole = whole ∙ simp append_assoc

readings-of_first : (line : List ℕ) (rest : List (List ℕ)) → begins_field line ≡ true → readings_of (line ∷ rest) ≡ (name_of line, value_of line (continuations rest)) ∷ readings_of rest
readings-of_first line rest is =
    cond-true (begins_field line) ((name_of line, value_of line (continuations rest)) ∷ readings_of rest) (readings_of rest) is

readings-of_other : (line : List ℕ) (rest : List (List ℕ)) → begins_field line ≡ false → readings_of (line ∷ rest) ≡ readings_of rest
readings-of_other line rest is =
    cond-false (begins_field line) ((name_of line, value_of line (continuations rest)) ∷ readings_of rest) (readings_of rest) is

-- the fields of some lines that stand in a text
pub readings-are : (text before after : List ℕ) (lines : List (List ℕ)) → text ≡ before ++ (concat lines ++ after) → map (reading_in text) (fields_from (length before) lines) ≡ readings_of lines
readings-are text before after [] whole = refl
readings-are text before after (line ∷ rest) whole =
    let offset = length before in
    let more = continuations rest in
    let start = offset + position_or_len is_colon line + 1 in
    let later : map (reading_in text) (fields_from (offset + length line) rest) ≡ readings_of rest =
    ap (λ o. map (reading_in text) (fields_from o rest)) (sym (length-append before line))
    ∙ readings-are text (before ++ line) after rest (next-whole text before after line rest whole) in
    ⊎_elim
    (λ is.
    let name = name-at text before after line rest whole in
    let value = value-at text before after line rest whole is start (start + length (value_of line more)) refl refl in
    ap (map (reading_in text)) (fields-of_first offset line rest is) ∙ (λ i. (name i, value i) ∷ later i) ∙ sym (readings-of_first line rest is))
    (λ is. ap (map (reading_in text)) (fields-of_other offset line rest is) ∙ later ∙ sym (readings-of_other line rest is))
    (cases_Bool (begins_field line))
