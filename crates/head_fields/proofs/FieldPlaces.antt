-- Where the parts of a field stand in its text.
use Rattle.std.proofs.Common.{◌≡◌, ◌∙◌, ◌+◌, ◌-◌, ◌<◌, ◌≤◌, ◌∷◌, ◌++◌, ⊎_elim, ℕ, suc, true, [], List, not, ◌==◌, length, take, drop, All, AllPairs, refl, ap, subst, sym, arith}
use Rattle.std.specs.List.{concat, after_first, position_or_len, prefix_len, suffix_len, list_any, list_all}
use Rattle.std.proofs.Math.Seq.{take-append-add}
use Rattle.std.proofs.lemmas.Bool.{cases_Bool, cases_lt, cond-true, cond-false, and_parts, eqb-false, not-true, false≢true}
use Rattle.std.proofs.lemmas.List.{append_assoc, take-append-drop, drop-drop, drop-append-le, length-append, length-drop, length-take}
use Rattle.std.proofs.lemmas.List.Elements.{All-nil, All-cons, All-weaker, All-same}
use Rattle.std.proofs.lemmas.List.Folds.{concat-append, Any-from_list_any}
use Rattle.std.proofs.lemmas.List.Kept.{AllPairs-cons}
use Rattle.std.proofs.lemmas.List.Sums.{fails_before_first}
use Rattle.text_lines.specs.Lines.{line_text, line_end_of}
use Rattle.text_lines.proofs.LineEnds.{text-then-end}
use Rattle.text_lines.specs.Blanks.{is_blank, is_continuation}
use Rattle.head_fields.specs.Fields.{is_colon, is_name_byte, is_name, name_of, begins_field, continuations, value_of, field_at, fields_from, StandsWithin}
use Rattle.head_fields.specs.declared.field.Field.{Field}
use Rattle.head_fields.proofs.FieldLines.{continuation-begins_none, fields-of_other, fields-of_first}

-- what stands behind a colon, up to the end of so many bytes behind the line
pub behind-colon : (text line more : List ℕ) (at colon count : ℕ) → colon < length line → line ≡ take (length line) (drop at text) → take count (drop (at + length line) text) ≡ more
    → take (at + length line + count - (at + colon + 1)) (drop (at + colon + 1) text) ≡ drop (colon + 1) line ++ more
behind-colon text line more at colon count inside front behind =
    let width = length line in
    let rest = drop (at + width) text in
    let tail = drop (colon + 1) line in
    let whole : drop at text ≡ line ++ rest =
    sym (take-append-drop width (drop at text)) ∙ ap (λ l. l ++ drop width (drop at text)) (sym front) ∙ ap (λ r. line ++ r) (drop-drop width at text) in
    let place : at + colon + 1 ≡ at + (colon + 1) = omega arith in
    let bytes : drop (at + colon + 1) text ≡ tail ++ rest =
    ap (λ n. drop n text) place ∙ sym (drop-drop (colon + 1) at text) ∙ ap (drop (colon + 1)) whole ∙ drop-append-le (colon + 1) line rest (omega arith) in
    let left = length-drop (colon + 1) line in
    let count_is : at + width + count - (at + colon + 1) ≡ length tail + count = omega arith in
    ap (λ n. take n (drop (at + colon + 1) text)) count_is
    ∙ ap (take (length tail + count)) bytes
    ∙ take-append-add tail rest count
    ∙ ap (λ m. tail ++ m) behind

-- a line that begins a field has a colon, and a name with a byte before it
pub colon-inside : (line : List ℕ) → begins_field line ≡ true → position_or_len is_colon line < length line
colon-inside line begins =
    let colon = Any-from_list_any is_colon line (and_parts (list_any is_colon line) (is_name (name_of line)) begins).0 in
    let place = position_or_len is_colon line in
    ⊎_elim
    (λ before. absurd (false≢true (sym (fails_before_first is_colon line colon.0 colon.1 before) ∙ ap is_colon colon.3 ∙ colon.4)))
    (λ at. omega (arith, colon.2))
    (cases_lt colon.0 place)

name-some : (line : List ℕ) → begins_field line ≡ true → 0 < length (name_of line)
name-some line begins =
    let name = name_of line in
    let is = (and_parts (list_any is_colon line) (is_name name) begins).1 in
    let some = eqb-false (length name) 0 (not-true (length name == 0) (and_parts (not (length name == 0)) (list_all is_name_byte name) is).0) in
    omega arith

-- the name of a line is so many of its bytes in front
pub name-front : (line : List ℕ) → (rest : List ℕ) × (line ≡ name_of line ++ rest)
name-front line =
    let colon = position_or_len is_colon line in
    let before = take colon line in
    let n = length before - suffix_len is_blank before in
    let after = drop colon line in
    (drop n before ++ after, sym (take-append-drop colon line) ∙ ap (λ b. b ++ after) (sym (take-append-drop n before)) ∙ append_assoc (take n before) (drop n before) after)

name-before_colon : (line : List ℕ) → length (name_of line) ≤ position_or_len is_colon line
name-before_colon line =
    let colon = position_or_len is_colon line in
    let before = take colon line in
    let n = length before - suffix_len is_blank before in
    omega (arith, length-take n before, length-take colon line)

-- the value and the line end behind it are all that stands behind the colon
value-within : (line : List ℕ) (more : List (List ℕ)) → begins_field line ≡ true → position_or_len is_colon line + 1 + length (value_of line more) ≤ length line + length (concat more)
value-within line more begins =
    let behind = after_first is_colon line ++ concat more in
    let inside = colon-inside line begins in
    let parts = ap length (text-then-end behind) in
    let both = length-append (line_text behind) (line_end_of behind) in
    let all = length-append (after_first is_colon line) (concat more) in
    let left = length-drop (position_or_len is_colon line + 1) line in
    omega arith

-- the lines that continue a field begin none
fields-skip : (offset : ℕ) (lines : List (List ℕ)) → fields_from offset lines ≡ fields_from (offset + length (concat (continuations lines))) (drop (prefix_len is_continuation lines) lines)
fields-skip offset [] = refl
fields-skip offset (line ∷ rest) =
    let n = prefix_len is_continuation rest in
    let skips : ℕ → Type 0 = λ k. fields_from offset (line ∷ rest) ≡ fields_from (offset + length (concat (take k (line ∷ rest)))) (drop k (line ∷ rest)) in
    ⊎_elim
    (λ is.
    let counted : suc n ≡ prefix_len is_continuation (line ∷ rest) = sym (cond-true (is_continuation line) (1 + n) 0 is ∙ by_one n) in
    let joined = length-append line (concat (take n rest)) in
    let place : offset + length line + length (concat (take n rest)) ≡ offset + length (line ++ concat (take n rest)) = omega arith in
    subst skips counted (fields-of_other offset line rest (continuation-begins_none line is) ∙ fields-skip (offset + length line) rest ∙ ap (λ o. fields_from o (drop n rest)) place))
    (λ is. subst skips (sym (cond-false (is_continuation line) (1 + n) 0 is)) (ap (λ o. fields_from o (line ∷ rest)) (at_place offset)))
    (cases_Bool (is_continuation line))
  where
    by_one : (n : ℕ) → 1 + n ≡ suc n
    by_one n = omega arith

    at_place : (offset : ℕ) → offset ≡ offset + 0
    at_place offset = omega arith

-- no field stands before the first line
fields-behind : (offset : ℕ) (lines : List (List ℕ)) → All (λ (field : Field). offset ≤ field.name.from) (fields_from offset lines)
fields-behind offset [] = All-nil (λ (field : Field). offset ≤ field.name.from)
fields-behind offset (line ∷ rest) =
    let Behind : ℕ → Field → Type 0 = λ o field. o ≤ field.name.from in
    let later = All-weaker (Behind (offset + length line)) (Behind offset) (λ field behind. omega arith) (fields_from (offset + length line) rest) (fields-behind (offset + length line) rest) in
    ⊎_elim
    (λ is. All-same (Behind offset) _ _ (fields-of_first offset line rest is) (All-cons (Behind offset) _ _ (omega arith) later))
    (λ is. All-same (Behind offset) _ _ (fields-of_other offset line rest is) later)
    (cases_Bool (begins_field line))

stands-within : (size offset : ℕ) (line : List ℕ) (rest : List (List ℕ)) → begins_field line ≡ true → offset + length (concat (line ∷ rest)) ≤ size → StandsWithin size (field_at offset line (continuations rest))
stands-within size offset line rest begins fits =
    let more = continuations rest in
    let left = drop (prefix_len is_continuation rest) rest in
    let some = name-some line begins in
    let before = name-before_colon line in
    let value = value-within line more begins in
    let joined = length-append line (concat rest) in
    let parts = ap (λ lines. length (concat lines)) (take-append-drop (prefix_len is_continuation rest) rest) in
    let both = ap length (concat-append more left) in
    let sizes = length-append (concat more) (concat left) in
    record { name = omega arith; colon = omega arith; value = omega arith; within = omega arith }

-- the fields stand within the lines
pub fields-within : (size offset : ℕ) (lines : List (List ℕ)) → offset + length (concat lines) ≤ size → All (StandsWithin size) (fields_from offset lines)
fields-within size offset [] fits = All-nil (StandsWithin size)
fields-within size offset (line ∷ rest) fits =
    let joined = length-append line (concat rest) in
    let later = fields-within size (offset + length line) rest (omega arith) in
    ⊎_elim
    (λ is. All-same (StandsWithin size) _ _ (fields-of_first offset line rest is) (All-cons (StandsWithin size) _ _ (stands-within size offset line rest is fits) later))
    (λ is. All-same (StandsWithin size) _ _ (fields-of_other offset line rest is) later)
    (cases_Bool (begins_field line))

-- the next fields stand behind a field
fields-apart : (offset : ℕ) (line : List ℕ) (rest : List (List ℕ)) → begins_field line ≡ true
    → All (λ (later : Field). (field_at offset line (continuations rest)).value.to ≤ later.name.from) (fields_from (offset + length line) rest)
fields-apart offset line rest begins =
    let more = continuations rest in
    let value = value-within line more begins in
    let end = offset + length line + length (concat more) in
    let left = drop (prefix_len is_continuation rest) rest in
    let Behind : ℕ → Field → Type 0 = λ o field. o ≤ field.name.from in
    let to = (field_at offset line more).value.to in
    All-same (Behind to) (fields_from (offset + length line) rest) (fields_from end left) (fields-skip (offset + length line) rest)
    (All-weaker (Behind end) (Behind to) (λ field behind. omega arith) (fields_from end left) (fields-behind end left))

pub fields-in_order : (offset : ℕ) (lines : List (List ℕ)) → AllPairs (λ (a b : Field). a.value.to ≤ b.name.from) (fields_from offset lines)
fields-in_order offset [] = λ i j d below inside. absurd (omega arith)
fields-in_order offset (line ∷ rest) =
    let InOrder : Field → Field → Type 0 = λ a b. a.value.to ≤ b.name.from in
    let later = fields-in_order (offset + length line) rest in
    let all : List Field → Type 0 = λ fields. AllPairs InOrder fields in
    ⊎_elim
    (λ is. subst all (sym (fields-of_first offset line rest is)) (AllPairs-cons InOrder (field_at offset line (continuations rest)) (fields_from (offset + length line) rest) (fields-apart offset line rest is) later))
    (λ is. subst all (sym (fields-of_other offset line rest is)) later)
    (cases_Bool (begins_field line))
