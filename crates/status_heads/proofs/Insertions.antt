-- Lines of fields before the first empty line of a text.
use Rattle.std.proofs.Common.{◌≡◌, ℕ, ⊎_elim, inl, Bool, true, false, cond, List, [], ◌∷◌, ◌++◌, ◌||◌, length, drop, append-nil, refl, ap, sym, ◌∙◌}
use Rattle.std.specs.List.{before_first, concat, list_any}
use Rattle.std.proofs.lemmas.Bool.{cases_Bool, cond-true, cond-false, false≢true}
use Rattle.std.proofs.lemmas.List.{drop_at}
use Rattle.std.proofs.lemmas.List.Folds.{concat-append}
use Rattle.text_lines.specs.Lines.{lines_of, header_of, is_empty_line}
use Rattle.text_lines.proofs.Lines.{before-step}
use Rattle.text_lines.proofs.Texts.{is_closed, joined, AreLines, are-lines, lines-joined}
use Rattle.text_lines.specs.Blanks.{is_continuation}
use Rattle.text_forms.specs.Lines.{is_dropped, is_reserved}
use Rattle.text_forms.specs.Forms.{drop_reserved, has_empty_line, unreserved_lines, has_reserved}
use Rattle.text_forms.proofs.ReservedFields.{or_parts, all-gone, unreserved-lines}
use Rattle.status_heads.specs.Insertions.{with_fields}

-- a line with LF at its end and something before its line end
pub record IsFilled (line : List ℕ) : Type 0 where
  pub closed : is_closed line ≡ true
  pub filled : is_empty_line line ≡ false

-- a line of a header without reserved fields
pub record IsFree (line : List ℕ) : Type 0 where
  pub is : IsFilled line
  pub free : is_reserved line ≡ false

-- the line of a reserved field
pub record IsMade (line : List ℕ) : Type 0 where
  pub is : IsFilled line
  pub reserved : is_reserved line ≡ true
  pub first : is_continuation line ≡ false

abbrev pub Each : (List ℕ → Type 0) → List (List ℕ) → Type 0
Each P [] = Unit {0}
Each P (line ∷ lines) = P line × Each P lines

-- lines up to the first empty one, that one, and what stands behind it
pub record IsSplit (lines front : List (List ℕ)) (line : List ℕ) (rest : List (List ℕ)) : Type 0 where
  pub whole : lines ≡ front ++ (line ∷ rest)
  pub free : Each IsFree front
  pub empty : is_empty_line line ≡ true
  pub are : AreLines (line ∷ rest)

pub split : (lines : List (List ℕ)) → AreLines lines → list_any is_empty_line lines ≡ true → has_reserved lines ≡ false
    → (front : List (List ℕ)) × (line : List ℕ) × (rest : List (List ℕ)) × IsSplit lines front line rest
split [] are has none = absurd (false≢true has)
split (line ∷ lines) are has none = ⊎_elim
    (λ empty. ([], line, lines, record { whole = refl; free = tt; empty = empty; are = are }))
    (λ filled.
    let later : list_any is_empty_line lines ≡ true = sym (ap (λ test. test || list_any is_empty_line lines) filled) ∙ has in
    let left : (is_reserved line || has_reserved lines) ≡ false = sym (cond-false (is_empty_line line) false (is_reserved line || has_reserved lines) filled) ∙ none in
    let parts = or_parts (is_reserved line) (has_reserved lines) left in
    let more : (is_closed line ≡ true) × AreLines lines = ⊎_elim
    (λ whole. whole)
    (λ last. absurd (false≢true (sym (ap (list_any is_empty_line) last.2) ∙ later)))
    are in
    let behind = split lines more.1 later parts.1 in (
      line ∷ behind.0,
      behind.1,
      behind.2,
      record {
        whole = ap (λ l. line ∷ l) behind.3.whole;
        free = (record { is = record { closed = more.0; filled = filled }; free = parts.0 }, behind.3.free);
        empty = behind.3.empty;
        are = behind.3.are;
      },
    ))
    (cases_Bool (is_empty_line line))

-- a text that loses nothing has no reserved field
pub none-reserved : (text : List ℕ) → drop_reserved text ≡ text → has_reserved (lines_of text) ≡ false
none-reserved text same =
    let left = unreserved_lines false (lines_of text) in
    let lines : lines_of text ≡ left = ap lines_of (sym same) ∙ lines-joined left (unreserved-lines false (lines_of text) (are-lines text)) in
    ap has_reserved lines ∙ all-gone false (lines_of text)

each-free : (lines : List (List ℕ)) → Each IsFree lines → Each IsFilled lines
each-free [] each = tt
each-free (line ∷ lines) each = (each.0.is, each-free lines each.1)

each-made : (lines : List (List ℕ)) → Each IsMade lines → Each IsFilled lines
each-made [] each = tt
each-made (line ∷ lines) each = (each.0.is, each-made lines each.1)

pub lines-before : (front more : List (List ℕ)) → Each IsFilled front → AreLines more → AreLines (front ++ more)
lines-before [] more each are = are
lines-before (line ∷ front) more each are = inl (each.0.closed, lines-before front more each.1 are)

pub header-before : (front more : List (List ℕ)) → Each IsFilled front → before_first is_empty_line (front ++ more) ≡ front ++ before_first is_empty_line more
header-before [] more each = refl
header-before (line ∷ front) more each =
    before-step is_empty_line line (front ++ more)
    ∙ cond-false (is_empty_line line) [] (line ∷ before_first is_empty_line (front ++ more)) each.0.filled
    ∙ ap (λ l. line ∷ l) (header-before front more each.1)

pub header-end : (line : List ℕ) (rest : List (List ℕ)) → is_empty_line line ≡ true → before_first is_empty_line (line ∷ rest) ≡ []
header-end line rest empty = before-step is_empty_line line rest ∙ cond-true (is_empty_line line) [] (line ∷ before_first is_empty_line rest) empty

free-stays : (front more : List (List ℕ)) → Each IsFree front → unreserved_lines false (front ++ more) ≡ front ++ unreserved_lines false more
free-stays [] more each = refl
free-stays (line ∷ front) more each =
    let stays : is_dropped false line ≡ false = elim (is_continuation line) as (λ is. cond is false (is_reserved line) ≡ false) [ true ↦ refl | false ↦ each.0.free ] in
    cond-false (is_empty_line line) (line ∷ (front ++ more)) _ each.0.is.filled
    ∙ cond-false (is_dropped false line) (unreserved_lines true (front ++ more)) (line ∷ unreserved_lines false (front ++ more)) stays
    ∙ ap (λ l. line ∷ l) (free-stays front more each.1)

made-goes : (above : Bool) (made : List (List ℕ)) (line : List ℕ) (rest : List (List ℕ)) → Each IsMade made → is_empty_line line ≡ true → unreserved_lines above (made ++ (line ∷ rest)) ≡ line ∷ rest
made-goes above [] line rest each empty = cond-true (is_empty_line line) (line ∷ rest) _ empty
made-goes above (first ∷ made) line rest each empty =
    let more = made ++ (line ∷ rest) in
    let goes : is_dropped above first ≡ true = cond-false (is_continuation first) above (is_reserved first) each.0.first ∙ each.0.reserved in
    cond-false (is_empty_line first) (first ∷ more) _ each.0.is.filled
    ∙ cond-true (is_dropped above first) (unreserved_lines true more) (first ∷ unreserved_lines false more) goes
    ∙ made-goes true made line rest each.1 empty

module _ (text : List ℕ) (made : List (List ℕ)) (each : Each IsMade made) (has : has_empty_line text ≡ true) (none : has_reserved (lines_of text) ≡ false) where
  abbrev pub parts : (front : List (List ℕ)) × (line : List ℕ) × (rest : List (List ℕ)) × IsSplit (lines_of text) front line rest
  parts = split (lines_of text) (are-lines text) has none

  abbrev pub front : List (List ℕ)
  front = parts.0

  abbrev pub behind : List (List ℕ)
  behind = parts.1 ∷ parts.2

  whole : text ≡ concat front ++ concat behind
  whole = sym (joined text) ∙ ap concat parts.3.whole ∙ concat-append front behind

  pub header-is : header_of text ≡ front
  header-is =
      ap (before_first is_empty_line) parts.3.whole ∙ header-before front behind (each-free front parts.3.free)
      ∙ ap (λ l. front ++ l) (header-end parts.1 parts.2 parts.3.empty) ∙ append-nil front

  pub with-is : with_fields (concat made) text ≡ concat (front ++ (made ++ behind))
  unfolding with_fields
  with-is =
      ap (λ header. concat header ++ (concat made ++ drop (length (concat header)) text)) header-is
      ∙ ap (λ t. concat front ++ (concat made ++ drop (length (concat front)) t)) whole
      ∙ ap (λ t. concat front ++ (concat made ++ t)) (drop_at (concat front) (concat behind) (length (concat front)) refl)
      ∙ ap (λ t. concat front ++ t) (sym (concat-append made behind))
      ∙ sym (concat-append front (made ++ behind))

  -- its lines
  pub lines-are : lines_of (with_fields (concat made) text) ≡ front ++ (made ++ behind)
  lines-are =
      ap lines_of with-is
      ∙ lines-joined (front ++ (made ++ behind))
      (lines-before front (made ++ behind) (each-free front parts.3.free) (lines-before made behind (each-made made each) parts.3.are))

  -- the header goes on with the fields
  pub header-with : header_of (with_fields (concat made) text) ≡ front ++ made
  header-with =
      ap (before_first is_empty_line) lines-are ∙ header-before front (made ++ behind) (each-free front parts.3.free)
      ∙ ap (λ l. front ++ l) (header-before made behind (each-made made each) ∙ ap (λ l. made ++ l) (header-end parts.1 parts.2 parts.3.empty) ∙ append-nil made)

  pub front-free : Each IsFree front
  front-free = parts.3.free

  -- the fields go again, and nothing else
  pub dropped-again : drop_reserved (with_fields (concat made) text) ≡ text
  dropped-again =
      ap (λ lines. concat (unreserved_lines false lines)) lines-are
      ∙ ap concat (free-stays front (made ++ behind) parts.3.free ∙ ap (λ l. front ++ l) (made-goes false made parts.1 parts.2 each parts.3.empty))
      ∙ ap concat (sym parts.3.whole) ∙ joined text
