-- The lines of status fields, and what is read of them.
use Rattle.std.proofs.Common.{◌≡◌, ℕ, Bool, true, false, not, cond, List, [], ◌∷◌, ◌++◌, ◌==◌, ◌&&◌, length, append_assoc, append-nil, codes, refl, ap, ◌∙◌}
use Rattle.std.specs.List.{concat, after_first, list_all}
use Rattle.std.specs.Str.{str_eq_ignore_ascii_case}
use Rattle.std.proofs.lemmas.Bool.{and_parts, cond-true, cond-false, not-true}
use Rattle.std.proofs.lemmas.List.Sums.{take_while-cons}
use Rattle.std.proofs.Math.Dec.{eqb-suc-zero}
use Rattle.text_lines.specs.Lines.{line_text, is_line_end, is_empty_line}
use Rattle.text_lines.proofs.Texts.{is_closed}
use Rattle.text_lines.specs.Blanks.{is_continuation}
use Rattle.text_forms.specs.Lines.{is_reserved}
use Rattle.text_forms.proofs.LineEnds.{no-end-behind, closed-before}
use Rattle.head_fields.specs.Fields.{is_colon, name_of, begins_field, continuations, value_of, readings_of}
use Rattle.head_fields.specs.Folding.{unfolded}
use Rattle.status_heads.specs.Fields.{value_named}
use Rattle.status_heads.specs.HeadTexts.{field_line, lines_of_field}
use Rattle.status_heads.proofs.Insertions.{IsMade, Each}

-- no byte of a line end
abbrev pub is_clean : List ℕ → Bool
is_clean value = list_all (λ byte. not (byte == 10) && not (byte == 13)) value

module _ (byte : ℕ) (rest : List ℕ) (clean : is_clean (byte ∷ rest) ≡ true) where
  pub first-clean : ((byte == 10) ≡ false) × ((byte == 13) ≡ false)
  first-clean =
      let both = and_parts (not (byte == 10)) (not (byte == 13)) (and_parts (not (byte == 10) && not (byte == 13)) (is_clean rest) clean).0 in
      (not-true (byte == 10) both.0, not-true (byte == 13) both.1)

  pub rest-clean : is_clean rest ≡ true
  rest-clean = (and_parts (not (byte == 10) && not (byte == 13)) (is_clean rest) clean).1

pub text-of : (value : List ℕ) → is_clean value ≡ true → line_text (value ++ 10 ∷ []) ≡ value
text-of [] clean = refl
text-of (byte ∷ rest) clean =
    let first = first-clean byte rest clean in
    cond-false (is_line_end (byte ∷ (rest ++ 10 ∷ []))) [] (byte ∷ line_text (rest ++ 10 ∷ [])) (no-end-behind byte (rest ++ 10 ∷ []) first.0 first.1)
    ∙ ap (λ tail. byte ∷ tail) (text-of rest (rest-clean byte rest clean))

pub closed-of : (value : List ℕ) → is_clean value ≡ true → is_closed (value ++ 10 ∷ []) ≡ true
closed-of [] clean = refl
closed-of (byte ∷ rest) clean = closed-before byte (rest ++ 10 ∷ []) (first-clean byte rest clean).0 (closed-of rest (rest-clean byte rest clean))

-- the name of a reserved field, whatever stands behind its colon
pub record IsReservedName (name : List ℕ) : Type 0 where
  pub begins : (tail : List ℕ) → begins_field (name ++ 58 ∷ tail) ≡ true
  pub named : (tail : List ℕ) → name_of (name ++ 58 ∷ tail) ≡ name
  pub behind : (tail : List ℕ) → after_first is_colon (name ++ 58 ∷ tail) ≡ tail
  pub reserved : (tail : List ℕ) → is_reserved (name ++ 58 ∷ tail) ≡ true
  pub first : (tail : List ℕ) → is_continuation (name ++ 58 ∷ tail) ≡ false
  pub filled : (tail : List ℕ) → is_empty_line (name ++ 58 ∷ tail) ≡ false
  pub closed : (tail : List ℕ) → is_closed tail ≡ true → is_closed (name ++ 58 ∷ tail) ≡ true

pub status-name : IsReservedName (codes "Status")
status-name = record { begins = λ tail. refl; named = λ tail. refl; behind = λ tail. refl; reserved = λ tail. refl; first = λ tail. refl; filled = λ tail. refl; closed = λ tail is. is }

pub more-name : IsReservedName (codes "X-Status")
more-name = record { begins = λ tail. refl; named = λ tail. refl; behind = λ tail. refl; reserved = λ tail. refl; first = λ tail. refl; filled = λ tail. refl; closed = λ tail is. is }

pub words-name : IsReservedName (codes "X-Keywords")
words-name = record { begins = λ tail. refl; named = λ tail. refl; behind = λ tail. refl; reserved = λ tail. refl; first = λ tail. refl; filled = λ tail. refl; closed = λ tail is. is }

pub uid-name : IsReservedName (codes "X-UID")
uid-name = record { begins = λ tail. refl; named = λ tail. refl; behind = λ tail. refl; reserved = λ tail. refl; first = λ tail. refl; filled = λ tail. refl; closed = λ tail is. is }

grouped : (name value : List ℕ) → name ++ 58 ∷ 32 ∷ [] ++ value ++ 10 ∷ [] ≡ name ++ 58 ∷ (32 ∷ (value ++ 10 ∷ []))
grouped name value = simp append_assoc

module _ (name value : List ℕ) (is : IsReservedName name) (clean : is_clean value ≡ true) where
  abbrev pub tail : List ℕ
  tail = 32 ∷ (value ++ 10 ∷ [])

  line-is : field_line name value ≡ name ++ 58 ∷ tail
  unfolding field_line
  line-is = grouped name value

  tail-closed : is_closed tail ≡ true
  tail-closed = closed-of (32 ∷ value) clean

  pub made-line : IsMade (field_line name value)
  made-line = record {
    is = record { closed = ap is_closed line-is ∙ is.closed tail tail-closed; filled = ap is_empty_line line-is ∙ is.filled tail };
    reserved = ap is_reserved line-is ∙ is.reserved tail;
    first = ap is_continuation line-is ∙ is.first tail;
  }

  pub made-lines : (rest : List (List ℕ)) → Each IsMade rest → Each IsMade (lines_of_field name value ++ rest)
  made-lines rest each =
      elim (length value == 0) as (λ test. Each IsMade (cond test [] (field_line name value ∷ []) ++ rest)) [ true ↦ each | false ↦ (made-line, each) ]

  none-continues : (rest : List (List ℕ)) → Each IsMade rest → continuations rest ≡ []
  none-continues [] each = refl
  none-continues (line ∷ rest) each = take_while-cons is_continuation line rest ∙ cond-false (is_continuation line) (line ∷ continuations rest) [] each.0.first

  value-is : (rest : List (List ℕ)) → Each IsMade rest → value_of (name ++ 58 ∷ tail) (continuations rest) ≡ 32 ∷ value
  value-is rest each =
      ap (λ more. line_text (after_first is_colon (name ++ 58 ∷ tail) ++ concat more)) (none-continues rest each)
      ∙ ap line_text (append-nil (after_first is_colon (name ++ 58 ∷ tail)) ∙ is.behind tail)
      ∙ text-of (32 ∷ value) clean

  pub line-reads : (rest : List (List ℕ)) → Each IsMade rest → readings_of (field_line name value ∷ rest) ≡ (name, 32 ∷ value) ∷ readings_of rest
  line-reads rest each =
      let line = name ++ 58 ∷ tail in
      let later = readings_of rest in
      ap (λ l. readings_of (l ∷ rest)) line-is
      ∙ cond-true (begins_field line) ((name_of line, value_of line (continuations rest)) ∷ later) later (is.begins tail)
      ∙ ap (λ n. (n, value_of line (continuations rest)) ∷ later) (is.named tail)
      ∙ ap (λ v. (name, v) ∷ later) (value-is rest each)

  pub lines-read : (rest : List (List ℕ)) → Each IsMade rest
      → readings_of (lines_of_field name value ++ rest) ≡ cond (length value == 0) [] ((name, 32 ∷ value) ∷ []) ++ readings_of rest
  lines-read rest each =
      elim (length value == 0) as (λ test. readings_of (cond test [] (field_line name value ∷ []) ++ rest) ≡ cond test [] ((name, 32 ∷ value) ∷ []) ++ readings_of rest) [
        | true ↦ refl
        | false ↦ line-reads rest each
      ]

-- a field of another name is passed
pub value-passed : (name other value : List ℕ) (rest : List (List ℕ × List ℕ)) (test : Bool) → str_eq_ignore_ascii_case other name ≡ false
    → value_named name (cond test [] ((other, value) ∷ []) ++ rest) ≡ value_named name rest
value-passed name other value rest true differs = refl
value-passed name other value rest false differs = cond-false (str_eq_ignore_ascii_case other name) (unfolded value) (value_named name rest) differs

-- and one of the name is found
pub value-found : (name value : List ℕ) (rest : List (List ℕ × List ℕ)) → str_eq_ignore_ascii_case name name ≡ true → unfolded (32 ∷ value) ≡ value → value_named name rest ≡ []
    → value_named name (cond (length value == 0) [] ((name, 32 ∷ value) ∷ []) ++ rest) ≡ value
value-found name [] rest same reads none = none
value-found name (byte ∷ value) rest same reads none =
    ap (λ test. value_named name (cond test [] ((name, 32 ∷ (byte ∷ value)) ∷ []) ++ rest)) (eqb-suc-zero (length value))
    ∙ cond-true (str_eq_ignore_ascii_case name name) (unfolded (32 ∷ (byte ∷ value))) (value_named name rest) same ∙ reads
