-- The lines of the fields of a header, as they stand (RFC 5322, section 2.2).
use Rattle.std.specs.Prelude.{ℕ, Bool, List, [], ◌∷◌, ◌+◌, ◌&&◌, if◌then◌else◌, length, drop, map, slice_range}
use Rattle.std.specs.List.{concat, filter}
use Rattle.text_lines.specs.Lines.{lines_of}
use Rattle.head_fields.specs.Fields.{begins_field, name_of, continuations, span_at}
use Rattle.head_fields.specs.declared.field.Field.{Field}
use Rattle.head_fields.specs.declared.span.Span.{Span}

-- where those fields of some header lines stand whose names pass a test, each with its first line and those that continue it; the first header line stands at an offset
abbrev pub field_spans : (List ℕ → Bool) → ℕ → List (List ℕ) → List Span
field_spans chosen at [] = []
field_spans chosen at (line ∷ rest) =
    let later = field_spans chosen (at + length line) rest in
    if begins_field line && chosen (name_of line) then span_at at (length (concat (line ∷ continuations rest))) ∷ later else later

-- ---- The same by where names and values stand

-- the first of some lines
abbrev pub first_line : List (List ℕ) → List ℕ
first_line [] = []
first_line (line ∷ more) = line

-- where the last line of a field ends: what stands behind its value is the rest of that line
abbrev pub field_end : List ℕ → Field → ℕ
field_end header field = field.value.to + length (first_line (lines_of (drop field.value.to header)))

-- where the lines of a field stand, in the text where the header begins at an offset
abbrev pub lines_span : ℕ → List ℕ → Field → Span
lines_span at header field = record { from = at + field.name.from; to = at + field_end header field }

-- a field's name passes a test
abbrev pub passes : (List ℕ → Bool) → List ℕ → Field → Bool
passes chosen header field = chosen (slice_range header field.name.from field.name.to)

-- where the lines of those fields stand whose names pass a test
abbrev pub chosen_lines : (List ℕ → Bool) → ℕ → List ℕ → List Field → List Span
chosen_lines chosen at header fields = map (lines_span at header) (filter (passes chosen header) fields)
