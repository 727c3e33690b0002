-- The fields of a header: their names and values, and where these stand (RFC 5322, section 2.2).
use Rattle.std.specs.Prelude.{ℕ, Bool, not, List, [], ◌∷◌, ◌++◌, ◌+◌, ◌==◌, ◌<◌, ◌≤◌, ◌&&◌, if◌then◌else◌, nat_le, length, slice_range}
use Rattle.std.specs.List.{before_first, after_first, position_or_len, take_while, list_any, list_all, concat}
use Rattle.text_lines.specs.Blanks.{is_continuation}
use Rattle.text_lines.specs.Lines.{header_of, line_text}
use Rattle.head_fields.specs.Blanks.{trim_end}
use Rattle.head_fields.specs.declared.span.Span.{Span}
use Rattle.head_fields.specs.declared.field.Field.{Field}

-- what stands between a name and a value
abbrev pub is_colon : ℕ → Bool
is_colon byte = byte == 58

-- a printable byte that is no space, 21 to 7E hex
abbrev pub is_name_byte : ℕ → Bool
is_name_byte byte = nat_le 33 byte && nat_le byte 126

-- a name: one or more such bytes
abbrev pub is_name : List ℕ → Bool
is_name name = not (length name == 0) && list_all is_name_byte name

-- what stands before the first colon of a line, without the blanks that it ends in
abbrev pub name_of : List ℕ → List ℕ
name_of line = trim_end (before_first is_colon line)

-- a line that begins a field has a name before its first colon, so it begins with no blank
abbrev pub begins_field : List ℕ → Bool
begins_field line = list_any is_colon line && is_name (name_of line)

-- the lines in front that continue a field
abbrev pub continuations : List (List ℕ) → List (List ℕ)
continuations lines = take_while is_continuation lines

-- what stands behind the colon of a field's first line and in the lines that continue it, without the last line end
abbrev pub value_of : List ℕ → List (List ℕ) → List ℕ
value_of line more = line_text (after_first is_colon line ++ concat more)

-- name and value of each field of some header lines; what is neither a field's first line nor continues one is passed over
abbrev pub readings_of : List (List ℕ) → List (List ℕ × List ℕ)
readings_of [] = []
readings_of (line ∷ rest) =
    let later = readings_of rest in
    if begins_field line then (name_of line, value_of line (continuations rest)) ∷ later else later

-- so many bytes from an offset on
abbrev pub span_at : ℕ → ℕ → Span
span_at from width = record { from = from; to = from + width }

-- the field whose first line stands at an offset: its name stands there, its value behind its colon
abbrev pub field_at : ℕ → List ℕ → List (List ℕ) → Field
field_at offset line more =
    record {
      name = span_at offset (length (name_of line));
      value = span_at (offset + position_or_len is_colon line + 1) (length (value_of line more));
    }

-- the fields of some header lines, the first of which stands at an offset
abbrev pub fields_from : ℕ → List (List ℕ) → List Field
fields_from offset [] = []
fields_from offset (line ∷ rest) =
    let later = fields_from (offset + length line) rest in
    if begins_field line then field_at offset line (continuations rest) ∷ later else later

-- the fields of a text, in their order
abbrev pub fields_of : List ℕ → List Field
fields_of text = fields_from 0 (header_of text)

-- name and value as they stand in the text
abbrev pub reading_in : List ℕ → Field → List ℕ × List ℕ
reading_in text field =
    (slice_range text field.name.from field.name.to, slice_range text field.value.from field.value.to)

-- a field stands within so many bytes: its name, which has a byte, the colon, and its value
pub record StandsWithin (size : ℕ) (field : Field) : Type 0 where
  pub name : field.name.from < field.name.to
  pub colon : field.name.to < field.value.from
  pub value : field.value.from ≤ field.value.to
  pub within : field.value.to ≤ size
