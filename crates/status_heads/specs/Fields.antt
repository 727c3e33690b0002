-- The fields of a header that are looked up by their names (RFC 5322, section 2.2).
use Rattle.std.specs.Prelude.{ℕ, List, [], ◌∷◌, if◌then◌else◌}
use Rattle.std.specs.Str.{str_eq_ignore_ascii_case}
use Rattle.text_lines.specs.Lines.{header_of}
use Rattle.head_fields.specs.Fields.{readings_of}
use Rattle.head_fields.specs.Folding.{unfolded}

-- the value of the first field of that name, in any case, on one line; nothing where no field has it
abbrev pub value_named : List ℕ → List (List ℕ × List ℕ) → List ℕ
value_named name [] = []
value_named name (field ∷ fields) = if str_eq_ignore_ascii_case field.0 name then unfolded field.1 else value_named name fields

-- name and value of each field of a text
abbrev pub fields_in : List ℕ → List (List ℕ × List ℕ)
fields_in text = readings_of (header_of text)
