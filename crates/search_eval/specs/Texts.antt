-- The fields of a text's header.
use Rattle.std.specs.Prelude.{◌≡◌, ℕ, List, length, map, All}
use Rattle.text_lines.specs.Lines.{header_of}
use Rattle.head_fields.specs.Fields.{readings_of, reading_in, StandsWithin}
use Rattle.head_fields.specs.declared.field.Field.{Field}

-- the fields say what the text's header says, and stand within the text
pub record AreFieldsOf (text : List ℕ) (fields : List Field) : Type 0 where
  pub readings : map (reading_in text) fields ≡ readings_of (header_of text)
  pub within : All (StandsWithin (length text)) fields
