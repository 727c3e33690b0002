-- Unfolding of a field's value (RFC 5322, section 2.2.3).
use Rattle.std.specs.Prelude.{ℕ, List}
use Rattle.std.specs.List.{flat_map}
use Rattle.text_lines.specs.Lines.{lines_of, line_text}
use Rattle.head_fields.specs.Blanks.{trim_start, trim_end}

-- the texts of the lines in a row, without the blanks at both ends
abbrev pub unfolded : List ℕ → List ℕ
unfolded bytes = trim_end (trim_start (flat_map line_text (lines_of bytes)))
