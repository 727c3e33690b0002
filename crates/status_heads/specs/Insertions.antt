-- Fields that stand behind the header of a text.
use Rattle.std.specs.Prelude.{ℕ, List, ◌++◌, length, drop}
use Rattle.std.specs.List.{concat}
use Rattle.text_lines.specs.Lines.{header_of}

-- the text with fields before its first empty line
unfoldable pub with_fields : List ℕ → List ℕ → List ℕ
with_fields fields text = concat (header_of text) ++ (fields ++ drop (length (concat (header_of text))) text)
