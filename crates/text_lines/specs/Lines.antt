-- The lines of a text, and what ends them (RFC 5322, section 2.1; a line feed alone ends a line too).
use Rattle.std.specs.Prelude.{ℕ, Bool, true, false, List, [], ◌∷◌, ◌==◌, ◌&&◌, if◌then◌else◌}
use Rattle.std.specs.List.{before_first}
-- the lines of a text, each up to and with its line feed; the last may have none
pub use Rattle.bstr.specs.Text.{lines_of}
unfoldable pub use Rattle.bstr.specs.Text.{line_len, lines_from}

-- bytes without LF
abbrev pub is_open : List ℕ → Bool
is_open [] = true
is_open (byte ∷ rest) = if byte == 10 then false else is_open rest

-- a run of CR bytes, perhaps none, then one LF, and nothing else
abbrev pub is_line_end : List ℕ → Bool
is_line_end [] = false
is_line_end (byte ∷ []) = byte == 10
is_line_end (byte ∷ next ∷ rest) = (byte == 13) && is_line_end (next ∷ rest)

-- the longest tail of a line that is a line end, if there is one
abbrev pub line_end_of : List ℕ → List ℕ
line_end_of [] = []
line_end_of (byte ∷ rest) = if is_line_end (byte ∷ rest) then byte ∷ rest else line_end_of rest

-- what stands before the line end
abbrev pub line_text : List ℕ → List ℕ
line_text [] = []
line_text (byte ∷ rest) = if is_line_end (byte ∷ rest) then [] else byte ∷ line_text rest

-- an empty line: nothing stands before its line end, and it has one
abbrev pub is_empty_line : List ℕ → Bool
is_empty_line line = is_line_end line

-- the header of a text: its lines before the first empty line, or all (RFC 5322, section 2.1)
abbrev pub header_of : List ℕ → List (List ℕ)
header_of text = before_first is_empty_line (lines_of text)
