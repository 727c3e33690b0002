-- The lines of the metadata: each ends with CRLF (a CR or an LF alone is a byte of its line).
use Rattle.std.specs.Prelude.{ℕ, suc, List, [], ◌∷◌, ◌==◌, ◌&&◌, if◌then◌else◌}
use Rattle.std.specs.List.{onto_first}

-- the lines of a text, each up to and with its CRLF; the last may have none
abbrev pub crlf_lines : List ℕ → List (List ℕ)
crlf_lines [] = []
crlf_lines (byte ∷ []) = (byte ∷ []) ∷ []
crlf_lines (byte ∷ next ∷ rest) =
    if (byte == 13) && (next == 10) then (byte ∷ next ∷ []) ∷ crlf_lines rest else onto_first byte (crlf_lines (next ∷ rest))

-- how long the first of them is
abbrev pub first_line_len : List ℕ → ℕ
first_line_len [] = 0
first_line_len (byte ∷ []) = 1
first_line_len (byte ∷ next ∷ rest) = if (byte == 13) && (next == 10) then 2 else suc (first_line_len (next ∷ rest))
