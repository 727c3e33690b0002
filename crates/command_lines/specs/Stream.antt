-- The units of a whole stream of bytes, and what is left behind the last of them.
use Rattle.std.specs.Prelude.{ℕ, ◌+◌, Bool, List, [], ◌∷◌, ◌==◌, ◌&&◌, true, false, take, drop, map, length}
use Rattle.std.specs.List.{sum_by}

-- a CR and its LF, which together end a line (RFC 3501, section 2.2); each alone is a byte of the line
abbrev pub is_crlf : ℕ → ℕ → Bool
is_crlf a b = (a == 13) && (b == 10)

-- a byte in front of the first line, if there is one
abbrev pub in_first : ℕ → List (List ℕ) → List (List ℕ)
in_first byte [] = []
in_first byte (line ∷ lines) = (byte ∷ line) ∷ lines

-- each line that a CRLF ends, without it
abbrev pub lines_of : List ℕ → List (List ℕ)
lines_of [] = []
lines_of (a ∷ []) = []
lines_of (a ∷ b ∷ rest) = elim (is_crlf a b) as (λ _. List (List ℕ)) [ true ↦ [] ∷ lines_of rest | false ↦ in_first a (lines_of (b ∷ rest)) ]

-- the bytes behind the lines, each of which takes up its bytes and two for its CRLF
abbrev pub unfinished : List ℕ → List ℕ
unfinished stream = drop (sum_by (λ line. length line + 2) (lines_of stream)) stream

-- the units: of each line its first 65,536 bytes
abbrev pub units_of : List ℕ → List (List ℕ)
units_of stream = map (take 65536) (lines_of stream)
