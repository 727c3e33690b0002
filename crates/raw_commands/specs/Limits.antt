-- What a line asks for where it ends: the end of its command, a literal, or a refusal.
use Rattle.std.specs.Prelude.{ℕ, ◌+◌, ◌-◌, ◌==◌, List, [], ◌∷◌, if◌then◌else◌, Option, Some, None, nat_lt, length, take, slice_index}
use Rattle.std.specs.List.{sum_by}
use Rattle.mail_fields.specs.Numbers.{decimal_of}

-- an earlier line of a command, without its CRLF, and the literal behind it
abbrev pub Part : Type 0
Part = List ℕ × List ℕ

-- the bytes of a command's earlier lines, and those of its literals
abbrev pub lines_size : List Part → ℕ
lines_size parts = sum_by (λ part. length part.0) parts

abbrev pub literals_size : List Part → ℕ
literals_size parts = sum_by (λ part. length part.1) parts

-- what stands behind the last `{` of a line, if it has one
abbrev pub last_behind : ℕ → List ℕ → Option (List ℕ) → Option (List ℕ)
last_behind b rest (Some tail) = Some tail
last_behind b rest None = if b == 123 then Some rest else None

abbrev pub behind_brace : List ℕ → Option (List ℕ)
behind_brace [] = None
behind_brace (b ∷ rest) = last_behind b rest (behind_brace rest)

-- a number of 1 to 10 digits and `}`, and nothing else
abbrev pub closed_number : List ℕ → Option ℕ
closed_number tail = if slice_index tail (length tail - 1) == 125 then decimal_of (take (length tail - 1) tail) else None

abbrev pub closed_behind : Option (List ℕ) → Option ℕ
closed_behind None = None
closed_behind (Some tail) = closed_number tail

-- the size of the literal that a line announces, where it ends in `{n}` (RFC 3501, section 9, literal)
unfoldable pub announced : List ℕ → Option ℕ
announced line = closed_behind (behind_brace line)

-- where a line ends: the command is too long or its literals too large; it is whole; a literal of a size follows
pub data Ending : Type 0 where
  too_long too_large whole : Ending
  literal : ℕ → Ending

-- the literals of a command have at most 16 MiB together
abbrev pub ending_of : ℕ → Option ℕ → Ending
ending_of before None = whole
ending_of before (Some size) = if nat_lt 16777216 (before + size) then too_large else literal size

-- its lines have at most 65,536 bytes together, without the CRLF of each; by the sizes of what stands before
unfoldable pub ending_at : ℕ → ℕ → List ℕ → Ending
ending_at lines literals line = if nat_lt 65536 (lines + length line) then too_long else ending_of literals (announced line)

abbrev pub ending : List Part → List ℕ → Ending
ending parts line = ending_at (lines_size parts) (literals_size parts) line
