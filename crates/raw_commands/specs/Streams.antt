-- The commands of a whole stream of bytes, and what is left behind the last of them (RFC 3501, sections 2.2.1 and 4.3).
use Rattle.std.specs.Prelude.{ℕ, zero, suc, Bool, true, false, List, [], ◌∷◌, ◌++◌, ◌==◌, ◌&&◌, Option, Some, None, nat_le, length, take, drop, map, flat_map}
use Rattle.raw_commands.specs.Limits.{Part, Ending, too_long, too_large, whole, literal, ending}
use Rattle.raw_commands.specs.declared.command.RawCommand.{RawCommand}
use Rattle.raw_commands.specs.declared.command.RawUnit.{RawUnit}
use Rattle.raw_commands.specs.declared.command.RawUnit.TheVariants.{Announce, Whole, TooLong, TooLarge}

-- a CR and its LF, which together end a line; each alone is a byte of the line
abbrev pub is_crlf : ℕ → ℕ → Bool
is_crlf a b = (a == 13) && (b == 10)

abbrev pub in_front : ℕ → Option (List ℕ × List ℕ) → Option (List ℕ × List ℕ)
in_front byte None = None
in_front byte (Some found) = Some (byte ∷ found.0, found.1)

-- the first line, without its CRLF, and what stands behind it; none where no line ends
abbrev pub first_line : List ℕ → Option (List ℕ × List ℕ)
first_line [] = None
first_line (a ∷ []) = None
first_line (a ∷ b ∷ rest) = elim (is_crlf a b) as (λ _. Option (List ℕ × List ℕ)) [ true ↦ Some ([], rest) | false ↦ in_front a (first_line (b ∷ rest)) ]

-- a line with its CRLF
abbrev pub with_crlf : List ℕ → List ℕ
with_crlf line = line ++ 13 ∷ 10 ∷ []

-- the lines of a command, the earlier ones with their CRLF
abbrev pub text_of : List Part → List ℕ → List ℕ
text_of parts line = flat_map (λ part. with_crlf part.0) parts ++ line

-- a command, by its earlier lines with the literal behind each, and its last line
abbrev pub command_of : List Part → List ℕ → RawCommand
command_of parts line = record { text = text_of parts line; literals = map (λ part. part.1) parts }

-- where a stream leaves off: in a line, or in the literal that a line announced, with its size; the parts of the command before it, and the bytes that have come of it
pub data Left : Type 0 where
  in_line : List Part → List ℕ → Left
  in_literal : List Part → List ℕ → ℕ → List ℕ → Left

-- the units of a stream, and where it leaves off
pub record Reading : Type 0 where
  pub units : List RawUnit
  pub left : Left

abbrev pub and_then : RawUnit → Reading → Reading
and_then unit reading = record { units = unit ∷ reading.units; left = reading.left }

-- the literal that a line announced, if it is whole, and what follows by `more`
abbrev pub literal_then : (List Part → List ℕ → Reading) → List Part → List ℕ → ℕ → List ℕ → Reading
literal_then more parts line size bytes = elim (nat_le size (length bytes)) as (λ _. Reading) [
  | true ↦ more (parts ++ (line, take size bytes) ∷ []) (drop size bytes)
  | false ↦ record { units = []; left = in_literal parts line size bytes }
]

-- what a line's end brings, and what follows by `more`; a command that is refused is over with its line
abbrev pub ending_then : (List Part → List ℕ → Reading) → List Part → List ℕ → List ℕ → Ending → Reading
ending_then more parts line rest too_long = and_then (TooLong (take 65536 (text_of parts line))) (more [] rest)
ending_then more parts line rest too_large = and_then (TooLarge (text_of parts line)) (more [] rest)
ending_then more parts line rest whole = and_then (Whole (command_of parts line)) (more [] rest)
ending_then more parts line rest (literal size) = and_then Announce (literal_then more parts line size rest)

abbrev pub line_then : (List Part → List ℕ → Reading) → List Part → List ℕ → Option (List ℕ × List ℕ) → Reading
line_then more parts bytes None = record { units = []; left = in_line parts bytes }
line_then more parts bytes (Some found) = ending_then more parts found.0 found.1 (ending parts found.0)

-- bytes behind the parts of a command, read line by line, at most so many
abbrev pub reading_of : ℕ → List Part → List ℕ → Reading
reading_of zero parts bytes = record { units = []; left = in_line parts bytes }
reading_of (suc n) parts bytes = line_then (reading_of n) parts bytes (first_line bytes)

-- the reading of a stream, which has fewer lines than bytes
unfoldable pub reading : List ℕ → Reading
reading stream = reading_of (length stream) [] stream

-- its units: each command that is whole or refused, and each literal that is announced
abbrev pub raw_units_of : List ℕ → List RawUnit
raw_units_of stream = (reading stream).units

-- the bytes of the command that is begun
abbrev pub begun : Left → List ℕ
begun (in_line parts line) = flat_map (λ part. with_crlf part.0 ++ part.1) parts ++ line
begun (in_literal parts line size bytes) = flat_map (λ part. with_crlf part.0 ++ part.1) parts ++ with_crlf line ++ bytes

-- what is left behind the last unit that ends a command; nothing exactly between commands
abbrev pub unfinished : List ℕ → List ℕ
unfinished stream = begun (reading stream).left
