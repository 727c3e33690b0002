-- The reading of a stream, byte by byte from where it leaves off; `Streams` says what it is.
use Rattle.std.specs.Prelude.{ℕ, zero, suc, Bool, true, false, List, [], ◌∷◌, ◌++◌, ◌==◌, ◌&&◌, nat_le, length, take}
use Rattle.raw_commands.specs.Limits.{Part, Ending, too_long, too_large, whole, literal, ending}
use Rattle.raw_commands.specs.Streams.{text_of, command_of, Left, in_line, in_literal, Reading}
use Rattle.raw_commands.specs.declared.command.RawUnit.TheVariants.{Announce, Whole, TooLong, TooLarge}

-- whether the last byte is a CR
abbrev pub ends_in_cr : List ℕ → Bool
ends_in_cr [] = false
ends_in_cr (a ∷ []) = a == 13
ends_in_cr (a ∷ b ∷ rest) = ends_in_cr (b ∷ rest)

abbrev pub without_last : List ℕ → List ℕ
without_last [] = []
without_last (a ∷ []) = []
without_last (a ∷ b ∷ rest) = a ∷ without_last (b ∷ rest)

-- whether a byte ends the line whose bytes so far are `line`
abbrev pub ends_line : ℕ → List ℕ → Bool
ends_line byte line = ends_in_cr line && (byte == 10)

-- in a literal of so many bytes, or behind it
abbrev pub awaiting : List Part → List ℕ → ℕ → Left
awaiting parts line zero = in_line (parts ++ (line, []) ∷ []) []
awaiting parts line (suc n) = in_literal parts line (suc n) []

abbrev pub ended : List Part → List ℕ → Ending → Reading
ended parts line too_long = record { units = TooLong (take 65536 (text_of parts line)) ∷ []; left = in_line [] [] }
ended parts line too_large = record { units = TooLarge (text_of parts line) ∷ []; left = in_line [] [] }
ended parts line whole = record { units = Whole (command_of parts line) ∷ []; left = in_line [] [] }
ended parts line (literal size) = record { units = Announce ∷ []; left = awaiting parts line size }

-- behind the line feed that ends a line
abbrev pub line_ended : List Part → List ℕ → Reading
line_ended parts line = ended parts (without_last line) (ending parts (without_last line))

abbrev pub line_pushed : Bool → List Part → List ℕ → ℕ → Reading
line_pushed true parts line byte = line_ended parts line
line_pushed false parts line byte = record { units = []; left = in_line parts (line ++ byte ∷ []) }

abbrev pub filled : Bool → List Part → List ℕ → ℕ → List ℕ → Left
filled true parts line size bytes = in_line (parts ++ (line, bytes) ∷ []) []
filled false parts line size bytes = in_literal parts line size bytes

-- one byte more
abbrev pub push : Left → ℕ → Reading
push (in_line parts line) byte = line_pushed (ends_line byte line) parts line byte
push (in_literal parts line size bytes) byte =
    record { units = []; left = filled (nat_le size (length (bytes ++ byte ∷ []))) parts line size (bytes ++ byte ∷ []) }

-- one reading and then another
abbrev pub both : Reading → Reading → Reading
both one more = record { units = one.units ++ more.units; left = more.left }

-- bytes one by one
abbrev pub run : Left → List ℕ → Reading
run left [] = record { units = []; left = left }
run left (byte ∷ bytes) = let one = push left byte in both one (run one.left bytes)
