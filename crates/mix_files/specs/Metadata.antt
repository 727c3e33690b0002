-- The metadata of a mix mailbox: the lines `S`, `V`, `L` and `N` with 8 hex digits each and `K` with keyword names, in this order.
-- A further line, which begins with another letter, may stand anywhere and means nothing.
use Rattle.std.specs.Prelude.{ℕ, ◌-◌, Bool, false, not, List, [], ◌∷◌, ◌++◌, codes, Option, Some, None, nat_le, nat_eq, ◌==◌, ◌&&◌, if◌then◌else◌, length, take, drop, slice_index}
use Rattle.std.specs.List.{filter, list_any}
use Rattle.std.specs.Char.{is_ascii_alphabetic}
use Rattle.mail_fields.specs.Numbers.{◌>>=◌, number_at_front, digits_in}
use Rattle.mix_files.specs.CrlfLines.{crlf_lines}
use Rattle.mix_files.specs.Names.{names_of, names_text}
use Rattle.mix_files.specs.declared.meta.Meta.{Meta}

-- a line that begins with a letter and ends with CRLF: the letter and what stands between
unfoldable pub line_parts : List ℕ → Option (ℕ × List ℕ)
line_parts line =
    if nat_le 3 (length line) && (slice_index line (length line - 2) == 13) && (slice_index line (length line - 1) == 10) then Some (slice_index line 0, take (length line - 3) (drop 1 line))
    else None

-- a letter that begins a line of the metadata with a meaning
abbrev pub is_known : ℕ → Bool
is_known letter = list_any (nat_eq letter) (codes "SVLNK")

-- a further line
abbrev pub is_further_part : Option (ℕ × List ℕ) → Bool
is_further_part None = false
is_further_part (Some parts) = is_ascii_alphabetic parts.0 && not (is_known parts.0)

abbrev pub is_further : List ℕ → Bool
is_further line = is_further_part (line_parts line)

-- the lines of a text that are no further lines
unfoldable pub kept_lines : List ℕ → List (List ℕ)
kept_lines text = filter (λ line. not (is_further line)) (crlf_lines text)

-- the number of a line: its letter and 8 hex digits, in either letter case
unfoldable pub number_of_line : ℕ → List ℕ → Option ℕ
number_of_line letter line = do
  parts ← line_parts line
  if (parts.0 == letter) && (length parts.1 == 8) then number_at_front 16 8 parts.1 else None

-- the number of the first of some lines, and the lines behind it
abbrev pub number_first : ℕ → List (List ℕ) → Option (ℕ × List (List ℕ))
number_first letter [] = None
number_first letter (line ∷ lines) = do
  number ← number_of_line letter line
  Some (number, lines)

-- the names of a line `K`
unfoldable pub names_of_line : List ℕ → Option (List (List ℕ))
names_of_line line = do
  parts ← line_parts line
  if parts.0 == 75 then names_of parts.1 else None

-- the names of one line, behind which none stands
abbrev pub names_alone : List (List ℕ) → Option (List (List ℕ))
names_alone [] = None
names_alone (line ∷ []) = names_of_line line
names_alone (line ∷ more ∷ lines) = None

-- the metadata that lines with a meaning are
unfoldable pub meta_of_lines : List (List ℕ) → Option Meta
meta_of_lines lines = do
  sequence ← number_first 83 lines
  validity ← number_first 86 sequence.1
  last ← number_first 76 validity.1
  file ← number_first 78 last.1
  words ← names_alone file.1
  if validity.0 == 0 then None else Some (record { sequence = sequence.0; validity = validity.0; last = last.0; file = file.0; words = words })

-- the metadata that a text is
abbrev pub meta_of : List ℕ → Option Meta
meta_of text = meta_of_lines (kept_lines text)

-- the line of a number, its letters in lower case
unfoldable pub number_line : ℕ → ℕ → List ℕ
number_line letter number = letter ∷ digits_in 16 8 number ++ codes "\r\n"

-- the line of names
unfoldable pub names_line : List (List ℕ) → List ℕ
names_line names = 75 ∷ names_text names ++ codes "\r\n"

-- the text of metadata, without further lines
unfoldable pub meta_text : Meta → List ℕ
meta_text meta = number_line 83 meta.sequence ++ number_line 86 meta.validity ++ number_line 76 meta.last ++ number_line 78 meta.file ++ names_line meta.words
