-- The status fields of a message as they are written.
use Rattle.std.specs.Prelude.{ℕ, Bool, List, [], ◌∷◌, ◌++◌, Option, Some, None, ◌==◌, if◌then◌else◌, length, codes, decimal, flat_map}
use Rattle.std.specs.List.{concat}
use Rattle.mail_types.specs.declared.flags.Flags.{Flags}
use Rattle.status_heads.specs.declared.heads.Heads.{Heads}

-- a field with its value on one line
unfoldable pub field_line : List ℕ → List ℕ → List ℕ
field_line name value = name ++ codes ": " ++ value ++ codes "\n"

-- no line where the value has no byte
abbrev pub lines_of_field : List ℕ → List ℕ → List (List ℕ)
lines_of_field name value = if length value == 0 then [] else field_line name value ∷ []

-- a letter, where it is set
abbrev pub letter_if : Bool → ℕ → List ℕ
letter_if set letter = if set then letter ∷ [] else []

-- the value of Status
unfoldable pub status_text : Flags → List ℕ
status_text flags = letter_if flags.seen 82 ++ letter_if flags.old 79

-- the value of X-Status
unfoldable pub more_text : Flags → List ℕ
more_text flags = letter_if flags.deleted 68 ++ letter_if flags.flagged 70 ++ letter_if flags.answered 65 ++ letter_if flags.draft 84

-- a space and a name, for each name
abbrev pub spaced_names : List (List ℕ) → List ℕ
spaced_names names = flat_map (λ each. 32 ∷ each) names

-- names with one space between
abbrev pub names_text : List (List ℕ) → List ℕ
names_text [] = []
names_text (name ∷ names) = name ++ spaced_names names

-- a UID without zeros before it, or nothing
abbrev pub uid_text : Option ℕ → List ℕ
uid_text None = []
uid_text (Some uid) = decimal uid

-- the lines of the status fields
unfoldable pub head_lines : Heads → List (List ℕ)
head_lines heads =
    lines_of_field (codes "Status") (status_text heads.seen_old) ++ (
    lines_of_field (codes "X-Status") (more_text heads.seen_old) ++ (
    lines_of_field (codes "X-Keywords") (names_text heads.words) ++ lines_of_field (codes "X-UID") (uid_text heads.uid)))

-- the status fields
abbrev pub heads_text : Heads → List ℕ
heads_text heads = concat (head_lines heads)
