-- Sections of a message (RFC 3501, section 9, section and partial).
use Rattle.std.specs.Prelude.{ℕ, zero, suc, Bool, true, false, List, [], ◌∷◌, ◌++◌, ◌==◌, ◌&&◌, ◌||◌, not, if◌then◌else◌, Option, Some, None, Ok, Err, length, drop, codes}
use Rattle.std.specs.List.{prefix_len}
use Rattle.std.specs.Char.{is_ascii_digit}
use Rattle.std.specs.Str.{str_eq_ignore_ascii_case}
use Rattle.imap_arguments.specs.Readings.{Read, ◌>>=◌}
use Rattle.imap_arguments.specs.Tokens.{begins, byte_at, token_at, separated}
use Rattle.imap_arguments.specs.Numbers.{number_at, nonzero_at}
use Rattle.imap_arguments.specs.Strings.{astring_at}
use Rattle.imap_arguments.specs.declared.reason.Reason.TheVariants.{NotUnderstood}
use Rattle.imap_arguments.specs.declared.section.Section.{Section}
use Rattle.imap_arguments.specs.declared.section.SectionKind.{SectionKind}
use Rattle.imap_arguments.specs.declared.section.SectionKind.TheVariants.{All, Header, Fields, FieldsNot, Text, Mime}

-- whether a digit stands at the front
abbrev pub begins_digit : List ℕ → Bool
begins_digit bytes = not (prefix_len is_ascii_digit bytes == 0)

-- part numbers, what stands behind them, and whether a word may stand there
pub record PartNumbers : Type 0 where
  pub numbers : List ℕ
  pub rest : List ℕ
  pub word : Bool

-- part numbers with dots between them, at most so many, behind those that are read; behind a dot, and where there is none, a word stands
abbrev pub parts_from : ℕ → List ℕ → List ℕ → Read PartNumbers
parts_from zero before bytes = Ok (record { numbers = before; rest = bytes; word = true })
parts_from (suc n) before bytes = elim (begins_digit bytes) as (λ _. Read PartNumbers) [
  | true ↦ nonzero_at bytes >>= λ number. elim (begins 46 number.1) as (λ _. Read PartNumbers) [
    | true ↦ parts_from n (before ++ number.0 ∷ []) (drop 1 number.1)
    | false ↦ Ok (record { numbers = before ++ number.0 ∷ []; rest = number.1; word = false })
  ]
  | false ↦ Ok (record { numbers = before; rest = bytes; word = true })
]

abbrev pub parts_at : List ℕ → Read PartNumbers
parts_at bytes = parts_from (length bytes) [] bytes

-- names of header fields, and the literals behind those that they take
pub record Names : Type 0 where
  pub names : List (List ℕ)
  pub literals : List (List ℕ)

-- a name more
abbrev pub add_name : Names → List ℕ → Read (Names × List ℕ)
add_name before bytes = astring_at bytes before.literals >>= λ name. Ok (record { names = before.names ++ name.value ∷ []; literals = name.literals }, name.rest)

-- names with a space between them
abbrev pub inner_names_at : List ℕ → List (List ℕ) → Read (Names × List ℕ)
inner_names_at bytes literals = separated 32 add_name (length bytes) (record { names = []; literals = literals }) bytes

-- a list of names in parentheses, behind a space (header-list)
unfoldable pub names_at : List ℕ → List (List ℕ) → Read (Names × List ℕ)
names_at bytes literals = do
  behind ← byte_at 32 bytes
  inner ← byte_at 40 behind
  found ← inner_names_at inner literals
  rest ← byte_at 41 found.1
  Ok (found.0, rest)

-- what is asked of a part, what stands behind it, and the literals
pub record ReadKind : Type 0 where
  pub kind : SectionKind
  pub rest : List ℕ
  pub literals : List (List ℕ)

-- what a word asks for, in any letter case; MIME stands behind part numbers alone
unfoldable pub word_kind : Bool → List ℕ → List ℕ → List (List ℕ) → Read ReadKind
word_kind numbered word bytes literals =
    if str_eq_ignore_ascii_case word (codes "HEADER") then Ok (record { kind = Header; rest = bytes; literals = literals })
    else if str_eq_ignore_ascii_case word (codes "TEXT") then Ok (record { kind = Text; rest = bytes; literals = literals })
    else if str_eq_ignore_ascii_case word (codes "MIME") && numbered then Ok (record { kind = Mime; rest = bytes; literals = literals })
    else if str_eq_ignore_ascii_case word (codes "HEADER.FIELDS")
    then (names_at bytes literals >>= λ found. Ok (record { kind = Fields found.0.names; rest = found.1; literals = found.0.literals }))
    else if str_eq_ignore_ascii_case word (codes "HEADER.FIELDS.NOT")
    then (names_at bytes literals >>= λ found. Ok (record { kind = FieldsNot found.0.names; rest = found.1; literals = found.0.literals }))
    else Err NotUnderstood

-- what is asked for: all where no word may stand, or none stands and there are no part numbers, else what the word says
unfoldable pub kind_at : Bool → Bool → List ℕ → List (List ℕ) → Read ReadKind
kind_at numbered word bytes literals =
    if not word || (not numbered && begins 93 bytes) then Ok (record { kind = All; rest = bytes; literals = literals })
    else (token_at bytes >>= λ token. word_kind numbered token.0 token.1 literals)

-- a section, what stands behind it, and the literals
pub record ReadSection : Type 0 where
  pub section : Section
  pub rest : List ℕ
  pub literals : List (List ℕ)

-- a section in brackets
unfoldable pub section_at : List ℕ → List (List ℕ) → Read ReadSection
section_at bytes literals = do
  inner ← byte_at 91 bytes
  parts ← parts_at inner
  found ← kind_at (not (length parts.numbers == 0)) parts.word parts.rest literals
  rest ← byte_at 93 found.rest
  Ok (record { section = record { parts = parts.numbers; kind = found.kind }; rest = rest; literals = found.literals })

-- an offset and a count between `<` and `>`, if they stand there: the offset may be 0, the count may not
unfoldable pub partial_at : List ℕ → Read (Option (ℕ × ℕ) × List ℕ)
partial_at bytes =
    if begins 60 bytes
    then (do
      offset ← number_at (drop 1 bytes)
      behind ← byte_at 46 offset.1
      count ← nonzero_at behind
      rest ← byte_at 62 count.1
      Ok (Some (offset.0, count.0), rest))
    else Ok (None, bytes)
