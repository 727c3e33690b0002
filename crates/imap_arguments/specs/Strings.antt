-- Strings of a command (RFC 3501, section 9, astring, quoted and literal).
use Rattle.std.specs.Prelude.{ℕ, Bool, true, false, List, [], ◌∷◌, ◌++◌, ◌==◌, ◌&&◌, ◌||◌, if◌then◌else◌, Option, Some, None, Ok, Err, nat_le, take, drop}
use Rattle.std.specs.List.{prefix_len}
use Rattle.std.specs.Char.{is_ascii_digit}
use Rattle.mail_fields.specs.Keyword.{is_atom}
use Rattle.imap_arguments.specs.Readings.{Read, ◌>>=◌}
use Rattle.imap_arguments.specs.Tokens.{begins, broken_off}
use Rattle.imap_arguments.specs.declared.reason.Reason.TheVariants.{Missing, NotUnderstood}

-- bytes that a string may have without quotes, and those that a pattern may have
abbrev pub is_astring : ℕ → Bool
is_astring b = is_atom b || (b == 93)

abbrev pub is_pattern : ℕ → Bool
is_pattern b = is_astring b || (b == 37) || (b == 42)

-- what stands between quotes, behind bytes that are read, behind a backslash or not: a backslash stands before `"` and `\` alone, and neither a CR nor an LF may stand there
abbrev pub quoted_from : Bool → List ℕ → List ℕ → Read (List ℕ × List ℕ)
quoted_from escaped before [] = Err Missing
quoted_from true before (b ∷ rest) = elim ((b == 34) || (b == 92)) as (λ _. Read (List ℕ × List ℕ)) [
  | true ↦ quoted_from false (before ++ b ∷ []) rest
  | false ↦ Err NotUnderstood
]
quoted_from false before (b ∷ rest) = elim (b == 34) as (λ _. Read (List ℕ × List ℕ)) [
  | true ↦ Ok (before, rest)
  | false ↦ elim (b == 92) as (λ _. Read (List ℕ × List ℕ)) [
    | true ↦ quoted_from true before rest
    | false ↦ elim ((b == 13) || (b == 10)) as (λ _. Read (List ℕ × List ℕ)) [
      | true ↦ Err NotUnderstood
      | false ↦ quoted_from false (before ++ b ∷ []) rest
    ]
  ]
]

-- a quoted string, behind its first quote
abbrev pub quoted_at : List ℕ → Read (List ℕ × List ℕ)
quoted_at bytes = quoted_from false [] bytes

-- what stands behind the mark of a literal: `{`, 1 to 10 digits, `}` and CRLF
abbrev pub behind_close : List ℕ → Option (List ℕ)
behind_close bytes = if begins 125 bytes && (begins 13 (drop 1 bytes) && begins 10 (drop 2 bytes)) then Some (drop 3 bytes) else None

abbrev pub behind_size : List ℕ → Option (List ℕ)
behind_size bytes =
    let width = prefix_len is_ascii_digit bytes in
    if nat_le 1 width && nat_le width 10 then behind_close (drop width bytes) else None

abbrev pub behind_mark : List ℕ → Option (List ℕ)
behind_mark bytes = if begins 123 bytes then behind_size (drop 1 bytes) else None

-- a value, what stands behind it, and the literals behind those that it took
pub record Taken : Type 0 where
  pub value : List ℕ
  pub rest : List ℕ
  pub literals : List (List ℕ)

abbrev pub take_literal : List ℕ → Option (List ℕ) → List (List ℕ) → Read Taken
take_literal bytes None literals = Err (broken_off bytes)
take_literal bytes (Some rest) [] = Err (broken_off bytes)
take_literal bytes (Some rest) (value ∷ literals) = Ok (record { value = value; rest = rest; literals = literals })

-- a literal: its mark, which stands for the next of the command's literals
abbrev pub literal_at : List ℕ → List (List ℕ) → Read Taken
literal_at bytes literals = take_literal bytes (behind_mark bytes) literals

-- a string in quotes, else so many bytes, or a literal where these are none
abbrev pub string_of : ℕ → List ℕ → List (List ℕ) → Read Taken
string_of width bytes literals =
    if begins 34 bytes
    then (quoted_at (drop 1 bytes) >>= λ quoted. Ok (record { value = quoted.0; rest = quoted.1; literals = literals }))
    else if width == 0
    then literal_at bytes literals
    else Ok (record { value = take width bytes; rest = drop width bytes; literals = literals })

-- the longest run of bytes that may stand without quotes
abbrev pub astring_at : List ℕ → List (List ℕ) → Read Taken
astring_at bytes literals = string_of (prefix_len is_astring bytes) bytes literals

abbrev pub pattern_at : List ℕ → List (List ℕ) → Read Taken
pattern_at bytes literals = string_of (prefix_len is_pattern bytes) bytes literals
