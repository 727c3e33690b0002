-- Flags that a client sets (RFC 3501, section 9, flag and flag-list).
use Rattle.std.specs.Prelude.{ℕ, true, List, [], ◌∷◌, ◌++◌, if◌then◌else◌, Option, Some, None, Ok, Err, nat_le, length, take, drop, codes}
use Rattle.std.specs.List.{prefix_len}
use Rattle.std.specs.Str.{str_eq_ignore_ascii_case}
use Rattle.mail_fields.specs.Keyword.{is_atom}
use Rattle.mail_types.specs.Flags.{no_flags, flags_in_either}
use Rattle.mail_types.specs.declared.flags.Flags.{Flags}
use Rattle.imap_arguments.specs.Readings.{Read, ◌>>=◌}
use Rattle.imap_arguments.specs.Tokens.{begins, byte_at, token_at, separated}
use Rattle.imap_arguments.specs.declared.reason.Reason.TheVariants.{NotUnderstood}
use Rattle.imap_arguments.specs.declared.flag.FlagList.{FlagList}

-- the system flags that a client can set (RFC 3501, section 2.3.2), by name in any letter case
abbrev pub system_flag : List ℕ → Option Flags
system_flag name =
    if str_eq_ignore_ascii_case name (codes "Seen") then Some (record no_flags { seen = true })
    else if str_eq_ignore_ascii_case name (codes "Answered") then Some (record no_flags { answered = true })
    else if str_eq_ignore_ascii_case name (codes "Flagged") then Some (record no_flags { flagged = true })
    else if str_eq_ignore_ascii_case name (codes "Deleted") then Some (record no_flags { deleted = true })
    else if str_eq_ignore_ascii_case name (codes "Draft") then Some (record no_flags { draft = true })
    else None

-- a system flag more
abbrev pub add_system : Flags → Option Flags → Read Flags
add_system flags None = Err NotUnderstood
add_system flags (Some more) = Ok (flags_in_either flags more)

-- a keyword: an atom of 1 to 64 bytes
unfoldable pub keyword_at : List ℕ → Read (List ℕ × List ℕ)
keyword_at bytes = token_at bytes >>= λ token. if nat_le (length token.0) 64 then Ok token else Err NotUnderstood

-- a system flag more, at its backslash; a name stands behind it even where it is empty
unfoldable pub system_at : Flags → List ℕ → Read (Flags × List ℕ)
system_at flags bytes =
    let name = drop 1 bytes in
    let width = prefix_len is_atom name in
    add_system flags (system_flag (take width name)) >>= λ more. Ok (more, drop width name)

-- a flag, behind those that are read
unfoldable pub flag_at : FlagList → List ℕ → Read (FlagList × List ℕ)
flag_at list bytes =
    if begins 92 bytes
    then (system_at list.flags bytes >>= λ more. Ok (record { flags = more.0; words = list.words }, more.1))
    else (keyword_at bytes >>= λ word. Ok (record { flags = list.flags; words = list.words ++ word.0 ∷ [] }, word.1))

-- flags with a space between them
abbrev pub flags_at : List ℕ → Read (FlagList × List ℕ)
flags_at bytes = separated 32 flag_at (length bytes) (record { flags = no_flags; words = [] }) bytes

-- a list in parentheses, which may be empty
unfoldable pub flag_list_at : List ℕ → Read (FlagList × List ℕ)
flag_list_at bytes = do
  inner ← byte_at 40 bytes
  if begins 41 inner
      then Ok (record { flags = no_flags; words = [] }, drop 1 inner)
      else (do
        flags ← flags_at inner
        rest ← byte_at 41 flags.1
        Ok (flags.0, rest))

-- the flags of STORE: a list, or flags without parentheses
abbrev pub store_flags_at : List ℕ → Read (FlagList × List ℕ)
store_flags_at bytes = if begins 40 bytes then flag_list_at bytes else flags_at bytes
