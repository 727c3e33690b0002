-- Commands and their arguments (RFC 3501, sections 6 and 9), and the first reason against a bad one.
use Rattle.std.specs.Prelude.{ℕ, Bool, true, false, List, [], ◌∷◌, ◌==◌, ◌||◌, if◌then◌else◌, Option, Some, None, Ok, Err, length, take, drop, map, codes}
use Rattle.std.specs.List.{prefix_len, list_any}
use Rattle.std.specs.Str.{str_eq_ignore_ascii_case}
use Rattle.std.specs.Char.{to_ascii_uppercase}
use Rattle.mail_fields.specs.Keyword.{is_atom}
use Rattle.mail_types.specs.Flags.{no_flags}
use Rattle.mail_fields.specs.declared.stamp.Stamp.{Stamp}
use Rattle.imap_arguments.specs.declared.flag.FlagList.{FlagList}
use Rattle.imap_arguments.specs.declared.set.Set.{Set}
use Rattle.imap_arguments.specs.declared.reason.Reason.{Reason}
use Rattle.imap_arguments.specs.declared.reason.Reason.TheVariants.{NoTag, NoCommand, UnknownCommand, NotUnderstood, TextBehind, Nul}
use Rattle.imap_arguments.specs.Readings.{Read, ◌>>=◌}
use Rattle.imap_arguments.specs.Tokens.{begins, byte_at, token_at}
use Rattle.imap_arguments.specs.Tags.{tag_of}
use Rattle.imap_arguments.specs.Strings.{Taken, astring_at, pattern_at, literal_at}
use Rattle.imap_arguments.specs.Sets.{set_at}
use Rattle.imap_arguments.specs.Flags.{flag_list_at, store_flags_at}
use Rattle.imap_arguments.specs.Items.{fetch_items_at, status_list_at}
use Rattle.imap_syntax.specs.Stamps.{stamp_text_at}
use Rattle.imap_syntax.specs.Keys.{search_keys_at}
use Rattle.imap_syntax.specs.Verbs.{verb_of, message_verb}
use Rattle.imap_syntax.specs.declared.verb.Verb.{Verb}
use Rattle.imap_syntax.specs.declared.verb.Verb.TheVariants as verbs
use Rattle.imap_syntax.specs.declared.command.Mode.{Mode}
use Rattle.imap_syntax.specs.declared.command.Mode.TheVariants.{Replace, Add, Remove}
use Rattle.imap_syntax.specs.declared.command.Command.{Command}
use Rattle.imap_syntax.specs.declared.command.Command.TheVariants as commands

-- nothing stands behind the last argument
abbrev pub ended : Command → List ℕ → Read Command
ended command [] = Ok command
ended command (b ∷ rest) = Err TextBehind

-- an argument that is a string, behind its space
abbrev pub string_argument : List ℕ → List (List ℕ) → Read Taken
string_argument bytes literals = byte_at 32 bytes >>= λ behind. astring_at behind literals

-- a set behind its space
abbrev pub set_argument : List ℕ → Read (Set × List ℕ)
set_argument bytes = byte_at 32 bytes >>= λ behind. set_at behind

-- commands with one name
unfoldable pub one_name : (List ℕ → Command) → List ℕ → List (List ℕ) → Read Command
one_name command bytes literals = string_argument bytes literals >>= λ name. ended (command name.value) name.rest

unfoldable pub rename_at : List ℕ → List (List ℕ) → Read Command
rename_at bytes literals = do
  one ← string_argument bytes literals
  other ← string_argument one.rest one.literals
  ended (commands.Rename one.value other.value) other.rest

-- a reference and a pattern
unfoldable pub patterns_at : List ℕ → List (List ℕ) → Read (List ℕ × Taken)
patterns_at bytes literals = do
  reference ← string_argument bytes literals
  behind ← byte_at 32 reference.rest
  pattern ← pattern_at behind reference.literals
  Ok (reference.value, pattern)

unfoldable pub list_at : List ℕ → List (List ℕ) → Read Command
list_at bytes literals = patterns_at bytes literals >>= λ both. ended (commands.List both.0 both.1.value) both.1.rest

unfoldable pub lsub_at : List ℕ → List (List ℕ) → Read Command
lsub_at bytes literals = patterns_at bytes literals >>= λ both. ended (commands.Lsub both.0 both.1.value) both.1.rest

unfoldable pub status_at : List ℕ → List (List ℕ) → Read Command
status_at bytes literals = do
  name ← string_argument bytes literals
  behind ← byte_at 32 name.rest
  items ← status_list_at behind
  ended (commands.Status name.value items.0) items.1

-- the flags of APPEND and a space, if a parenthesis stands there
unfoldable pub append_flags_at : List ℕ → Read (FlagList × List ℕ)
append_flags_at bytes =
    if begins 40 bytes
    then (do
      flags ← flag_list_at bytes
      rest ← byte_at 32 flags.1
      Ok (flags.0, rest))
    else Ok (record { flags = no_flags; words = [] }, bytes)

-- its date and a space, if a quote stands there
unfoldable pub append_date_at : List ℕ → Read (Option Stamp × List ℕ)
append_date_at bytes =
    if begins 34 bytes
    then (do
      stamp ← stamp_text_at bytes
      rest ← byte_at 32 stamp.1
      Ok (Some stamp.0, rest))
    else Ok (None, bytes)

unfoldable pub append_at : List ℕ → List (List ℕ) → Read Command
append_at bytes literals = do
  name ← string_argument bytes literals
  behind ← byte_at 32 name.rest
  flags ← append_flags_at behind
  date ← append_date_at flags.1
  text ← literal_at date.1 name.literals
  ended (commands.Append name.value flags.0 date.0 text.value) text.rest

-- a charset before the keys of SEARCH
pub record Charset : Type 0 where
  pub charset : Option (List ℕ)
  pub rest : List ℕ
  pub literals : List (List ℕ)

unfoldable pub charset_at : List ℕ → List (List ℕ) → Read Charset
charset_at bytes literals =
    let width = prefix_len is_atom bytes in
    if str_eq_ignore_ascii_case (take width bytes) (codes "CHARSET")
    then (do
      name ← string_argument (drop width bytes) literals
      rest ← byte_at 32 name.rest
      Ok (record { charset = Some name.value; rest = rest; literals = name.literals }))
    else Ok (record { charset = None; rest = bytes; literals = literals })

unfoldable pub search_at : Bool → List ℕ → List (List ℕ) → Read Command
search_at uid bytes literals = do
  behind ← byte_at 32 bytes
  charset ← charset_at behind literals
  keys ← search_keys_at charset.rest charset.literals
  ended (commands.Search uid charset.charset keys.key) keys.rest

unfoldable pub fetch_at : Bool → List ℕ → List (List ℕ) → Read Command
fetch_at uid bytes literals = do
  set ← set_argument bytes
  behind ← byte_at 32 set.1
  items ← fetch_items_at behind literals
  ended (commands.Fetch uid set.0 items.0.items) items.1

-- how STORE changes flags, and whether silently
abbrev pub mode_of : List ℕ → Option (Mode × Bool)
mode_of word =
    if str_eq_ignore_ascii_case word (codes "FLAGS") then Some (Replace, false)
    else if str_eq_ignore_ascii_case word (codes "FLAGS.SILENT") then Some (Replace, true)
    else if str_eq_ignore_ascii_case word (codes "+FLAGS") then Some (Add, false)
    else if str_eq_ignore_ascii_case word (codes "+FLAGS.SILENT") then Some (Add, true)
    else if str_eq_ignore_ascii_case word (codes "-FLAGS") then Some (Remove, false)
    else if str_eq_ignore_ascii_case word (codes "-FLAGS.SILENT") then Some (Remove, true)
    else None

abbrev pub some_mode : Option (Mode × Bool) → Read (Mode × Bool)
some_mode None = Err NotUnderstood
some_mode (Some mode) = Ok mode

unfoldable pub store_at : Bool → List ℕ → Read Command
store_at uid bytes = do
  set ← set_argument bytes
  before ← byte_at 32 set.1
  word ← token_at before
  mode ← some_mode (mode_of word.0)
  behind ← byte_at 32 word.1
  flags ← store_flags_at behind
  ended (commands.Store uid set.0 mode.0 mode.1 flags.0) flags.1

unfoldable pub copy_at : Bool → List ℕ → List (List ℕ) → Read Command
copy_at uid bytes literals = do
  set ← set_argument bytes
  name ← string_argument set.1 literals
  ended (commands.Copy uid set.0 name.value) name.rest

-- the commands that UID may stand before
abbrev pub message_command : Bool → Option Verb → List ℕ → List (List ℕ) → Read Command
message_command uid (Some verbs.Search) bytes literals = search_at uid bytes literals
message_command uid (Some verbs.Fetch) bytes literals = fetch_at uid bytes literals
message_command uid (Some verbs.Store) bytes literals = store_at uid bytes
message_command uid (Some verbs.Copy) bytes literals = copy_at uid bytes literals
message_command uid _ bytes literals = Err NotUnderstood

unfoldable pub uid_at : List ℕ → List (List ℕ) → Read Command
uid_at bytes literals = do
  behind ← byte_at 32 bytes
  word ← token_at behind
  message_command true (message_verb word.0) word.1 literals

-- STARTTLS, LOGIN and AUTHENTICATE, whatever follows
abbrev pub password_at : List ℕ → Read Command
password_at word = Ok (commands.Password (map to_ascii_uppercase word))

-- a command by its word: what stands behind it
unfoldable pub arguments_at : List ℕ → Verb → List ℕ → List (List ℕ) → Read Command
arguments_at word verbs.Capability bytes literals = ended commands.Capability bytes
arguments_at word verbs.Noop bytes literals = ended commands.Noop bytes
arguments_at word verbs.Check bytes literals = ended commands.Check bytes
arguments_at word verbs.Close bytes literals = ended commands.Close bytes
arguments_at word verbs.Expunge bytes literals = ended commands.Expunge bytes
arguments_at word verbs.Logout bytes literals = ended commands.Logout bytes
arguments_at word verbs.Password bytes literals = password_at word
arguments_at word verbs.Select bytes literals = one_name commands.Select bytes literals
arguments_at word verbs.Examine bytes literals = one_name commands.Examine bytes literals
arguments_at word verbs.Create bytes literals = one_name commands.Create bytes literals
arguments_at word verbs.Delete bytes literals = one_name commands.Delete bytes literals
arguments_at word verbs.Subscribe bytes literals = one_name commands.Subscribe bytes literals
arguments_at word verbs.Unsubscribe bytes literals = one_name commands.Unsubscribe bytes literals
arguments_at word verbs.Rename bytes literals = rename_at bytes literals
arguments_at word verbs.List bytes literals = list_at bytes literals
arguments_at word verbs.Lsub bytes literals = lsub_at bytes literals
arguments_at word verbs.Status bytes literals = status_at bytes literals
arguments_at word verbs.Append bytes literals = append_at bytes literals
arguments_at word verbs.Search bytes literals = search_at false bytes literals
arguments_at word verbs.Fetch bytes literals = fetch_at false bytes literals
arguments_at word verbs.Store bytes literals = store_at false bytes
arguments_at word verbs.Copy bytes literals = copy_at false bytes literals
arguments_at word verbs.Uid bytes literals = uid_at bytes literals

abbrev pub known_command : List ℕ → Option Verb → List ℕ → List (List ℕ) → Read Command
known_command word None bytes literals = Err UnknownCommand
known_command word (Some verb) bytes literals = arguments_at word verb bytes literals

-- what stands behind the tag: a space and the command's word, the longest run of atom bytes, and its arguments
unfoldable pub behind_tag : List ℕ → List (List ℕ) → Read Command
behind_tag bytes literals =
    let width = prefix_len is_atom (drop 1 bytes) in
    let word = take width (drop 1 bytes) in
    if width == 0 then Err NoCommand else known_command word (verb_of word) (drop width (drop 1 bytes)) literals

abbrev pub has_nul : List ℕ → Bool
has_nul bytes = list_any (λ b. b == 0) bytes

-- a whole command: its tag and the command, or its tag, `*` where there is none, and the first reason
pub data Meaning : Type 0 where
  good : List ℕ → Command → Meaning
  bad : List ℕ → Reason → Meaning

abbrev pub meaning_by : List ℕ → Read Command → Meaning
meaning_by tag (Ok command) = good tag command
meaning_by tag (Err reason) = bad tag reason

abbrev pub tagged : Option (List ℕ) → List ℕ → List (List ℕ) → Meaning
tagged None text literals = bad (codes "*") NoTag
tagged (Some tag) text literals =
    if has_nul text || list_any has_nul literals then bad tag Nul else meaning_by tag (behind_tag (drop (length tag) text) literals)

unfoldable pub meaning_of : List ℕ → List (List ℕ) → Meaning
meaning_of text literals = tagged (tag_of text) text literals
