-- STORE (RFC 3501, section 6.4.6).
use Rattle.std.specs.Prelude.{ℕ, Bool, true, false, List, [], ◌∷◌, ◌++◌, ◌==◌, ◌&&◌, bit_or, nat_lt, if◌then◌else◌, length, slice_get, Option, Some, None, Ok}
use Rattle.mail_types.specs.declared.flags.Flags.{Flags}
use Rattle.mail_types.specs.declared.message.FlagChange.{FlagChange}
use Rattle.store_trait.specs.declared.store.Info.{Info}
use Rattle.mail_types.specs.Drivers.{keeps_of}
use Rattle.mail_types.specs.Flags.{flags_in_either, flags_in_first, flag_bits}
use Rattle.store_trait.specs.declared.change.Change.{Change}
use Rattle.store_trait.specs.declared.change.Change.TheVariants.{SetFlags}
use Rattle.imap_arguments.specs.declared.flag.FlagList.{FlagList}
use Rattle.imap_arguments.specs.declared.item.Item.{Item}
use Rattle.imap_arguments.specs.declared.item.Item.TheVariants as items
use Rattle.imap_arguments.specs.declared.set.Set.{Set}
use Rattle.imap_syntax.specs.declared.command.Mode.{Mode}
use Rattle.imap_syntax.specs.declared.command.Mode.TheVariants.{Replace, Add, Remove}
use Rattle.imap_reply.specs.declared.reply.Reply.TheVariants as reply
use Rattle.imap_reply.specs.declared.text.Words.{Words}
use Rattle.imap_reply.specs.declared.text.Words.TheVariants as words
use Rattle.imap_session.specs.State.{Selected, State, infos_of, Outcome, ◌>>=◌, changed_selected, changed_state, done, or_leaves}
use Rattle.imap_session.specs.Refusals.{the_selected, writable}
use Rattle.imap_session.specs.Sets.{named_places, unless_past}
use Rattle.imap_session.specs.Names.{grown, numbers_of, without_numbers}
use Rattle.imap_session.specs.Messages.{fetch_lines}
use Rattle.any_store.specs.Choice.{Formats}
use Rattle.imap_session.specs.Lines.{Line, reply_line}

-- ---- The names

abbrev pub adds_names : Mode → Bool
adds_names Replace = true
adds_names Add = true
adds_names Remove = false

-- new names are added while the driver keeps more, but none where no message is named
abbrev pub next_names : Mode → Selected → (places : List ℕ) → (given : List (List ℕ)) → List (List ℕ)
next_names mode s places given =
    if adds_names mode && nat_lt 0 (length places) then grown (keeps_of s.placed.driver).words s.placed.mailbox.words given else s.placed.mailbox.words

-- ---- The flags

-- old is no flag that a client sets
abbrev pub stored_flags : Mode → (given was : Flags) → Flags
stored_flags Replace given was = record given { old = was.old }
stored_flags Add given was = flags_in_either was given
stored_flags Remove given was = flags_in_first was given

abbrev pub stored_words : Mode → (given was : ℕ) → ℕ
stored_words Replace given was = given
stored_words Add given was = bit_or was given
stored_words Remove given was = without_numbers was given

abbrev pub same_flags : Flags → Flags → Bool
same_flags one other = flag_bits one == flag_bits other

-- a flag that is set again changes nothing
abbrev pub real_change : (place : ℕ) → Flags → ℕ → Info → List FlagChange
real_change place flags words info =
    if same_flags flags info.flags && (words == info.words) then [] else record { place = place; flags = flags; words = words } ∷ []

abbrev pub change_of : Mode → FlagList → (names : List (List ℕ)) → (place : ℕ) → Option Info → List FlagChange
change_of mode given names place None = []
change_of mode given names place (Some info) =
    real_change place (stored_flags mode given.flags info.flags) (stored_words mode (numbers_of given.words names) info.words) info

abbrev pub changes_at : Mode → FlagList → (names : List (List ℕ)) → List Info → List ℕ → List FlagChange
changes_at mode given names infos [] = []
changes_at mode given names infos (place ∷ places) =
    change_of mode given names place (slice_get infos place) ++ changes_at mode given names infos places

-- ---- The command

abbrev pub stored : (uid : Bool) → Words
stored uid = if uid then words.UidStore else words.Store

abbrev pub flag_items : (uid : Bool) → List Item
flag_items uid = if uid then items.Uid ∷ items.Flags ∷ [] else items.Flags ∷ []

-- the FLAGS line comes where the list grew
abbrev pub names_line : (old new : List (List ℕ)) → List Line
names_line old new = if nat_lt (length old) (length new) then reply_line (reply.Flags new) ∷ [] else []

-- the flags and names after it
abbrev pub store_change : Mode → FlagList → Selected → (places : List ℕ) → Change
store_change mode given s places = let names = next_names mode s places given.words in SetFlags (changes_at mode given names (infos_of s) places) names

-- a silent one says no FETCH lines
abbrev pub store_lines : (uid silent : Bool) → Selected → (places : List ℕ) → List Line
store_lines uid silent s places = if silent then [] else fetch_lines s (flag_items uid) places

abbrev pub store_places : Formats → List ℕ → (uid : Bool) → Mode → (silent : Bool) → FlagList → State → Selected → (places : List ℕ) → Outcome
store_places formats tag uid mode silent given state s places =
    let change = store_change mode given s places in
    let now = changed_selected s s.recent change in
    done tag (stored uid) (changed_state formats state s s.recent change)
    (names_line s.placed.mailbox.words now.placed.mailbox.words ++ store_lines uid silent now places)

abbrev pub store : Formats → List ℕ → (uid : Bool) → Set → Mode → (silent : Bool) → FlagList → State → Outcome
store formats tag uid set mode silent given state = or_leaves state (do
  s ← the_selected tag state
  there ← unless_past tag uid set (infos_of s)
  can ← writable tag s
  Ok (store_places formats tag uid mode silent given state s (named_places uid set (infos_of s))))
