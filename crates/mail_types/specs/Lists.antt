-- What the three changes make of a mailbox. Messages stand at places, counted from 0.
use Rattle.std.specs.Prelude.{ℕ, List, [], ◌∷◌, ◌++◌, ◌≤◌, ◌<◌, ◌+◌, ◌*◌, ◌/◌, ◌%◌, ◌^◌, ◌==◌, ◌&&◌, ◌||◌, not, Bool, false, nat_eq, nat_lt, min, if◌then◌else◌, length, map}
use Rattle.std.specs.List.{list_any}
use Rattle.mail_types.specs.declared.driver.Keeps.{Keeps}
use Rattle.mail_types.specs.declared.mailbox.Mailbox.{Mailbox}
use Rattle.mail_types.specs.declared.message.FlagChange.{FlagChange}
use Rattle.mail_types.specs.declared.message.NewMessage.{NewMessage}
use Rattle.mail_types.specs.declared.message.Record.{Record}
use Rattle.mail_types.specs.Flags.{flag_bits}
use Rattle.mail_types.specs.Keeping.{take_record, words_below}
use Rattle.mail_types.specs.Mailboxes.{greatest_number}

-- places that rise strictly, from a least one on, below a bound
abbrev pub RiseBelow : (least bound : ℕ) → List ℕ → Type 0
RiseBelow least bound [] = Unit {0}
RiseBelow least bound (place ∷ rest) = (least ≤ place) × (place < bound) × RiseBelow (place + 1) bound rest

-- the keyword numbers from `old` up to `new`, which get a name now, are cleared
abbrev pub cleared : (old new : ℕ) → Record → Record
cleared old new r = record r { words = r.words % 2 ^ old + 2 ^ new * (r.words / 2 ^ new) }

-- keyword numbers without a name are cleared
abbrev pub named : (names : ℕ) → Record → Record
named names r = record r { words = words_below names r.words }

-- ---- Modification numbers (RFC 7162, section 3.1)

-- the next one, which stays at the greatest; 0 forever where the driver has none
abbrev pub next_number : Keeps → ℕ → ℕ
next_number keeps number = if keeps.numbers then min (number + 1) greatest_number else number

-- a keyword or a flag other than old differs
abbrev pub differs : Record → Record → Bool
differs one other = not (nat_eq one.words other.words && nat_eq (flag_bits (record one.flags { old = false })) (flag_bits (record other.flags { old = false })))

-- a message that a change made differ takes the number
abbrev pub with_number : ℕ → (before after : Record) → Record
with_number number before after = if differs before after then record after { number = number } else after

-- message by message
abbrev pub with_numbers : ℕ → (before after : List Record) → List Record
with_numbers number before [] = []
with_numbers number [] (r ∷ rest) = r ∷ rest
with_numbers number (old ∷ before) (r ∷ rest) = with_number number old r ∷ with_numbers number before rest

-- some message differs
abbrev pub any_differs : (before after : List Record) → Bool
any_differs before [] = false
any_differs [] (r ∷ rest) = false
any_differs (old ∷ before) (r ∷ rest) = differs old r || any_differs before rest

-- ---- Append

-- a new message under a UID and a modification number
abbrev pub with_uid : (uid number : ℕ) → NewMessage → Record
with_uid uid number new = record { uid = uid; text = new.text; stamp = new.stamp; flags = new.flags; words = new.words; number = number }

-- a new message as the driver keeps it, but with all its flags
abbrev pub added_record : Keeps → (names number uid : ℕ) → NewMessage → Record
added_record keeps names number uid new = named names (take_record keeps (with_uid uid number new))

-- new messages take the next UIDs
abbrev pub added_records : Keeps → (names number next : ℕ) → List NewMessage → List Record
added_records keeps names number next [] = []
added_records keeps names number next (new ∷ rest) = added_record keeps names number next new ∷ added_records keeps names number (next + 1) rest

-- the mailbox with new messages at its end, which have its next modification number, and a keyword list that begins with its own
abbrev pub add_messages : Keeps → Mailbox → List NewMessage → (words : List (List ℕ)) → Mailbox
add_messages keeps m new words = record {
  validity = m.validity;
  number = if nat_lt 0 (length new) then next_number keeps m.number else m.number;
  last = m.last + length new;
  words = words;
  records = map (cleared (length m.words) (length words)) m.records ++ added_records keeps (length words) (next_number keeps m.number) (m.last + 1) new;
}

-- ---- Flags

abbrev pub places_of : List FlagChange → List ℕ
places_of [] = []
places_of (change ∷ rest) = change.place ∷ places_of rest

-- the message at a place as the list of changes has it
abbrev pub changed_record : (names place : ℕ) → List FlagChange → Record → Record
changed_record names place [] r = r
changed_record names place (change ∷ rest) r =
    if place == change.place then named names (record r { flags = change.flags; words = change.words }) else changed_record names place rest r

-- messages from a place on
abbrev pub changed_records : (names place : ℕ) → List FlagChange → List Record → List Record
changed_records names place changes [] = []
changed_records names place changes (r ∷ rest) = changed_record names place changes r ∷ changed_records names (place + 1) changes rest

-- the mailbox with other flags and keywords at places, and a keyword list that begins with its own; where a message differs, that and the mailbox have the next modification number
abbrev pub change_flags : Keeps → Mailbox → List FlagChange → (words : List (List ℕ)) → Mailbox
change_flags keeps m changes words =
    let before = map (cleared (length m.words) (length words)) m.records in
    let after = changed_records (length words) 0 changes before in
    record {
      validity = m.validity;
      number = if any_differs before after then next_number keeps m.number else m.number;
      last = m.last;
      words = words;
      records = with_numbers (next_number keeps m.number) before after;
    }

-- ---- Expunge

-- the elements from a place on that stand at no place of the list
abbrev pub undropped : {A : Type 0} → (place : ℕ) → List ℕ → List A → List A
undropped place places [] = []
undropped place places (r ∷ rest) = if list_any (nat_eq place) places then undropped (place + 1) places rest else r ∷ undropped (place + 1) places rest

-- the mailbox without the messages at places
abbrev pub drop_records : Mailbox → List ℕ → Mailbox
drop_records m places = record { validity = m.validity; number = m.number; last = m.last; words = m.words; records = undropped 0 places m.records }
