-- FETCH lines and the changes of STORE and EXPUNGE by what a store tells of its messages, whatever their texts are.
use Rattle.std.specs.Prelude.{ℕ, Bool, List, [], ◌∷◌, ◌++◌, ◌+◌, ◌≡◌, ◌&&◌, nat_eq, nat_lt, length, if◌then◌else◌, slice_get, Option, Some, None}
use Rattle.std.specs.List.{list_any}
use Rattle.mail_types.specs.declared.driver.Driver.{Driver}
use Rattle.mail_types.specs.Drivers.{keeps_of}
use Rattle.store_trait.specs.declared.change.Change.{Change}
use Rattle.store_trait.specs.declared.change.Change.TheVariants.{SetFlags}
use Rattle.store_trait.specs.declared.store.Info.{Info}
use Rattle.imap_arguments.specs.declared.flag.FlagList.{FlagList}
use Rattle.imap_syntax.specs.declared.command.Mode.{Mode}
use Rattle.imap_arguments.specs.declared.item.Item.{Item}
use Rattle.imap_session.specs.Items.{LookedAt}
use Rattle.imap_session.specs.Lines.{Line, message_line}
use Rattle.imap_session.specs.Names.{grown}
use Rattle.imap_session.specs.Store.{adds_names, changes_at}

-- a message by its number, with what is told of it
abbrev pub told : (number : ℕ) → Info → (recent : Bool) → (words : List (List ℕ)) → (text : List ℕ) → LookedAt
told number info recent words text = record { number = number; info = info; recent = recent; words = words; text = text }

abbrev pub line_in : (texts : ℕ → List ℕ) → List Item → (words : List (List ℕ)) → (recent : List ℕ) → (place : ℕ) → Option Info → List Line
line_in texts items words recent place None = []
line_in texts items words recent place (Some info) = message_line items (told (place + 1) info (list_any (nat_eq info.uid) recent) words (texts place)) ∷ []

-- the line of the message at a place
abbrev pub told_line : (texts : ℕ → List ℕ) → List Item → (words : List (List ℕ)) → (recent : List ℕ) → List Info → (place : ℕ) → List Line
told_line texts items words recent infos place = line_in texts items words recent place (slice_get infos place)

-- one for each of these places
abbrev pub told_lines : (texts : ℕ → List ℕ) → List Item → (words : List (List ℕ)) → (recent : List ℕ) → List Info → List ℕ → List Line
told_lines texts items words recent infos [] = []
told_lines texts items words recent infos (place ∷ places) = told_line texts items words recent infos place ++ told_lines texts items words recent infos places

-- the names after STORE
abbrev pub told_names : Mode → Driver → (words : List (List ℕ)) → (places : List ℕ) → (given : List (List ℕ)) → List (List ℕ)
told_names mode driver words places given = if adds_names mode && nat_lt 0 (length places) then grown (keeps_of driver).words words given else words

-- two lists have the same UIDs
abbrev pub HasSame : (uids list : List ℕ) → Type 0
HasSame uids list = (uid : ℕ) → list_any (nat_eq uid) uids ≡ list_any (nat_eq uid) list

-- the UIDs of the deleted messages
abbrev pub deleted_uids : List Info → List ℕ
deleted_uids [] = []
deleted_uids (info ∷ rest) = if info.flags.deleted then info.uid ∷ deleted_uids rest else deleted_uids rest

-- what it changes
abbrev pub told_change : Mode → FlagList → Driver → (words : List (List ℕ)) → List Info → (places : List ℕ) → Change
told_change mode given driver words infos places = let names = told_names mode driver words places given.words in SetFlags (changes_at mode given names infos places) names
