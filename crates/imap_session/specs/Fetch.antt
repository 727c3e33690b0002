-- FETCH (RFC 3501, section 6.4.5).
use Rattle.std.specs.Prelude.{ℕ, Bool, true, false, List, [], ◌∷◌, ◌&&◌, not, nat_eq, if◌then◌else◌, Option, Some, None, Ok, bytes_eq}
use Rattle.std.specs.List.{list_any}
use Rattle.imap_arguments.specs.declared.item.Item.{Item}
use Rattle.imap_arguments.specs.declared.item.Item.TheVariants as items
use Rattle.imap_arguments.specs.declared.section.SectionKind.{SectionKind}
use Rattle.imap_arguments.specs.declared.section.SectionKind.TheVariants as kinds
use Rattle.imap_arguments.specs.declared.set.Set.{Set}
use Rattle.imap_reply.specs.declared.text.Words.{Words}
use Rattle.imap_reply.specs.declared.text.Words.TheVariants as words
use Rattle.imap_session.specs.State.{State, infos_of, Outcome, ◌>>=◌, done, or_leaves}
use Rattle.imap_session.specs.Refusals.{the_selected}
use Rattle.imap_session.specs.Sets.{named_places, unless_past}
use Rattle.imap_session.specs.Messages.{fetch_lines}

-- ---- The items that are said

abbrev pub same_numbers : List ℕ → List ℕ → Bool
same_numbers one other = bytes_eq one other

abbrev pub same_texts : List (List ℕ) → List (List ℕ) → Bool
same_texts [] [] = true
same_texts (a ∷ one) (b ∷ other) = bytes_eq a b && same_texts one other
same_texts one other = false

abbrev pub same_kind : SectionKind → SectionKind → Bool
same_kind kinds.All kinds.All = true
same_kind kinds.Header kinds.Header = true
same_kind (kinds.Fields one) (kinds.Fields other) = same_texts one other
same_kind (kinds.FieldsNot one) (kinds.FieldsNot other) = same_texts one other
same_kind kinds.Text kinds.Text = true
same_kind kinds.Mime kinds.Mime = true
same_kind one other = false

abbrev pub same_range : Option (ℕ × ℕ) → Option (ℕ × ℕ) → Bool
same_range None None = true
same_range (Some one) (Some other) = nat_eq one.0 other.0 && nat_eq one.1 other.1
same_range one other = false

abbrev pub same_truth : Bool → Bool → Bool
same_truth true other = other
same_truth false other = not other

abbrev pub same_item : Item → Item → Bool
same_item items.Flags items.Flags = true
same_item items.InternalDate items.InternalDate = true
same_item items.Size items.Size = true
same_item items.Envelope items.Envelope = true
same_item items.Body items.Body = true
same_item items.BodyStructure items.BodyStructure = true
same_item items.Uid items.Uid = true
same_item items.Rfc822 items.Rfc822 = true
same_item items.Rfc822Header items.Rfc822Header = true
same_item items.Rfc822Text items.Rfc822Text = true
same_item (items.Part one range peek) (items.Part other span peeks) =
    same_numbers one.parts other.parts && same_kind one.kind other.kind && same_range range span && same_truth peek peeks
same_item one other = false

abbrev pub asks : List Item → Item → Bool
asks asked item = list_any (same_item item) asked

-- each asked item once, in the order asked
abbrev pub each_once : (before : List Item) → List Item → List Item
each_once before [] = []
each_once before (item ∷ rest) = if asks before item then each_once before rest else item ∷ each_once (item ∷ before) rest

-- behind UID the UID stands first where it isn't asked
abbrev pub said_items : (uid : Bool) → List Item → List Item
said_items uid asked = let once = each_once [] asked in if uid && not (asks once items.Uid) then items.Uid ∷ once else once

-- ---- The command

abbrev pub fetched : (uid : Bool) → Words
fetched uid = if uid then words.UidFetch else words.Fetch

-- the items of each message, as they are known without its text
abbrev pub fetch : List ℕ → (uid : Bool) → Set → List Item → State → Outcome
fetch tag uid set asked state = or_leaves state (do
  s ← the_selected tag state
  there ← unless_past tag uid set (infos_of s)
  Ok (done tag (fetched uid) state (fetch_lines s (said_items uid asked) (named_places uid set (infos_of s)))))
