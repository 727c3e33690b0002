-- What of a message's text a FETCH item needs.
use Rattle.std.specs.Prelude.{◌≡◌, ◌≤◌, ℕ, List, [], ◌∷◌, ◌++◌, ◌+◌, ◌-◌, min, Option, Some, None, length, slice_range}
use Rattle.head_fields.specs.Header.{header_alone}
use Rattle.imap_arguments.specs.declared.section.SectionKind.{SectionKind}
use Rattle.imap_arguments.specs.declared.section.SectionKind.TheVariants.{All, Header, Fields, FieldsNot, Text, Mime}
use Rattle.imap_arguments.specs.declared.item.Item as item
use Rattle.imap_arguments.specs.declared.item.Item.TheVariants as items
use Rattle.looked_message.specs.Messages.{LookedAt, with_text}
use Rattle.body_sections.specs.Labels.{literal_head}
use Rattle.body_sections.specs.Items.{IsItem}
use Rattle.body_sections.specs.declared.needs.Need.{Need}
use Rattle.body_sections.specs.declared.needs.Need.TheVariants.{Nothing, Front, Part, Whole}

-- where a partial of a text of so many bytes begins and ends
abbrev pub partial_need : Option (ℕ × ℕ) → ℕ → Need
partial_need None size = Part 0 size
partial_need (Some (offset, count)) size = Part (min offset size) (min (offset + count) size)

-- what a section needs: one of a part needs the whole text
abbrev pub section_need : List ℕ → SectionKind → Option (ℕ × ℕ) → ℕ → Need
section_need [] All partial size = partial_need partial size
section_need [] Header partial size = Front
section_need [] (Fields names) partial size = Front
section_need [] (FieldsNot names) partial size = Front
section_need [] Text partial size = Whole
section_need [] Mime partial size = Whole
section_need (n ∷ more) kind partial size = Whole

-- what an item needs, of a text of so many bytes
abbrev pub item_need : item.Item → ℕ → Need
item_need items.Flags size = Nothing
item_need items.InternalDate size = Nothing
item_need items.Size size = Nothing
item_need items.Uid size = Nothing
item_need items.Envelope size = Front
item_need items.Rfc822Header size = Front
item_need items.Rfc822 size = Part 0 size
item_need (items.Part section partial peek) size = section_need section.parts section.kind partial size
item_need items.Body size = Whole
item_need items.BodyStructure size = Whole
item_need items.Rfc822Text size = Whole

-- a part of a text tells an item: what stands before a literal of its length, and the part
pub record IsTold (asked : item.Item) (size from to : ℕ) : Type 0 where
  pub ordered : from ≤ to
  pub within : to ≤ size
  pub told : (m : LookedAt) → length m.text ≡ size → IsItem asked m (literal_head asked (to - from) ++ slice_range m.text from to)

-- an item that needs nothing is the same over any text; one that needs the front is the same over the header alone, with the
-- empty line that ends it; one that needs a part of the text is told by it
abbrev pub IsEnough : item.Item → ℕ → Need → Type 0
IsEnough asked size Nothing = (m : LookedAt) (text bytes : List ℕ) → IsItem asked (with_text m text) bytes → IsItem asked m bytes
IsEnough asked size Front = (m : LookedAt) (bytes : List ℕ) → IsItem asked (with_text m (header_alone m.text)) bytes → IsItem asked m bytes
IsEnough asked size (Part from to) = IsTold asked size from to
IsEnough asked size Whole = Unit {0}
