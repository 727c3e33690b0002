-- A message has one text of an item.
use Rattle.std.proofs.Common.{◌≡◌, ◌∙◌, ℕ, Bool, true, false, List, [], ◌∷◌, ◌++◌, Option, ap, sym, subst, refl}
use Rattle.head_fields.specs.declared.span.Span.{Span}
use Rattle.head_fields.specs.Header.{header_alone}
use Rattle.mime_parts.proofs.Only.{structure-only}
use Rattle.structure_text.specs.Bodies.{IsBody}
use Rattle.structure_text.proofs.Only.{envelope-only, body-only}
use Rattle.imap_arguments.specs.declared.section.Section.{Section}
use Rattle.imap_arguments.specs.declared.section.SectionKind.{SectionKind}
use Rattle.imap_arguments.specs.declared.item.Item.{Item}
use Rattle.imap_arguments.specs.declared.item.Item.TheVariants as items
use Rattle.looked_message.specs.Messages.{LookedAt}
use Rattle.body_sections.specs.Sections.{HasSpansAt, numbered_spans}
use Rattle.body_sections.specs.Labels.{item_label}
use Rattle.body_sections.specs.Values.{IsBodyOf, IsSectionOf, section_text, IsValue}
use Rattle.body_sections.specs.Items.{IsItem, AreItems}

spans-only : (text : List ℕ) (kind : SectionKind) (parts : List ℕ) (x y : Option (List Span)) → HasSpansAt text kind parts x → HasSpansAt text kind parts y → y ≡ x
spans-only text kind [] x y is too = too ∙ sym is
spans-only text kind (n ∷ more) x y is too = too.2 ∙ ap (numbered_spans text kind (n ∷ more)) (structure-only text is.0 is.1 too.0 too.1) ∙ sym is.2

section-only : (text : List ℕ) (section : Section) (partial : Option (ℕ × ℕ)) (x y : List ℕ) → IsSectionOf text section partial x → IsSectionOf text section partial y → y ≡ x
section-only text section partial x y is too =
    too.written ∙ ap (section_text text section.kind partial) (spans-only text section.kind section.parts is.found too.found is.spans too.spans) ∙ sym is.written

structure_text-only : (text : List ℕ) (extended : Bool) (x y : List ℕ) → IsBodyOf text extended x → IsBodyOf text extended y → y ≡ x
structure_text-only text extended x y is too =
    let same = structure-only text is.part is.is_structure too.part too.is_structure in
    body-only text extended is.part x y is.is_body (subst (λ p. IsBody text extended p y) same too.is_body)

value-only : (item : Item) (m : LookedAt) (x y : List ℕ) → IsValue item m x → IsValue item m y → y ≡ x
value-only items.Flags m x y is too = too ∙ sym is
value-only items.InternalDate m x y is too = too ∙ sym is
value-only items.Size m x y is too = too ∙ sym is
value-only items.Envelope m x y is too = envelope-only (header_alone m.text) x y is too
value-only items.Body m x y is too = structure_text-only m.text false x y is too
value-only items.BodyStructure m x y is too = structure_text-only m.text true x y is too
value-only items.Uid m x y is too = too ∙ sym is
value-only items.Rfc822 m x y is too = too ∙ sym is
value-only items.Rfc822Header m x y is too = too ∙ sym is
value-only items.Rfc822Text m x y is too = too ∙ sym is
value-only (items.Part section partial peek) m x y is too = section-only m.text section partial x y is too

pub item-only : (item : Item) (m : LookedAt) (x y : List ℕ) → IsItem item m x → IsItem item m y → y ≡ x
item-only item m x y is too = too.written ∙ ap (λ value. item_label item ++ 32 ∷ value) (value-only item m is.value too.value is.is too.is) ∙ sym is.written

-- the same of several
pub items-only : (items : List Item) (m : LookedAt) (xs ys : List (List ℕ)) → AreItems items m xs → AreItems items m ys → ys ≡ xs
items-only [] m [] [] are too = refl
items-only [] m [] (y ∷ ys) are too = absurd too
items-only [] m (x ∷ xs) ys are too = absurd are
items-only (item ∷ items) m [] ys are too = absurd are
items-only (item ∷ items) m (x ∷ xs) [] are too = absurd too
items-only (item ∷ items) m (x ∷ xs) (y ∷ ys) are too =
    ap (λ t. t ∷ ys) (item-only item m x y are.0 too.0) ∙ ap (λ l. x ∷ l) (items-only items m xs ys are.1 too.1)
