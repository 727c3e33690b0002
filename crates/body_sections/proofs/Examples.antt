-- The definitions, computed on small values.
use Rattle.std.proofs.Common.{◌≡◌, ◌∙◌, ℕ, true, false, List, [], ◌∷◌, Some, None, codes, ap, refl}
use Rattle.std.specs.Fmt.{digits}
use Rattle.text_lines.specs.Lines.{line_len, lines_from}
use Rattle.mime_parts.specs.declared.part.Part.{Part}
use Rattle.mime_parts.specs.declared.part.Inner.{Inner, Leaf, Parts, Message}
use Rattle.structure_text.specs.Strings.{string_text}
use Rattle.imap_arguments.specs.declared.section.SectionKind.{SectionKind}
use Rattle.imap_arguments.specs.declared.section.SectionKind.TheVariants.{All, Header, Fields, FieldsNot, Text, Mime}
use Rattle.imap_arguments.specs.declared.item.Item.TheVariants as items
use Rattle.body_sections.specs.PartNumbers.{parts_in, inner_parts_in, part_behind, part_of}
use Rattle.body_sections.specs.Sections.{message_spans, head_span, body_span, partial_of, span}
use Rattle.body_sections.specs.Labels.{item_label, literal_head, field_text}
use Rattle.body_sections.specs.Values.{section_text}
use Rattle.looked_message.specs.Messages.{names_of}
use Rattle.body_sections.specs.Needs.{item_need}
use Rattle.body_sections.specs.declared.needs.Need.TheVariants as needs
use Rattle.body_sections.proofs.Held.{held_parts, held_message, held_leaf}

-- ---- Names

label-example : item_label (items.Part (record { parts = 1 ∷ 2 ∷ []; kind = Header }) (Some (5, 9)) true) ≡ codes "BODY[1.2.HEADER]<5>"
unfolding digits
label-example = refl

fields-label_example : item_label (items.Part (record { parts = 3 ∷ []; kind = FieldsNot (codes "To" ∷ codes "a b" ∷ []) }) None false) ≡ codes "BODY[3.HEADER.FIELDS.NOT (To \"a b\")]"
unfolding field_text string_text digits
fields-label_example = refl

head-example : literal_head items.Rfc822 12 ≡ codes "RFC822 {12}\r\n"
unfolding digits
head-example = refl

-- ---- Sections of a message, as a client is told them

abbrev told : List ℕ → SectionKind → List ℕ
told text kind = section_text text kind None (message_spans text kind (head_span text) (body_span text))

-- a header of three fields: the first on one line, the second on two with a line end of its own, the last without a line end
named-example : told (codes "A : 1\nb:2\n\t3\r\r\nC:") (Fields (codes "B" ∷ codes "x" ∷ [])) ≡ codes "{11}\r\nb:2\n\t3\r\r\n\r\n"
unfolding lines_from line_len digits
named-example = refl

last-example : told (codes "A : 1\nb:2\nC:") (FieldsNot (codes "B" ∷ [])) ≡ codes "{10}\r\nA : 1\nC:\r\n"
unfolding lines_from line_len digits
last-example = refl

-- without such a field the empty line alone
none-example : told (codes "A:1\n\nb") (Fields (codes "B" ∷ [])) ≡ codes "{2}\r\n\r\n"
unfolding lines_from line_len digits
none-example = refl

header-example : told (codes "A:\n\r\nx") Header ≡ codes "{5}\r\nA:\n\r\n"
unfolding lines_from line_len digits
header-example = refl

text-example : told (codes "A:\n\r\nx") Text ≡ codes "{1}\r\nx"
unfolding lines_from line_len digits
text-example = refl

-- a text that is there and empty
empty-example : told (codes "A:\n") Text ≡ codes "{0}\r\n"
unfolding lines_from line_len digits
empty-example = refl

mime-example : told (codes "A:\n") Mime ≡ codes "NIL"
mime-example = refl

over-example : partial_of (Some (2, 5)) (codes "abc") ≡ codes "c"
over-example = refl

past-example : section_text (codes "abc") All (Some (7, 5)) (Some (span 0 3 ∷ [])) ≡ codes "{0}\r\n"
unfolding digits
past-example = refl

keywords-example : names_of 5 (codes "Work" ∷ codes "Junk" ∷ codes "x" ∷ []) ≡ codes "Work" ∷ codes "x" ∷ []
keywords-example = refl

-- ---- Part numbers

-- a part of this header that holds this
some : ℕ → Inner → Part
some n inner = record {
  head = span 0 n;
  body = span n 9;
  lines = 0;
  content = record { kind = []; subkind = []; params = []; id = None; description = None; encoding = []; md5 = None; disposition = None; language = []; location = None };
  inner = inner;
}

leaf : ℕ → Part
leaf n = some n Leaf

-- a leaf, a multipart of a leaf, and a message that is a leaf
second : Part
second = some 2 (Parts (leaf 5 ∷ []))

third : Part
third = some 3 (Message (leaf 6))

abbrev three : List Part
three = leaf 1 ∷ second ∷ third ∷ []

tree : Part
tree = some 4 (Parts three)

from-tree : (numbers : List ℕ) → part_of numbers tree ≡ part_behind numbers three tree
unfolding tree some
from-tree numbers = ap (λ h. part_behind numbers (parts_in h tree) tree) (held_parts tree three refl)

first-example : part_of (1 ∷ []) tree ≡ Some (leaf 1)
first-example = from-tree (1 ∷ [])

past-part_example : part_of (4 ∷ []) tree ≡ None
past-part_example = from-tree (4 ∷ [])

through-leaf_example : part_of (1 ∷ 1 ∷ []) tree ≡ None
unfolding leaf some
through-leaf_example = from-tree (1 ∷ 1 ∷ []) ∙ ap (λ h. part_behind (1 ∷ []) (inner_parts_in h) (leaf 1)) (held_leaf (leaf 1) refl)

inner-example : part_of (2 ∷ 1 ∷ []) tree ≡ Some (leaf 5)
unfolding second some
inner-example = from-tree (2 ∷ 1 ∷ []) ∙ ap (λ h. part_behind (1 ∷ []) (inner_parts_in h) second) (held_parts second (leaf 5 ∷ []) refl)

-- a message that isn't multipart has one part, itself
message-example : part_of (3 ∷ 1 ∷ []) tree ≡ Some (leaf 6)
unfolding third leaf some
message-example =
    from-tree (3 ∷ 1 ∷ []) ∙ ap (λ h. part_behind (1 ∷ []) (inner_parts_in h) third) (held_message third (leaf 6) refl)
    ∙ ap (λ h. part_behind (1 ∷ []) (parts_in h (leaf 6)) third) (held_leaf (leaf 6) refl)

-- ---- Needs

need-example : item_need (items.Part (record { parts = []; kind = All }) (Some (3, 5)) true) 6 ≡ needs.Part 3 6
need-example = refl

front-example : item_need (items.Part (record { parts = []; kind = Fields [] }) None true) 6 ≡ needs.Front
front-example = refl
