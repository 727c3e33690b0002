-- What a part holds, by its variant, and what its structure tells of sections.
use Rattle.std.proofs.Common.{◌≡◌, ◌∙◌, ◌<◌, ℕ, List, [], ◌∷◌, Option, ap, sym, arith, length}
use Rattle.head_fields.specs.declared.span.Span.{Span}
use Rattle.mime_parts.specs.Parts.{IsStructure}
use Rattle.mime_parts.specs.declared.part.Part.{Part}
use Rattle.mime_parts.specs.declared.part.Inner.{out-Inner, Leaf, Parts, Message}
use Rattle.mime_parts.specs.declared.part.Inner.TheOpen as opened
use Rattle.mime_parts.specs.declared.part.Inner.TheVariants.{rolls-Leaf, rolls-Parts, rolls-Message}
use Rattle.mime_parts.specs.declared.part.Inner.TheViews.{out-roll-Inner}
use Rattle.imap_arguments.specs.declared.section.SectionKind.{SectionKind}
use Rattle.body_sections.specs.PartNumbers.{held}
use Rattle.body_sections.specs.Sections.{numbered_spans, HasSpansAt}

pub held_parts : (part : Part) (parts : List Part) → part.inner ≡ Parts parts → held part ≡ opened.Parts parts
held_parts part parts is = ap out-Inner (is ∙ sym (rolls-Parts parts)) ∙ out-roll-Inner (opened.Parts parts)

pub held_message : (part inner : Part) → part.inner ≡ Message inner → held part ≡ opened.Message inner
held_message part inner is = ap out-Inner (is ∙ sym (rolls-Message inner)) ∙ out-roll-Inner (opened.Message inner)

pub held_leaf : (part : Part) → part.inner ≡ Leaf → held part ≡ opened.Leaf
held_leaf part is = ap out-Inner (is ∙ sym rolls-Leaf) ∙ out-roll-Inner opened.Leaf

-- where a section with part numbers stands, by the structure of the text
pub numbered_has : (text : List ℕ) (kind : SectionKind) (parts : List ℕ) (part : Part) (found : Option (List Span)) → 0 < length parts → IsStructure text part
    → found ≡ numbered_spans text kind parts part → HasSpansAt text kind parts found
numbered_has text kind [] part found some is same = absurd (omega (arith, some))
numbered_has text kind (n ∷ more) part found some is same = (part, is, same)
