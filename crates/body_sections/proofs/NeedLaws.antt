-- Over what it needs an item is as over the whole text.
use Rattle.std.proofs.Common.{◌≡◌, ◌∙◌, ℕ, Bool, List, [], ◌∷◌, ◌++◌, ◌+◌, ◌-◌, ◌≤◌, min, Option, Some, None, codes, decimal, length, take, drop, refl, ap, sym, subst, slice_range, arith}
use Rattle.std.proofs.lemmas.List.{append_assoc, append-nil, take_min, drop_min, length-drop, length-take}
use Rattle.std.proofs.Math.Seq.{take-length}
use Rattle.head_fields.specs.Header.{body_start_of, header_alone}
use Rattle.head_fields.specs.declared.span.Span.{Span}
use Rattle.head_fields.proofs.HeaderAlone.{body-start_alone, take-again}
use Rattle.structure_text.specs.Strings.{literal_text}
use Rattle.structure_text.specs.Envelopes.{IsEnvelope}
use Rattle.imap_arguments.specs.declared.section.SectionKind.{SectionKind}
use Rattle.imap_arguments.specs.declared.section.SectionKind.TheVariants.{All, Header, Fields, FieldsNot, Text, Mime}
use Rattle.imap_arguments.specs.declared.item.Item as item
use Rattle.imap_arguments.specs.declared.item.Item.TheVariants as items
use Rattle.looked_message.specs.Messages.{LookedAt, with_text}
use Rattle.body_sections.specs.Sections.{span, head_span, message_spans, body_span, section_bytes, partial_of}
use Rattle.body_sections.specs.Labels.{item_label, literal_head}
use Rattle.body_sections.specs.Values.{IsValue, section_text}
use Rattle.body_sections.specs.Items.{IsItem}
use Rattle.body_sections.specs.Needs.{IsEnough, section_need, item_need}
use Rattle.body_sections.proofs.Fronts.{same-head, same-fields}

-- the header of the header alone
alone-again : (text : List ℕ) → header_alone (header_alone text) ≡ header_alone text
alone-again text = ap (λ n. take n (header_alone text)) (body-start_alone text) ∙ take-again (body_start_of text) text

-- what has the value of another message has its text
as-value : (asked : item.Item) (m other : LookedAt) (bytes : List ℕ) → ((value : List ℕ) → IsValue asked m value → IsValue asked other value) → IsItem asked m bytes → IsItem asked other bytes
as-value asked m other bytes turn is = record { value = is.value; is = turn is.value is.is; written = is.written }

-- ---- Parts of the text

-- a literal behind a label is the literal's head and its bytes
literal-joined : (label bytes : List ℕ) (count : ℕ) → length bytes ≡ count → (label ++ (codes " {" ++ (decimal count ++ codes "}\r\n"))) ++ bytes ≡ label ++ 32 ∷ literal_text bytes
literal-joined label bytes count long = rw (← long) (joined label bytes (decimal (length bytes)))
  where
    joined : (label bytes digits : List ℕ) → (label ++ (codes " {" ++ (digits ++ codes "}\r\n"))) ++ bytes ≡ label ++ 32 ∷ (codes "{" ++ digits ++ codes "}\r\n" ++ bytes)
    joined label bytes digits = simp append_assoc

-- the whole text as a slice
whole-slice : (text : List ℕ) (size : ℕ) → length text ≡ size → slice_range text 0 size ≡ text
whole-slice text size long = ap (λ n. take n text) (less size ∙ sym long) ∙ take-length text
  where
    less : (n : ℕ) → n - 0 ≡ n
    less n = omega arith

slice-length : (text : List ℕ) (from to size : ℕ) → length text ≡ size → to ≤ size → length (slice_range text from to) ≡ to - from
slice-length text from to size long inside =
    let cut = length-take (to - from) (drop from text) in
    let left = length-drop from text in
    omega (arith, cut, left, long, inside)

-- a partial of a text by where it begins and ends
partial-slice : (text : List ℕ) (offset count size : ℕ) → length text ≡ size → take count (drop offset text) ≡ slice_range text (min offset size) (min (offset + count) size)
partial-slice text offset count size long =
    let rest = drop (min offset size) text in
    let begins : drop offset text ≡ rest = sym (ap (λ n. drop (min offset n) text) (sym long) ∙ drop_min offset text) in
    let left = length-drop (min offset size) text in
    let ends : min count (length rest) ≡ min (offset + count) size - min offset size = omega (arith, left, long) in
    ap (take count) begins ∙ sym (take_min count rest) ∙ ap (λ n. take n rest) ends

-- the section of the whole message, perhaps a part of it
whole-section : (m : LookedAt) (partial : Option (ℕ × ℕ)) (peek : Bool) (bytes : List ℕ) (count : ℕ) → partial_of partial m.text ≡ bytes → length bytes ≡ count
    → IsItem (items.Part (record { parts = []; kind = All }) partial peek) m (literal_head (items.Part (record { parts = []; kind = All }) partial peek) count ++ bytes)
whole-section m partial peek bytes count same long =
    let all : section_bytes m.text All (span 0 (length m.text) ∷ []) ≡ m.text = append-nil _ ∙ append-nil _ ∙ whole-slice m.text (length m.text) refl in
    record {
      value = literal_text bytes;
      is = record { found = Some (span 0 (length m.text) ∷ []); spans = refl; written = ap literal_text (sym (ap (partial_of partial) all ∙ same)) };
      written = literal-joined (item_label (items.Part (record { parts = []; kind = All }) partial peek)) bytes count long;
    }

-- ---- Fronts

-- a section of the message over the header alone
front-section : (m : LookedAt) (kind : SectionKind) (partial : Option (ℕ × ℕ)) (peek : Bool) (bytes : List ℕ) (alone whole : List Span)
    → message_spans (header_alone m.text) kind (head_span (header_alone m.text)) (body_span (header_alone m.text)) ≡ Some alone
    → message_spans m.text kind (head_span m.text) (body_span m.text) ≡ Some whole
    → section_bytes (header_alone m.text) kind alone ≡ section_bytes m.text kind whole
    → IsItem (items.Part (record { parts = []; kind = kind }) partial peek) (with_text m (header_alone m.text)) bytes → IsItem (items.Part (record { parts = []; kind = kind }) partial peek) m bytes
front-section m kind partial peek bytes alone whole alone_is whole_is same =
    as-value (items.Part (record { parts = []; kind = kind }) partial peek) (with_text m (header_alone m.text)) m bytes
    (λ value is. record {
      found = Some whole;
      spans = sym whole_is;
      written = is.written ∙ ap (section_text (header_alone m.text) kind partial) (is.spans ∙ alone_is) ∙ ap (λ b. literal_text (partial_of partial b)) same;
    })

section-enough : (parts : List ℕ) (kind : SectionKind) (partial : Option (ℕ × ℕ)) (peek : Bool) (size : ℕ) → IsEnough (items.Part (record { parts = parts; kind = kind }) partial peek) size (section_need parts kind partial size)
section-enough (n ∷ more) kind partial peek size = tt
section-enough [] Text partial peek size = tt
section-enough [] Mime partial peek size = tt
section-enough [] All None peek size = record {
  ordered = omega arith;
  within = omega arith;
  told = λ m long. whole-section m None peek (slice_range m.text 0 size) (size - 0) (sym (whole-slice m.text size long)) (slice-length m.text 0 size size long (omega arith));
}
section-enough [] All (Some (offset, count)) peek size =
    let from = min offset size in
    let to = min (offset + count) size in
    record {
      ordered = omega arith;
      within = omega arith;
      told = λ m long. whole-section m (Some (offset, count)) peek (slice_range m.text from to) (to - from) (partial-slice m.text offset count size long) (slice-length m.text from to size long (omega arith));
    }
section-enough [] Header partial peek size = λ m bytes is. front-section m Header partial peek bytes _ _ refl refl (ap (λ b. (b ++ []) ++ []) (same-head m.text)) is
section-enough [] (Fields names) partial peek size = λ m bytes is.
    front-section m (Fields names) partial peek bytes _ _ refl refl (ap (λ b. b ++ codes "\r\n") (same-fields m.text (Fields names))) is
section-enough [] (FieldsNot names) partial peek size = λ m bytes is.
    front-section m (FieldsNot names) partial peek bytes _ _ refl refl (ap (λ b. b ++ codes "\r\n") (same-fields m.text (FieldsNot names))) is

pub is-enough : (asked : item.Item) (size : ℕ) → IsEnough asked size (item_need asked size)
is-enough items.Flags size = λ m text bytes is. as-value items.Flags (with_text m text) m bytes (λ value same. same) is
is-enough items.InternalDate size = λ m text bytes is. as-value items.InternalDate (with_text m text) m bytes (λ value same. same) is
is-enough items.Size size = λ m text bytes is. as-value items.Size (with_text m text) m bytes (λ value same. same) is
is-enough items.Uid size = λ m text bytes is. as-value items.Uid (with_text m text) m bytes (λ value same. same) is
is-enough items.Envelope size = λ m bytes is.
    as-value items.Envelope (with_text m (header_alone m.text)) m bytes (λ value same. subst (λ h. IsEnvelope h value) (alone-again m.text) same) is
is-enough items.Rfc822Header size = λ m bytes is.
    as-value items.Rfc822Header (with_text m (header_alone m.text)) m bytes (λ value same. same ∙ ap literal_text (alone-again m.text)) is
is-enough items.Rfc822 size = record {
  ordered = omega arith;
  within = omega arith;
  told = λ m long. record {
    value = literal_text m.text;
    is = refl;
    written = ap (λ t. literal_head items.Rfc822 (size - 0) ++ t) (whole-slice m.text size long) ∙ literal-joined (item_label items.Rfc822) m.text (size - 0) (omega (arith, long));
  };
}
is-enough items.Body size = tt
is-enough items.BodyStructure size = tt
is-enough items.Rfc822Text size = tt
is-enough (items.Part section partial peek) size = section-enough section.parts section.kind partial peek size
