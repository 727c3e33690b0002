-- A header has one envelope, and a part has one structure.
use Rattle.std.proofs.Common.{◌≡◌, ◌∙◌, ℕ, Bool, List, [], ◌∷◌, ◌++◌, Option, Some, None, refl, ap, sym, subst}
use Rattle.text_lines.specs.Lines.{header_of}
use Rattle.head_fields.specs.Fields.{readings_of}
use Rattle.addr_list.specs.Addresses.{ReadsAddresses, HasNoReading}
use Rattle.addr_list.specs.declared.address.Address.{Address}
use Rattle.addr_list.proofs.Only.{addresses-same}
use Rattle.mime_parts.specs.declared.part.Part.{Part}
use Rattle.mime_parts.specs.declared.part.Inner.{out-Inner, Leaf, Parts, Message}
use Rattle.mime_parts.specs.declared.part.Inner.TheOpen as opened
use Rattle.mime_parts.specs.declared.part.Inner.TheVariants.{rolls-Parts, rolls-Message}
use Rattle.mime_parts.specs.declared.part.Inner.TheViews.{out-roll-Inner}
use Rattle.structure_text.specs.Envelopes.{HasAddresses, no_field, read, unread, HasEnvelope, IsEnvelope, envelope_text}
use Rattle.structure_text.specs.Bodies.{IsBody, AreBodies, leaf, message, multipart, none, next, leaf_text, message_text, multipart_text, head_in}
use Rattle.structure_text.specs.declared.header.Envelope.{Envelope}

-- the addresses of a field, by whether it is there
data Listed (addresses : List Address) : Option (List ℕ) → Type 0 where
  absent : addresses ≡ [] → Listed addresses None
  present : (body : List ℕ) → ReadsAddresses body addresses → Listed addresses (Some body)
  outside : (body : List ℕ) → HasNoReading body → addresses ≡ [] → Listed addresses (Some body)

listed-of : (field : Option (List ℕ)) (addresses : List Address) → HasAddresses field addresses → Listed addresses field
listed-of _ _ no_field = absent refl
listed-of _ _ (read body addresses is) = present body is
listed-of _ _ (unread body outside_it) = outside body outside_it refl

listed-same : (x y : List Address) (field : Option (List ℕ)) → Listed x field → Listed y field → y ≡ x
listed-same x y _ (absent is) too = absent-same too
  where
    absent-same : Listed y None → y ≡ x
    absent-same (absent is_too) = is_too ∙ sym is
listed-same x y _ (present body is) too = present-same too
  where
    present-same : Listed y (Some body) → y ≡ x
    present-same (present _ is_too) = addresses-same body x y is is_too
    present-same (outside _ nothing is_too) = absurd (nothing x is)
listed-same x y _ (outside body nothing is) too = outside-same too
  where
    outside-same : Listed y (Some body) → y ≡ x
    outside-same (present _ is_too) = absurd (nothing y is_too)
    outside-same (outside _ nothing_too is_too) = is_too ∙ sym is

addresses-only : (field : Option (List ℕ)) (x y : List Address) → HasAddresses field x → HasAddresses field y → y ≡ x
addresses-only field x y is too = listed-same x y field (listed-of field x is) (listed-of field y too)

envelope-same : (fields : List (List ℕ × List ℕ)) (x y : Envelope) → HasEnvelope fields x → HasEnvelope fields y → y ≡ x
envelope-same fields x y is too =
    let date = too.date ∙ sym is.date in
    let subject = too.subject ∙ sym is.subject in
    let from = addresses-only _ _ _ is.from too.from in
    let sender = addresses-only _ _ _ is.sender too.sender in
    let reply_to = addresses-only _ _ _ is.reply_to too.reply_to in
    let to = addresses-only _ _ _ is.to too.to in
    let cc = addresses-only _ _ _ is.cc too.cc in
    let bcc = addresses-only _ _ _ is.bcc too.bcc in
    let in_reply_to = too.in_reply_to ∙ sym is.in_reply_to in
    let message_id = too.message_id ∙ sym is.message_id in
    (λ i. record {
      date = date i;
      subject = subject i;
      from = from i;
      sender = sender i;
      reply_to = reply_to i;
      to = to i;
      cc = cc i;
      bcc = bcc i;
      in_reply_to = in_reply_to i;
      message_id = message_id i;
    })

pub envelope-only : (header x y : List ℕ) → IsEnvelope header x → IsEnvelope header y → y ≡ x
envelope-only header x y is too =
    too.written ∙ ap envelope_text (envelope-same (readings_of (header_of header)) is.envelope too.envelope is.has too.has) ∙ sym is.written

-- a part holds nothing, or parts, or a message
leaf-no-message : (inner : Part) → Leaf ≡ Message inner → ⊥
leaf-no-message inner is = let apart = ap out-Inner is in cc

leaf-no-parts : (parts : List Part) → Leaf ≡ Parts parts → ⊥
leaf-no-parts parts is = let apart = ap out-Inner is in cc

parts-no-message : (parts : List Part) (inner : Part) → Parts parts ≡ Message inner → ⊥
parts-no-message parts inner is = let apart = ap out-Inner is in cc

parts-same : (xs ys : List Part) → Parts xs ≡ Parts ys → xs ≡ ys
parts-same xs ys is =
    let same : opened.Parts xs ≡ opened.Parts ys = sym (out-roll-Inner (opened.Parts xs)) ∙ ap out-Inner (rolls-Parts xs ∙ is ∙ sym (rolls-Parts ys)) ∙ out-roll-Inner (opened.Parts ys) in
    cc

message-same : (x y : Part) → Message x ≡ Message y → x ≡ y
message-same x y is =
    let same : opened.Message x ≡ opened.Message y = sym (out-roll-Inner (opened.Message x)) ∙ ap out-Inner (rolls-Message x ∙ is ∙ sym (rolls-Message y)) ∙ out-roll-Inner (opened.Message y) in
    cc

-- a part's structure, by what the part holds
record IsMessageText (text : List ℕ) (extended : Bool) (part inner : Part) (bytes : List ℕ) : Type 0 where
  envelope : List ℕ
  structure : List ℕ
  is_envelope : IsEnvelope (head_in text inner) envelope
  is_body : IsBody text extended inner structure
  written : bytes ≡ message_text extended part envelope structure

record IsPartsText (text : List ℕ) (extended : Bool) (part : Part) (parts : List Part) (bytes : List ℕ) : Type 0 where
  structures : List ℕ
  are_bodies : AreBodies text extended parts structures
  written : bytes ≡ multipart_text extended part structures

module _ (text : List ℕ) (extended : Bool) where
  of-leaf : (part : Part) (bytes : List ℕ) → IsBody text extended part bytes → part.inner ≡ Leaf → bytes ≡ leaf_text extended part
  of-leaf _ _ (leaf part is) holds = refl
  of-leaf _ _ (message part inner envelope bytes is e b) holds = absurd (leaf-no-message inner (sym holds ∙ is))
  of-leaf _ _ (multipart part parts bytes is b) holds = absurd (leaf-no-parts parts (sym holds ∙ is))

  of-message : (part : Part) (bytes : List ℕ) → IsBody text extended part bytes → (inner : Part) → part.inner ≡ Message inner → IsMessageText text extended part inner bytes
  of-message _ _ (leaf part is) inner holds = absurd (leaf-no-message inner (sym is ∙ holds))
  of-message _ _ (message part own envelope bytes is e b) inner holds =
      let same = message-same own inner (sym is ∙ holds) in
      record {
        envelope = envelope;
        structure = bytes;
        is_envelope = subst (λ p. IsEnvelope (head_in text p) envelope) same e;
        is_body = subst (λ p. IsBody text extended p bytes) same b;
        written = refl;
      }
  of-message _ _ (multipart part parts bytes is b) inner holds = absurd (parts-no-message parts inner (sym is ∙ holds))

  of-parts : (part : Part) (bytes : List ℕ) → IsBody text extended part bytes → (parts : List Part) → part.inner ≡ Parts parts → IsPartsText text extended part parts bytes
  of-parts _ _ (leaf part is) parts holds = absurd (leaf-no-parts parts (sym is ∙ holds))
  of-parts _ _ (message part inner envelope bytes is e b) parts holds = absurd (parts-no-message parts inner (sym holds ∙ is))
  of-parts _ _ (multipart part own bytes is b) parts holds =
      record { structures = bytes; are_bodies = subst (λ ps. AreBodies text extended ps bytes) (parts-same own parts (sym is ∙ holds)) b; written = refl }

  -- the structures of some parts, the first apart
  record IsNext (part : Part) (parts : List Part) (bytes : List ℕ) : Type 0 where
    first : List ℕ
    more : List ℕ
    is_first : IsBody text extended part first
    are_more : AreBodies text extended parts more
    written : bytes ≡ first ++ more

  of-none : (parts : List Part) (bytes : List ℕ) → AreBodies text extended parts bytes → parts ≡ [] → bytes ≡ []
  of-none _ _ none empty = refl
  of-none _ _ (next part parts bytes more b bs) empty = absurd (cons-nil empty)
    where
      cons-nil : {x : Part} {xs : List Part} → x ∷ xs ≡ [] → ⊥
      cons-nil is = cc

  of-next : (part : Part) (parts : List Part) (bytes : List ℕ) → AreBodies text extended (part ∷ parts) bytes → IsNext part parts bytes
  of-next _ _ _ (next part parts bytes more b bs) = record { first = bytes; more = more; is_first = b; are_more = bs; written = refl }

  mutual
    body-same : (part : Part) (x : List ℕ) → IsBody text extended part x → (y : List ℕ) → IsBody text extended part y → y ≡ x
    body-same _ _ (leaf part is) y too = of-leaf part y too is
    body-same _ _ (message part inner envelope bytes is e b) y too =
        let other = of-message part y too inner is in
        let envelopes = envelope-only (head_in text inner) envelope other.envelope e other.is_envelope in
        let structures = body-same inner bytes b other.structure other.is_body in
        other.written ∙ (λ i. message_text extended part (envelopes i) (structures i))
    body-same _ _ (multipart part parts bytes is b) y too =
        let other = of-parts part y too parts is in
        other.written ∙ ap (multipart_text extended part) (bodies-same parts bytes b other.structures other.are_bodies)

    bodies-same : (parts : List Part) (x : List ℕ) → AreBodies text extended parts x → (y : List ℕ) → AreBodies text extended parts y → y ≡ x
    bodies-same _ _ none y too = of-none [] y too refl
    bodies-same _ _ (next part parts bytes more b bs) y too =
        let other = of-next part parts y too in
        let first = body-same part bytes b other.first other.is_first in
        let rest = bodies-same parts more bs other.more other.are_more in
        other.written ∙ (λ i. first i ++ rest i)

  pub body-only : (part : Part) (x y : List ℕ) → IsBody text extended part x → IsBody text extended part y → y ≡ x
  body-only part x y is too = body-same part x is y too
