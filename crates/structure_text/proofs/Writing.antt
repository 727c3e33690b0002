-- A part's structure, by what is written one after the other.
use Rattle.std.proofs.Common.{◌≡◌, ◌∙◌, ◌+◌, ◌<◌, ℕ, Bool, List, [], ◌∷◌, ◌++◌, codes, decimal, length, take, get_or, ap, sym, subst, Result, Ok, Err, OnOk}
use Rattle.std.proofs.Math.Seq.{take-add}
use Rattle.std.proofs.lemmas.List.{append_assoc, append-nil, drop_more}
use Rattle.mime_parts.specs.declared.part.Part.{Part}
use Rattle.mime_parts.specs.declared.part.Inner.{Leaf, Parts, Message}
use Rattle.structure_text.specs.Strings.{word_text, after_spaces, listed}
use Rattle.structure_text.specs.Envelopes.{IsEnvelope}
use Rattle.structure_text.specs.Appending.{Appends}
use Rattle.structure_text.specs.Bodies.{IsBody, AreBodies, leaf, message, multipart, none, next, leaf_fields, leaf_text, leaf_extension, message_text, multipart_text, multipart_extension, head_in}
use Rattle.structure_text.proofs.Lists.{listed_front}

module _ (text : List ℕ) (extended : Bool) (part : Part) (old end : List ℕ) where
  pub leaf-written : part.inner ≡ Leaf → end ≡ old ++ leaf_text extended part → Appends (IsBody text extended part) old end
  leaf-written is written = record { bytes = leaf_text extended part; is = leaf part is; behind = written }

  multipart-joined : (bytes begun middle : List ℕ) → begun ≡ old ++ 40 ∷ [] → middle ≡ begun ++ bytes
      → end ≡ middle ++ (after_spaces (word_text part.content.subkind ∷ multipart_extension extended part.content) ++ codes ")") → end ≡ old ++ multipart_text extended part bytes
  unfolding multipart_text
  multipart-joined bytes begun middle begins goes_on ends =
      let rest = after_spaces (word_text part.content.subkind ∷ multipart_extension extended part.content) ++ codes ")" in
      ends ∙ ap (λ t. t ++ rest) (goes_on ∙ ap (λ t. t ++ bytes) begins) ∙ append_assoc (old ++ 40 ∷ []) bytes rest ∙ append_assoc old (40 ∷ []) (bytes ++ rest)

  pub multipart-written : (parts : List Part) (begun middle : List ℕ) → part.inner ≡ Parts parts → begun ≡ old ++ 40 ∷ [] → Appends (AreBodies text extended parts) begun middle
      → end ≡ middle ++ (after_spaces (word_text part.content.subkind ∷ multipart_extension extended part.content) ++ codes ")") → Appends (IsBody text extended part) old end
  multipart-written parts begun middle is begins bodies ends =
      record { bytes = multipart_text extended part bodies.bytes; is = multipart part parts bodies.bytes is bodies.is; behind = multipart-joined bodies.bytes begun middle begins bodies.behind ends }

  regroup : (old first e b last : List ℕ) → ((((((old ++ first) ++ 32 ∷ []) ++ e) ++ 32 ∷ []) ++ b) ++ last) ≡ old ++ (first ++ 32 ∷ (e ++ 32 ∷ (b ++ last)))
  regroup old first e b last = simp append_assoc

  message-joined : (e b front begun enveloped between middle : List ℕ)
      → front ≡ old ++ (codes "(" ++ (word_text part.content.kind ++ after_spaces (leaf_fields part))) → begun ≡ front ++ 32 ∷ [] → enveloped ≡ begun ++ e
      → between ≡ enveloped ++ 32 ∷ [] → middle ≡ between ++ b
      → end ≡ middle ++ (after_spaces (decimal part.lines ∷ leaf_extension extended part.content) ++ codes ")") → end ≡ old ++ message_text extended part e b
  unfolding message_text
  message-joined e b front begun enveloped between middle front_is begins envelope spaced body ends =
      let first = codes "(" ++ (word_text part.content.kind ++ after_spaces (leaf_fields part)) in
      let last = after_spaces (decimal part.lines ∷ leaf_extension extended part.content) ++ codes ")" in
      let until_envelope : enveloped ≡ ((old ++ first) ++ 32 ∷ []) ++ e = envelope ∙ ap (λ t. t ++ e) (begins ∙ ap (λ t. t ++ 32 ∷ []) front_is) in
      let until_body : middle ≡ ((((old ++ first) ++ 32 ∷ []) ++ e) ++ 32 ∷ []) ++ b = body ∙ ap (λ t. t ++ b) (spaced ∙ ap (λ t. t ++ 32 ∷ []) until_envelope) in
      let values : listed (word_text part.content.kind ∷ leaf_fields part ++ e ∷ b ∷ decimal part.lines ∷ leaf_extension extended part.content) ≡ first ++ 32 ∷ (e ++ 32 ∷ (b ++ last)) =
      listed_front (word_text part.content.kind) (leaf_fields part) (e ∷ b ∷ decimal part.lines ∷ leaf_extension extended part.content)
      ∙ ap (λ t. first ++ t) (spread e b (after_spaces (decimal part.lines ∷ leaf_extension extended part.content)) (codes ")")) in
      ends ∙ ap (λ t. t ++ last) until_body ∙ regroup old first e b last ∙ ap (λ t. old ++ t) (sym values)
    where
      spread : (e b r q : List ℕ) → (32 ∷ (e ++ 32 ∷ (b ++ r))) ++ q ≡ 32 ∷ (e ++ 32 ∷ (b ++ (r ++ q)))
      spread e b r q = simp append_assoc

  pub message-written : (inner : Part) (front begun enveloped between middle : List ℕ) → part.inner ≡ Message inner
      → front ≡ old ++ (codes "(" ++ (word_text part.content.kind ++ after_spaces (leaf_fields part))) → begun ≡ front ++ 32 ∷ [] → Appends (IsEnvelope (head_in text inner)) begun enveloped
      → between ≡ enveloped ++ 32 ∷ [] → Appends (IsBody text extended inner) between middle
      → end ≡ middle ++ (after_spaces (decimal part.lines ∷ leaf_extension extended part.content) ++ codes ")") → Appends (IsBody text extended part) old end
  message-written inner front begun enveloped between middle is front_is begins envelope spaced body ends =
      record {
        bytes = message_text extended part envelope.bytes body.bytes;
        is = message part inner envelope.bytes body.bytes is envelope.is body.is;
        behind = message-joined envelope.bytes body.bytes front begun enveloped between middle front_is begins envelope.behind spaced body.behind ends;
      }

-- a fact behind a call that succeeded
pub ok-then : {T E : Type 0} (P Q : Type 0) (result : Result T E) → (P → Q) → OnOk result P → OnOk result Q
ok-then P Q (Ok x) turn says = turn says
ok-then P Q (Err e) turn says = tt

-- a part more
module _ (text : List ℕ) (extended : Bool) where
  bodies-next : (parts : List Part) (bytes : List ℕ) → AreBodies text extended parts bytes → (part : Part) (more : List ℕ) → IsBody text extended part more → AreBodies text extended (parts ++ part ∷ []) (bytes ++ more)
  bodies-next _ _ none part more is = subst (AreBodies text extended (part ∷ [])) (append-nil more) (next part [] more [] is none)
  bodies-next _ _ (next first parts bytes later b bs) part more is =
      subst (AreBodies text extended (first ∷ parts ++ part ∷ [])) (sym (append_assoc bytes later more)) (next first (parts ++ part ∷ []) bytes (later ++ more) b (bodies-next parts later bs part more is))

  pub bodies-begin : (old : List ℕ) → Appends (AreBodies text extended []) old old
  bodies-begin old = record { bytes = []; is = none; behind = sym (append-nil old) }

  pub bodies-more : (parts : List Part) (at : ℕ) (d : Part) (old middle end : List ℕ) → at < length parts → Appends (AreBodies text extended (take at parts)) old middle
      → Appends (IsBody text extended (get_or parts at d)) middle end → Appends (AreBodies text extended (take (at + 1) parts)) old end
  bodies-more parts at d old middle end inside done more =
      let part = get_or parts at d in
      let taken : take (at + 1) parts ≡ take at parts ++ part ∷ [] = take-add at 1 parts ∙ ap (λ s. take at parts ++ take 1 s) (drop_more parts at d inside) in
      record {
        bytes = done.bytes ++ more.bytes;
        is = subst (λ ps. AreBodies text extended ps (done.bytes ++ more.bytes)) (sym taken) (bodies-next (take at parts) done.bytes done.is part more.bytes more.is);
        behind = more.behind ∙ ap (λ t. t ++ more.bytes) done.behind ∙ append_assoc old done.bytes more.bytes;
      }
