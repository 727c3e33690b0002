-- A text has one tree of parts.
use Rattle.std.proofs.Common.{◌≡◌, ◌∙◌, ◌+◌, ℕ, zero, suc, Bool, false, List, [], ◌∷◌, Option, Some, None, codes, cond, refl, ap, sym, subst}
use Rattle.std.proofs.lemmas.Option.{none-some, same_Some}
use Rattle.text_lines.specs.Lines.{header_of}
use Rattle.head_fields.specs.Fields.{readings_of}
use Rattle.head_fields.specs.Header.{body_start_of}
use Rattle.mime_parts.specs.Values.{IsMedia, IsDisposition, AreLanguages, BeginsWith}
use Rattle.mime_parts.specs.Contents.{whole_message, plain_text, HasMedia, HasEncoding, HasDisposition, HasLanguages, HasContent, media_absent, media_read, media_unread, encoding_absent, encoding_read, encoding_unread, disposition_absent, disposition_read, disposition_unread, languages_absent, languages_read, languages_unread, is_digest}
use Rattle.mime_parts.specs.Parts.{Division, several, one, no_parts, undivided, body_of, part_at, division_of, Each, IsDivided, IsDeepest, IsPart, IsStructure, IsOnlyStructure}
use Rattle.mime_parts.specs.declared.value.Media.{Media}
use Rattle.mime_parts.specs.declared.content.Content.{Content}
use Rattle.mime_parts.specs.declared.content.Disposition.{Disposition}
use Rattle.mime_parts.specs.declared.part.Part.{Part}
use Rattle.mime_parts.specs.declared.part.Inner.{Parts, Message}
use Rattle.mime_parts.proofs.Skips.{token-same}
use Rattle.mime_parts.proofs.Readings.{media-same, disposition-same, languages-same}

-- two values of a field that is there
same-value : (v : Option (List ℕ)) (a b : List ℕ) → v ≡ Some a → v ≡ Some b → b ≡ a
same-value v a b is too = same_Some b a (sym too ∙ is)

no-value : (v : Option (List ℕ)) (a : List ℕ) → v ≡ None → v ≡ Some a → ⊥
no-value v a none some = none-some a (sym none ∙ some)

-- what a field says, by its value
data Said (X : Type 0) (Reads : List ℕ → X → Type 0) (absent unread : X) : Option (List ℕ) → X → Type 0 where
  said_absent : (v : Option (List ℕ)) (x : X) → v ≡ None → x ≡ absent → Said X Reads absent unread v x
  said_read : (v : Option (List ℕ)) (text : List ℕ) (x : X) → v ≡ Some text → Reads text x → Said X Reads absent unread v x
  said_unread : (v : Option (List ℕ)) (text : List ℕ) (x : X) → v ≡ Some text → ((y : X) → Reads text y → ⊥) → x ≡ unread → Said X Reads absent unread v x

module _ (X : Type 0) (Reads : List ℕ → X → Type 0) (absent unread : X) (same : (text : List ℕ) (x y : X) → Reads text x → Reads text y → y ≡ x) where
  only-absent : (v : Option (List ℕ)) (x y : X) → v ≡ None → x ≡ absent → Said X Reads absent unread v y → y ≡ x
  only-absent _ x _ none is (said_absent v y none_too is_too) = is_too ∙ sym is
  only-absent _ x _ none is (said_read v text y some reads) = absurd (no-value v text none some)
  only-absent _ x _ none is (said_unread v text y some none_too is_too) = absurd (no-value v text none some)

  only-read : (v : Option (List ℕ)) (text : List ℕ) (x y : X) → v ≡ Some text → Reads text x → Said X Reads absent unread v y → y ≡ x
  only-read _ text x _ some reads (said_absent v y none is) = absurd (no-value v text none some)
  only-read _ text x _ some reads (said_read v later y some_too reads_too) = same text x y reads (subst (λ t. Reads t y) (same-value v text later some some_too) reads_too)
  only-read _ text x _ some reads (said_unread v later y some_too none is) = absurd (none x (subst (λ t. Reads t x) (sym (same-value v text later some some_too)) reads))

  only-unread : (v : Option (List ℕ)) (text : List ℕ) (x y : X) → v ≡ Some text → ((z : X) → Reads text z → ⊥) → x ≡ unread → Said X Reads absent unread v y → y ≡ x
  only-unread _ text x _ some none is (said_absent v y none_too is_too) = absurd (no-value v text none_too some)
  only-unread _ text x _ some none is (said_read v later y some_too reads) = absurd (none y (subst (λ t. Reads t y) (same-value v text later some some_too) reads))
  only-unread _ text x _ some none is (said_unread v later y some_too none_too is_too) = is_too ∙ sym is

  said-same : (v : Option (List ℕ)) (x y : X) → Said X Reads absent unread v x → Said X Reads absent unread v y → y ≡ x
  said-same _ _ y (said_absent v x none is) too = only-absent v x y none is too
  said-same _ _ y (said_read v text x some reads) too = only-read v text x y some reads too
  said-same _ _ y (said_unread v text x some none is) too = only-unread v text x y some none is too

-- the four fields that are read
ReadsMedia : List ℕ → Media → Type 0
ReadsMedia text media = IsMedia text media.kind media.subkind media.params

said-media : (digest : Bool) (v : Option (List ℕ)) (media : Media) → HasMedia digest v media → Said Media ReadsMedia (cond digest whole_message plain_text) plain_text v media
unfolding ReadsMedia
said-media digest _ _ media_absent = said_absent None _ refl refl
said-media digest _ _ (media_read text kind subkind params is) = said_read (Some text) text (record { kind = kind; subkind = subkind; params = params }) refl is
said-media digest _ _ (media_unread text none) = said_unread (Some text) text plain_text refl (λ media is. none media.kind media.subkind media.params is) refl

reads-media-same : (text : List ℕ) (x y : Media) → ReadsMedia text x → ReadsMedia text y → y ≡ x
unfolding ReadsMedia
reads-media-same text x y is too =
    let same = media-same text x.kind x.subkind y.kind y.subkind x.params y.params is too in (λ i. record { kind = same.0 i; subkind = same.1 i; params = same.2 i })

media-only : (digest : Bool) (v : Option (List ℕ)) (x y : Media) → HasMedia digest v x → HasMedia digest v y → y ≡ x
media-only digest v x y is too = said-same Media ReadsMedia (cond digest whole_message plain_text) plain_text reads-media-same v x y (said-media digest v x is) (said-media digest v y too)

said-encoding : (v : Option (List ℕ)) (token : List ℕ) → HasEncoding v token → Said (List ℕ) BeginsWith (codes "7BIT") (codes "7BIT") v token
said-encoding _ _ encoding_absent = said_absent None (codes "7BIT") refl refl
said-encoding _ _ (encoding_read text token is) = said_read (Some text) text token refl is
said-encoding _ _ (encoding_unread text none) = said_unread (Some text) text (codes "7BIT") refl (λ token is. none token is.rest is.is) refl

encoding-only : (v : Option (List ℕ)) (x y : List ℕ) → HasEncoding v x → HasEncoding v y → y ≡ x
encoding-only v x y is too =
    said-same (List ℕ) BeginsWith (codes "7BIT") (codes "7BIT") (λ text a b reads reads_too. (token-same text a reads.rest reads.is b reads_too.rest reads_too.is).0) v x y (said-encoding v x is) (said-encoding v y too)

ReadsDisposition : List ℕ → Option Disposition → Type 0
ReadsDisposition text None = ⊥
ReadsDisposition text (Some is) = IsDisposition text is.kind is.params

said-disposition : (v : Option (List ℕ)) (found : Option Disposition) → HasDisposition v found → Said (Option Disposition) ReadsDisposition None None v found
unfolding ReadsDisposition
said-disposition _ _ disposition_absent = said_absent None None refl refl
said-disposition _ _ (disposition_read text kind params is) = said_read (Some text) text (Some (record { kind = kind; params = params })) refl is
said-disposition _ _ (disposition_unread text none) = said_unread (Some text) text None refl (no-reading text none) refl
  where
    no-reading : (text : List ℕ) → ((kind : List ℕ) (params : List (List ℕ × List ℕ)) → IsDisposition text kind params → ⊥) → (y : Option Disposition) → ReadsDisposition text y → ⊥
    no-reading text none None reads = reads
    no-reading text none (Some is) reads = none is.kind is.params reads

reads-disposition-same : (text : List ℕ) (x y : Option Disposition) → ReadsDisposition text x → ReadsDisposition text y → y ≡ x
unfolding ReadsDisposition
reads-disposition-same text None y is too = absurd is
reads-disposition-same text (Some x) None is too = absurd too
reads-disposition-same text (Some x) (Some y) is too = let same = disposition-same text x.kind y.kind x.params y.params is too in (λ i. Some (record { kind = same.0 i; params = same.1 i }))

disposition-only : (v : Option (List ℕ)) (x y : Option Disposition) → HasDisposition v x → HasDisposition v y → y ≡ x
disposition-only v x y is too = said-same (Option Disposition) ReadsDisposition None None reads-disposition-same v x y (said-disposition v x is) (said-disposition v y too)

said-languages : (v : Option (List ℕ)) (tokens : List (List ℕ)) → HasLanguages v tokens → Said (List (List ℕ)) AreLanguages [] [] v tokens
said-languages _ _ languages_absent = said_absent None [] refl refl
said-languages _ _ (languages_read text tokens is) = said_read (Some text) text tokens refl is
said-languages _ _ (languages_unread text none) = said_unread (Some text) text [] refl none refl

languages-only : (v : Option (List ℕ)) (x y : List (List ℕ)) → HasLanguages v x → HasLanguages v y → y ≡ x
languages-only v x y is too = said-same (List (List ℕ)) AreLanguages [] [] languages-same v x y (said-languages v x is) (said-languages v y too)

-- a content
pub content-only : (digest : Bool) (fields : List (List ℕ × List ℕ)) (x y : Content) → HasContent digest fields x → HasContent digest fields y → y ≡ x
content-only digest fields x y is too =
    let media = media-only digest _ _ _ is.media too.media in
    let encoding = encoding-only _ _ _ is.encoding too.encoding in
    let disposition = disposition-only _ _ _ is.disposition too.disposition in
    let language = languages-only _ _ _ is.language too.language in
    let id = too.id ∙ sym is.id in
    let description = too.description ∙ sym is.description in
    let md5 = too.md5 ∙ sym is.md5 in
    let location = too.location ∙ sym is.location in
    (λ i. record {
      kind = (media i).kind;
      subkind = (media i).subkind;
      params = (media i).params;
      id = id i;
      description = description i;
      encoding = encoding i;
      md5 = md5 i;
      disposition = disposition i;
      language = language i;
      location = location i;
    })

-- the parts of a multipart, and a part
module _ (Is : Bool → ℕ → List ℕ → Part → Type 0) (only : (digest : Bool) (from : ℕ) (text : List ℕ) (x y : Part) → Is digest from text x → Is digest from text y → y ≡ x) where
  each-only : (digest : Bool) (places : List (ℕ × List ℕ)) (xs ys : List Part) → Each (Is digest) places xs → Each (Is digest) places ys → ys ≡ xs
  each-only digest [] [] [] is too = refl
  each-only digest [] (x ∷ xs) ys is too = absurd is
  each-only digest [] [] (y ∷ ys) is too = absurd too
  each-only digest (place ∷ places) [] ys is too = absurd is
  each-only digest (place ∷ places) (x ∷ xs) [] is too = absurd too
  each-only digest (place ∷ places) (x ∷ xs) (y ∷ ys) is too =
      let first = only digest place.0 place.1 x y is.0 too.0 in
      let rest = each-only digest places xs ys is.1 too.1 in
      (λ i. first i ∷ rest i)

  divided-only : (division : Division) (from : ℕ) (text : List ℕ) (content : Content) (x y : Part) → IsDivided Is division from text content x → IsDivided Is division from text content y → y ≡ x
  divided-only (several places) from text content x y is too =
      too.2 ∙ ap (λ parts. part_at from text content (Parts parts)) (each-only (is_digest content) places is.0 too.0 is.1 too.1) ∙ sym is.2
  divided-only one from text content x y is too =
      too.2 ∙ ap (λ inner. part_at from text content (Message inner)) (only false (from + body_start_of text) (body_of text) is.0 too.0 is.1 too.1) ∙ sym is.2
  divided-only no_parts from text content x y is too = too ∙ sym is
  divided-only undivided from text content x y is too = too ∙ sym is

deepest-only : (division : Division) (from : ℕ) (text : List ℕ) (content : Content) (x y : Part) → IsDeepest division from text content x → IsDeepest division from text content y → y ≡ x
deepest-only (several places) from text content x y is too = too ∙ sym is
deepest-only one from text content x y is too = too ∙ sym is
deepest-only no_parts from text content x y is too = too ∙ sym is
deepest-only undivided from text content x y is too = too ∙ sym is

part-only : (levels : ℕ) (digest : Bool) (from : ℕ) (text : List ℕ) (x y : Part) → IsPart levels digest from text x → IsPart levels digest from text y → y ≡ x
part-only zero digest from text x y is too =
    let same = content-only digest (readings_of (header_of text)) is.0 too.0 is.1 too.1 in
    deepest-only (division_of is.0 from text) from text is.0 x y is.2 (subst (λ c. IsDeepest (division_of c from text) from text c y) same too.2)
part-only (suc levels) digest from text x y is too =
    let same = content-only digest (readings_of (header_of text)) is.0 too.0 is.1 too.1 in
    divided-only (IsPart levels) (λ d f t a b one_is two_is. part-only levels d f t a b one_is two_is) (division_of is.0 from text) from text is.0 x y is.2
    (subst (λ c. IsDivided (IsPart levels) (division_of c from text) from text c y) same too.2)

pub structure-only : (text : List ℕ) (part : Part) → IsStructure text part → IsOnlyStructure text part
unfolding IsStructure
structure-only text part is other too = part-only 50 false 0 text part other is too
