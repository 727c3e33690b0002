-- What the first field of a name says.
use Rattle.std.proofs.Common.{◌≡◌, ◌∙◌, ℕ, ◌+◌, ◌<◌, Bool, true, false, List, [], Option, Some, None, length, drop, map, get_or, codes, ap, sym, subst}
use Rattle.std.specs.Str.{str_eq_ignore_ascii_case}
use Rattle.std.proofs.lemmas.Bool.{cond-true, cond-false}
use Rattle.std.proofs.lemmas.List.{drop_more}
use Rattle.head_fields.specs.Fields.{reading_in}
use Rattle.head_fields.specs.declared.field.Field.{Field}
use Rattle.mime_parts.specs.Values.{IsMedia, IsNoMedia, IsDisposition, IsNoDisposition, AreLanguages, AreNoLanguages, BeginsWith, HasNoToken}
use Rattle.mime_parts.specs.Contents.{first_value, whole_message, plain_text, HasMedia, HasEncoding, HasDisposition, HasLanguages, media_absent, media_read, media_unread, encoding_absent, encoding_read, encoding_unread, disposition_absent, disposition_read, disposition_unread, languages_absent, languages_read, languages_unread}
use Rattle.mime_parts.specs.declared.value.Media.{Media}
use Rattle.mime_parts.specs.declared.content.Disposition.{Disposition}

module _ (name text : List ℕ) (fields : List Field) (at : ℕ) (d : Field) (inside : at < length fields) where
  pub first-here : str_eq_ignore_ascii_case (reading_in text (get_or fields at d)).0 name ≡ true → first_value name (map (reading_in text) (drop at fields)) ≡ Some (reading_in text (get_or fields at d)).1
  first-here is = ap (λ fs. first_value name (map (reading_in text) fs)) (drop_more fields at d inside) ∙ cond-true (str_eq_ignore_ascii_case (reading_in text (get_or fields at d)).0 name) _ _ is

  pub first-later : str_eq_ignore_ascii_case (reading_in text (get_or fields at d)).0 name ≡ false
      → first_value name (map (reading_in text) (drop at fields)) ≡ first_value name (map (reading_in text) (drop (at + 1) fields))
  first-later is = ap (λ fs. first_value name (map (reading_in text) fs)) (drop_more fields at d inside) ∙ cond-false (str_eq_ignore_ascii_case (reading_in text (get_or fields at d)).0 name) _ _ is

-- a media type
module _ (digest : Bool) (value : Option (List ℕ)) (media : Media) where
  pub media-digest : value ≡ None → digest ≡ true → media ≡ whole_message → HasMedia digest value media
  media-digest none is same =
      subst (λ v. HasMedia digest v media) (sym none) (subst (λ m. HasMedia digest None m) (cond-true digest whole_message plain_text is ∙ sym same) media_absent)

  pub media-plain : value ≡ None → digest ≡ false → media ≡ plain_text → HasMedia digest value media
  media-plain none is same =
      subst (λ v. HasMedia digest v media) (sym none) (subst (λ m. HasMedia digest None m) (cond-false digest whole_message plain_text is ∙ sym same) media_absent)

  pub media-read : (text : List ℕ) → value ≡ Some text → IsMedia text media.kind media.subkind media.params → HasMedia digest value media
  media-read text some is = subst (λ v. HasMedia digest v media) (sym some) (media_read text media.kind media.subkind media.params is)

  pub media-unread : (text : List ℕ) → value ≡ Some text → IsNoMedia text → media ≡ plain_text → HasMedia digest value media
  media-unread text some is same = subst (λ v. HasMedia digest v media) (sym some) (subst (λ m. HasMedia digest (Some text) m) (sym same) (media_unread text is))

-- the other fields
module _ (value : Option (List ℕ)) where
  module _ (token : List ℕ) where
    pub encoding-absent : value ≡ None → token ≡ codes "7BIT" → HasEncoding value token
    encoding-absent none same = subst (λ v. HasEncoding v token) (sym none) (subst (λ t. HasEncoding None t) (sym same) encoding_absent)

    pub encoding-read : (text : List ℕ) → value ≡ Some text → BeginsWith text token → HasEncoding value token
    encoding-read text some is = subst (λ v. HasEncoding v token) (sym some) (encoding_read text token is)

    pub encoding-unread : (text : List ℕ) → value ≡ Some text → HasNoToken text → token ≡ codes "7BIT" → HasEncoding value token
    encoding-unread text some is same = subst (λ v. HasEncoding v token) (sym some) (subst (λ t. HasEncoding (Some text) t) (sym same) (encoding_unread text is))

  pub disposition-absent : value ≡ None → HasDisposition value None
  disposition-absent none = subst (λ v. HasDisposition v None) (sym none) disposition_absent

  pub disposition-read : (text : List ℕ) (is : Disposition) → value ≡ Some text → IsDisposition text is.kind is.params → HasDisposition value (Some is)
  disposition-read text is some reads = subst (λ v. HasDisposition v (Some is)) (sym some) (disposition_read text is.kind is.params reads)

  pub disposition-unread : (text : List ℕ) → value ≡ Some text → IsNoDisposition text → HasDisposition value None
  disposition-unread text some none = subst (λ v. HasDisposition v None) (sym some) (disposition_unread text none)

  module _ (tokens : List (List ℕ)) where
    pub languages-absent : value ≡ None → tokens ≡ [] → HasLanguages value tokens
    languages-absent none same = subst (λ v. HasLanguages v tokens) (sym none) (subst (λ t. HasLanguages None t) (sym same) languages_absent)

    pub languages-read : (text : List ℕ) → value ≡ Some text → AreLanguages text tokens → HasLanguages value tokens
    languages-read text some is = subst (λ v. HasLanguages v tokens) (sym some) (languages_read text tokens is)

    pub languages-unread : (text : List ℕ) → value ≡ Some text → AreNoLanguages text → tokens ≡ [] → HasLanguages value tokens
    languages-unread text some is same = subst (λ v. HasLanguages v tokens) (sym some) (subst (λ t. HasLanguages (Some text) t) (sym same) (languages_unread text is))
