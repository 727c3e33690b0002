-- What the content fields of a header say (RFC 2045, sections 5 to 8).
use Rattle.std.specs.Prelude.{◌≡◌, ℕ, Bool, List, [], ◌∷◌, ◌&&◌, if◌then◌else◌, Option, Some, None, codes}
use Rattle.std.specs.Str.{str_eq_ignore_ascii_case}
use Rattle.std.specs.Option.{option_map}
use Rattle.head_fields.specs.Folding.{unfolded}
use Rattle.mime_parts.specs.Values.{IsMedia, IsDisposition, AreLanguages, BeginsWith, IsNoMedia, IsNoDisposition, AreNoLanguages, HasNoToken}
use Rattle.mime_parts.specs.declared.value.Media.{Media}
use Rattle.mime_parts.specs.declared.content.Content.{Content}
use Rattle.mime_parts.specs.declared.content.Disposition.{Disposition}

-- the value of the first field of a name, in any letter case
abbrev pub first_value : List ℕ → List (List ℕ × List ℕ) → Option (List ℕ)
first_value name [] = None
first_value name (field ∷ more) = if str_eq_ignore_ascii_case field.0 name then Some field.1 else first_value name more

-- the unfolded value of the first field of a name
abbrev pub text_of : List ℕ → List (List ℕ × List ℕ) → Option (List ℕ)
text_of name fields = option_map unfolded (first_value name fields)

-- what counts where nothing else is said (RFC 2045, section 5.2): text/plain in US-ASCII
abbrev pub plain_text : Media
plain_text = record { kind = codes "TEXT"; subkind = codes "PLAIN"; params = (codes "CHARSET", codes "US-ASCII") ∷ [] }

-- and in a digest a message (RFC 2046, section 5.1.5)
abbrev pub whole_message : Media
whole_message = record { kind = codes "MESSAGE"; subkind = codes "RFC822"; params = [] }

-- the media type of a part, by its field and by whether it stands in a digest
pub data HasMedia (digest : Bool) : Option (List ℕ) → Media → Type 0 where
  media_absent : HasMedia digest None (if digest then whole_message else plain_text)
  media_read : (value kind subkind : List ℕ) (params : List (List ℕ × List ℕ)) → IsMedia value kind subkind params
      → HasMedia digest (Some value) (record { kind = kind; subkind = subkind; params = params })
  media_unread : (value : List ℕ) → IsNoMedia value
      → HasMedia digest (Some value) plain_text

-- the encoding: the token that its field begins with, else 7BIT (RFC 2045, section 6.1)
pub data HasEncoding : Option (List ℕ) → List ℕ → Type 0 where
  encoding_absent : HasEncoding None (codes "7BIT")
  encoding_read : (value token : List ℕ) → BeginsWith value token → HasEncoding (Some value) token
  encoding_unread : (value : List ℕ) → HasNoToken value → HasEncoding (Some value) (codes "7BIT")

pub data HasDisposition : Option (List ℕ) → Option Disposition → Type 0 where
  disposition_absent : HasDisposition None None
  disposition_read : (value kind : List ℕ) (params : List (List ℕ × List ℕ)) → IsDisposition value kind params
      → HasDisposition (Some value) (Some (record { kind = kind; params = params }))
  disposition_unread : (value : List ℕ) → IsNoDisposition value → HasDisposition (Some value) None

pub data HasLanguages : Option (List ℕ) → List (List ℕ) → Type 0 where
  languages_absent : HasLanguages None []
  languages_read : (value : List ℕ) (tokens : List (List ℕ)) → AreLanguages value tokens → HasLanguages (Some value) tokens
  languages_unread : (value : List ℕ) → AreNoLanguages value → HasLanguages (Some value) []

-- the content of a part, by the fields of its header; of each name the first field counts
pub record HasContent (digest : Bool) (fields : List (List ℕ × List ℕ)) (content : Content) : Type 0 where
  pub media : HasMedia digest (first_value (codes "Content-Type") fields) (record { kind = content.kind; subkind = content.subkind; params = content.params })
  pub encoding : HasEncoding (first_value (codes "Content-Transfer-Encoding") fields) content.encoding
  pub disposition : HasDisposition (first_value (codes "Content-Disposition") fields) content.disposition
  pub language : HasLanguages (first_value (codes "Content-Language") fields) content.language
  pub id : content.id ≡ text_of (codes "Content-ID") fields
  pub description : content.description ≡ text_of (codes "Content-Description") fields
  pub md5 : content.md5 ≡ text_of (codes "Content-MD5") fields
  pub location : content.location ≡ text_of (codes "Content-Location") fields

-- a multipart, a digest, and a message
abbrev pub is_multipart : Content → Bool
is_multipart content = str_eq_ignore_ascii_case content.kind (codes "multipart")

abbrev pub is_digest : Content → Bool
is_digest content = is_multipart content && str_eq_ignore_ascii_case content.subkind (codes "digest")

abbrev pub is_message : Content → Bool
is_message content = str_eq_ignore_ascii_case content.kind (codes "message") && str_eq_ignore_ascii_case content.subkind (codes "rfc822")

-- bytes, unless there are none
abbrev pub some_bytes : Option (List ℕ) → Option (List ℕ)
some_bytes None = None
some_bytes (Some []) = None
some_bytes (Some (byte ∷ more)) = Some (byte ∷ more)

-- the boundary of a multipart: of its parameters of that name the first, unless it is empty (RFC 2046, section 5.1.1)
abbrev pub boundary_of : Content → Option (List ℕ)
boundary_of content = some_bytes (first_value (codes "boundary") content.params)

-- a part that isn't divided is written as bytes of no known kind (RFC 2046, section 4.5.1)
abbrev pub as_bytes : Content → Content
as_bytes content = record content { kind = codes "APPLICATION"; subkind = codes "OCTET-STREAM"; params = [] }
