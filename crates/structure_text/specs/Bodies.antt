-- The structure of a message's body (RFC 3501, section 7.4.2; `body` of its section 9).
use Rattle.std.specs.Prelude.{◌≡◌, ℕ, Bool, List, [], ◌∷◌, ◌++◌, ◌-◌, if◌then◌else◌, Option, Some, None, codes, decimal, map, slice_range}
use Rattle.std.specs.Str.{str_eq_ignore_ascii_case}
use Rattle.mime_parts.specs.declared.content.Content.{Content}
use Rattle.mime_parts.specs.declared.content.Disposition.{Disposition}
use Rattle.mime_parts.specs.declared.part.Part.{Part}
use Rattle.mime_parts.specs.declared.part.Inner.{Leaf, Parts, Message}
use Rattle.structure_text.specs.Strings.{string_text, nstring_text, word_text, nil, listed}
use Rattle.structure_text.specs.Envelopes.{IsEnvelope}

-- a parameter: its name in upper case, and its value
abbrev pub param_text : List ℕ × List ℕ → List ℕ
param_text param = word_text param.0 ++ 32 ∷ string_text param.1

unfoldable pub params_text : List (List ℕ × List ℕ) → List ℕ
params_text [] = nil
params_text (param ∷ more) = listed (map param_text (param ∷ more))

-- a disposition: its kind in upper case, and its parameters
unfoldable pub disposition_text : Option Disposition → List ℕ
disposition_text None = nil
disposition_text (Some d) = listed (word_text d.kind ∷ params_text d.params ∷ [])

-- languages: none, one as a string, or several in parentheses
unfoldable pub languages_text : List (List ℕ) → List ℕ
languages_text [] = nil
languages_text (language ∷ []) = string_text language
languages_text (language ∷ next ∷ more) = listed (map string_text (language ∷ next ∷ more))

-- disposition, languages and location
abbrev pub last_fields : Content → List (List ℕ)
last_fields content = disposition_text content.disposition ∷ languages_text content.language ∷ nstring_text content.location ∷ []

-- what BODYSTRUCTURE has behind what BODY has: of a part that is no multipart, and of a multipart
abbrev pub leaf_extension : Bool → Content → List (List ℕ)
leaf_extension extended content = if extended then nstring_text content.md5 ∷ last_fields content else []

abbrev pub multipart_extension : Bool → Content → List (List ℕ)
multipart_extension extended content = if extended then params_text content.params ∷ last_fields content else []

-- subtype and parameters
abbrev pub type_fields : Content → List (List ℕ)
type_fields content = word_text content.subkind ∷ params_text content.params ∷ []

-- identifier, description, encoding and size
abbrev pub description_fields : Part → List (List ℕ)
description_fields part =
    nstring_text part.content.id ∷ nstring_text part.content.description ∷ word_text part.content.encoding ∷ decimal (part.body.to - part.body.from) ∷ []

-- what each part that is no multipart has behind its type
unfoldable pub leaf_fields : Part → List (List ℕ)
leaf_fields part = type_fields part.content ++ description_fields part

-- a text has the count of its lines
abbrev pub lines_text : Part → List (List ℕ)
lines_text part = if str_eq_ignore_ascii_case part.content.kind (codes "text") then decimal part.lines ∷ [] else []

-- a part that holds none
unfoldable pub leaf_text : Bool → Part → List ℕ
leaf_text extended part = listed (word_text part.content.kind ∷ leaf_fields part ++ (lines_text part ++ leaf_extension extended part.content))

-- a part that holds a message: that message's envelope and structure, and the count of its lines
unfoldable pub message_text : Bool → Part → List ℕ → List ℕ → List ℕ
message_text extended part envelope inner = listed (word_text part.content.kind ∷ leaf_fields part ++ envelope ∷ inner ∷ decimal part.lines ∷ leaf_extension extended part.content)

-- a multipart: its parts with nothing between them, and its subtype
unfoldable pub multipart_text : Bool → Part → List ℕ → List ℕ
multipart_text extended part parts = listed (parts ∷ word_text part.content.subkind ∷ multipart_extension extended part.content)

-- the header of a part, in the text that the part stands in
abbrev pub head_in : List ℕ → Part → List ℕ
head_in text part = slice_range text part.head.from part.head.to

mutual
  -- the structure of a part as it is written, in the text that the part stands in
  pub data IsBody (text : List ℕ) (extended : Bool) : Part → List ℕ → Type 0 where
    leaf : (part : Part) → part.inner ≡ Leaf → IsBody text extended part (leaf_text extended part)
    message : (part inner : Part) (envelope bytes : List ℕ) → part.inner ≡ Message inner
        → IsEnvelope (head_in text inner) envelope → IsBody text extended inner bytes → IsBody text extended part (message_text extended part envelope bytes)
    multipart : (part : Part) (parts : List Part) (bytes : List ℕ) → part.inner ≡ Parts parts
        → AreBodies text extended parts bytes → IsBody text extended part (multipart_text extended part bytes)

  -- the structures of some parts in a row
  pub data AreBodies (text : List ℕ) (extended : Bool) : List Part → List ℕ → Type 0 where
    none : AreBodies text extended [] []
    next : (part : Part) (parts : List Part) (bytes more : List ℕ)
        → IsBody text extended part bytes → AreBodies text extended parts more → AreBodies text extended (part ∷ parts) (bytes ++ more)

-- the part has no other structure
abbrev pub IsOnlyBody : List ℕ → Bool → Part → List ℕ → Type 0
IsOnlyBody text extended part bytes = (other : List ℕ) → IsBody text extended part other → other ≡ bytes
