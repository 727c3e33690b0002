-- The tree of a message's parts (RFC 2046, section 5).
use Rattle.std.specs.Prelude.{◌≡◌, ℕ, zero, suc, Bool, false, List, [], ◌∷◌, ◌+◌, if◌then◌else◌, Option, Some, None, length, drop}
use Rattle.text_lines.specs.Lines.{lines_of, header_of}
use Rattle.head_fields.specs.Fields.{readings_of}
use Rattle.head_fields.specs.Header.{body_start_of}
use Rattle.mime_parts.specs.Contents.{HasContent, is_multipart, is_digest, is_message, boundary_of, as_bytes}
use Rattle.mime_parts.specs.Delimiters.{parts_of_body}
use Rattle.mime_parts.specs.declared.content.Content.{Content}
use Rattle.mime_parts.specs.declared.part.Part.{Part}
use Rattle.mime_parts.specs.declared.part.Inner.{Inner, Leaf, Parts, Message}

-- a part's text: where its body begins, and its body
abbrev pub body_of : List ℕ → List ℕ
body_of text = drop (body_start_of text) text

-- the part of a text at an offset, by its content and what it holds
abbrev pub part_at : ℕ → List ℕ → Content → Inner → Part
part_at from text content inner =
    let start = from + body_start_of text in
    record {
      head = record { from = from; to = start };
      body = record { from = start; to = from + length text };
      lines = length (lines_of (body_of text));
      content = content;
      inner = inner;
    }

-- how a part's body is divided, if it may be
pub data Division : Type 0 where
  several : List (ℕ × List ℕ) → Division
  one : Division
  no_parts : Division
  undivided : Division

-- the parts that a multipart is divided in, if it has any
abbrev pub some_parts : List (ℕ × List ℕ) → Division
some_parts [] = no_parts
some_parts (part ∷ more) = several (part ∷ more)

abbrev pub multipart_division : Option (List ℕ) → ℕ → List ℕ → Division
multipart_division None from text = no_parts
multipart_division (Some boundary) from text = some_parts (parts_of_body boundary (from + body_start_of text) (body_of text))

abbrev pub division_of : Content → ℕ → List ℕ → Division
division_of content from text =
    if is_multipart content then multipart_division (boundary_of content) from text
    else if is_message content then one
    else undivided

-- the parts of a multipart, each a part by the relation, at its offset
abbrev pub Each : (ℕ → List ℕ → Part → Type 0) → List (ℕ × List ℕ) → List Part → Type 0
Each Is [] [] = Unit {0}
Each Is [] (part ∷ parts) = ⊥
Each Is (place ∷ places) [] = ⊥
Each Is (place ∷ places) (part ∷ parts) = Is place.0 place.1 part × Each Is places parts

-- what a part is, by how its body is divided and by the relation for what stands in it
abbrev pub IsDivided : (Bool → ℕ → List ℕ → Part → Type 0) → Division → ℕ → List ℕ → Content → Part → Type 0
IsDivided Is (several places) from text content part =
    (parts : List Part) × Each (Is (is_digest content)) places parts × (part ≡ part_at from text content (Parts parts))
IsDivided Is one from text content part =
    (inner : Part) × Is false (from + body_start_of text) (body_of text) inner × (part ≡ part_at from text content (Message inner))
IsDivided Is no_parts from text content part = part ≡ part_at from text (as_bytes content) Leaf
IsDivided Is undivided from text content part = part ≡ part_at from text content Leaf

-- a part below the deepest level: what would be divided is a leaf
abbrev pub IsDeepest : Division → ℕ → List ℕ → Content → Part → Type 0
IsDeepest (several places) from text content part = part ≡ part_at from text (as_bytes content) Leaf
IsDeepest one from text content part = part ≡ part_at from text (as_bytes content) Leaf
IsDeepest no_parts from text content part = part ≡ part_at from text (as_bytes content) Leaf
IsDeepest undivided from text content part = part ≡ part_at from text content Leaf

-- the part that a text is, at an offset, in a digest or not, where so many levels more may be divided
abbrev pub IsPart : ℕ → Bool → ℕ → List ℕ → Part → Type 0
IsPart zero digest from text part =
    (content : Content) × HasContent digest (readings_of (header_of text)) content × IsDeepest (division_of content from text) from text content part
IsPart (suc levels) digest from text part =
    (content : Content) × HasContent digest (readings_of (header_of text)) content × IsDivided (IsPart levels) (division_of content from text) from text content part

-- a message and its parts: 50 levels of multiparts and messages
unfoldable pub IsStructure : List ℕ → Part → Type 0
IsStructure text part = IsPart 50 false 0 text part

-- no other tree is this text's
abbrev pub IsOnlyStructure : List ℕ → Part → Type 0
IsOnlyStructure text part = (other : Part) → IsStructure text other → other ≡ part
