-- How a FETCH item is named (RFC 3501, section 7.4.2).
use Rattle.std.specs.Prelude.{ℕ, Bool, not, List, [], ◌∷◌, ◌++◌, ◌==◌, ◌&&◌, if◌then◌else◌, Option, Some, None, length, map, codes, decimal}
use Rattle.std.specs.List.{list_all, flat_map}
use Rattle.mail_fields.specs.Keyword.{is_atom}
use Rattle.structure_text.specs.Strings.{string_text}
use Rattle.imap_arguments.specs.declared.section.Section.{Section}
use Rattle.imap_arguments.specs.declared.section.SectionKind.{SectionKind}
use Rattle.imap_arguments.specs.declared.section.SectionKind.TheVariants.{All, Header, Fields, FieldsNot, Text, Mime}
use Rattle.imap_arguments.specs.declared.item.Item.{Item}
use Rattle.imap_arguments.specs.declared.item.Item.TheVariants as items
use Rattle.imap_reply.specs.Texts.{in_parentheses}

-- one or more atom bytes
abbrev pub is_bare : List ℕ → Bool
is_bare name = not (length name == 0) && list_all is_atom name

-- the name of a field as the client gave it: an atom, else a string
unfoldable pub field_text : List ℕ → List ℕ
field_text name = if is_bare name then name else string_text name

-- the word of what is asked, if it has one, with the names of fields behind it
abbrev pub kind_words : SectionKind → List (List ℕ)
kind_words All = []
kind_words Header = codes "HEADER" ∷ []
kind_words (Fields names) = (codes "HEADER.FIELDS " ++ in_parentheses (map field_text names)) ∷ []
kind_words (FieldsNot names) = (codes "HEADER.FIELDS.NOT " ++ in_parentheses (map field_text names)) ∷ []
kind_words Text = codes "TEXT" ∷ []
kind_words Mime = codes "MIME" ∷ []

-- words, each behind a dot
abbrev pub behind_dots : List (List ℕ) → List ℕ
behind_dots words = flat_map (λ word. 46 ∷ word) words

-- words with dots between them
abbrev pub dotted : List (List ℕ) → List ℕ
dotted [] = []
dotted (word ∷ more) = word ++ behind_dots more

-- a section: its part numbers and its word
abbrev pub section_name : Section → List ℕ
section_name section = dotted (map decimal section.parts ++ kind_words section.kind)

-- the offset of a partial
abbrev pub offset_text : Option (ℕ × ℕ) → List ℕ
offset_text None = []
offset_text (Some (offset, count)) = codes "<" ++ (decimal offset ++ codes ">")

-- an item's name; PEEK isn't written
abbrev pub item_label : Item → List ℕ
item_label items.Flags = codes "FLAGS"
item_label items.InternalDate = codes "INTERNALDATE"
item_label items.Size = codes "RFC822.SIZE"
item_label items.Envelope = codes "ENVELOPE"
item_label items.Body = codes "BODY"
item_label items.BodyStructure = codes "BODYSTRUCTURE"
item_label items.Uid = codes "UID"
item_label items.Rfc822 = codes "RFC822"
item_label items.Rfc822Header = codes "RFC822.HEADER"
item_label items.Rfc822Text = codes "RFC822.TEXT"
item_label (items.Part section partial peek) = codes "BODY[" ++ (section_name section ++ (codes "]" ++ offset_text partial))

-- what stands before the bytes of an item that is a literal of so many bytes
abbrev pub literal_head : Item → ℕ → List ℕ
literal_head item count = item_label item ++ (codes " {" ++ (decimal count ++ codes "}\r\n"))
