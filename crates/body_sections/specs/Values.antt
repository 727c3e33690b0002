-- The values of FETCH items (RFC 3501, section 7.4.2).
use Rattle.std.specs.Prelude.{◌≡◌, ℕ, Bool, true, false, List, [], ◌∷◌, ◌++◌, Option, Some, None, codes, decimal}
use Rattle.mail_fields.specs.Stamps.{parts_of}
use Rattle.mail_fields.specs.ImapDate.{imap_date_text}
use Rattle.head_fields.specs.Header.{header_alone}
use Rattle.head_fields.specs.declared.span.Span.{Span}
use Rattle.mime_parts.specs.Parts.{IsStructure, body_of}
use Rattle.mime_parts.specs.declared.part.Part.{Part}
use Rattle.structure_text.specs.Strings.{nil, literal_text, quoted_text}
use Rattle.structure_text.specs.Envelopes.{IsEnvelope}
use Rattle.structure_text.specs.Bodies.{IsBody}
use Rattle.imap_arguments.specs.declared.section.Section.{Section}
use Rattle.imap_arguments.specs.declared.section.SectionKind.{SectionKind}
use Rattle.imap_arguments.specs.declared.item.Item.{Item}
use Rattle.imap_arguments.specs.declared.item.Item.TheVariants as items
use Rattle.imap_reply.specs.Texts.{in_parentheses, system_flags, text_if}
use Rattle.looked_message.specs.Messages.{LookedAt, keywords_of}
use Rattle.body_sections.specs.Sections.{HasSpans, section_bytes, partial_of}

-- the flags of a message: system flags, keywords by number, and last whether it is recent
abbrev pub flag_names : LookedAt → List (List ℕ)
flag_names m = system_flags m.info.flags ++ (keywords_of m ++ text_if m.recent (codes "\\Recent"))

-- the structure of a text, with extension data or without
pub record IsBodyOf (text : List ℕ) (extended : Bool) (value : List ℕ) : Type 0 where
  pub part : Part
  pub is_structure : IsStructure text part
  pub is_body : IsBody text extended part value

-- a section, perhaps a part of it, by where it stands: a literal, or NIL where it doesn't exist
abbrev pub section_text : List ℕ → SectionKind → Option (ℕ × ℕ) → Option (List Span) → List ℕ
section_text text kind partial None = nil
section_text text kind partial (Some spans) = literal_text (partial_of partial (section_bytes text kind spans))

-- a section of a text, perhaps a part of it
pub record IsSectionOf (text : List ℕ) (section : Section) (partial : Option (ℕ × ℕ)) (value : List ℕ) : Type 0 where
  pub found : Option (List Span)
  pub spans : HasSpans text section found
  pub written : value ≡ section_text text section.kind partial found

-- the value of an item
abbrev pub IsValue : Item → LookedAt → List ℕ → Type 0
IsValue items.Flags m value = value ≡ in_parentheses (flag_names m)
IsValue items.InternalDate m value = value ≡ quoted_text (imap_date_text (parts_of m.info.stamp))
IsValue items.Size m value = value ≡ decimal m.info.size
IsValue items.Envelope m value = IsEnvelope (header_alone m.text) value
IsValue items.Body m value = IsBodyOf m.text false value
IsValue items.BodyStructure m value = IsBodyOf m.text true value
IsValue items.Uid m value = value ≡ decimal m.info.uid
IsValue items.Rfc822 m value = value ≡ literal_text m.text
IsValue items.Rfc822Header m value = value ≡ literal_text (header_alone m.text)
IsValue items.Rfc822Text m value = value ≡ literal_text (body_of m.text)
IsValue (items.Part section partial peek) m value = IsSectionOf m.text section partial value
