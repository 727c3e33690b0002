-- Sections of a message (RFC 3501, section 6.4.5).
use Rattle.std.specs.Prelude.{◌≡◌, ℕ, Bool, false, not, List, [], ◌∷◌, ◌++◌, Option, Some, None, length, take, drop, codes, slice_range}
use Rattle.std.specs.List.{flat_map, list_any}
use Rattle.std.specs.Str.{str_eq_ignore_ascii_case}
use Rattle.mail_fields.specs.Numbers.{◌>>=◌}
use Rattle.text_lines.specs.Lines.{header_of}
use Rattle.head_fields.specs.Header.{body_start_of}
use Rattle.head_fields.specs.declared.span.Span.{Span}
use Rattle.mime_parts.specs.Parts.{IsStructure}
use Rattle.mime_parts.specs.declared.part.Part.{Part}
use Rattle.imap_arguments.specs.declared.section.Section.{Section}
use Rattle.imap_arguments.specs.declared.section.SectionKind.{SectionKind}
use Rattle.imap_arguments.specs.declared.section.SectionKind.TheVariants.{All, Header, Fields, FieldsNot, Text, Mime}
use Rattle.body_sections.specs.PartNumbers.{message_of, part_of}
use Rattle.body_sections.specs.FieldLines.{field_spans}

-- from one offset up to another
abbrev pub span : ℕ → ℕ → Span
span from to = record { from = from; to = to }

-- the bytes of a span
abbrev pub cut : List ℕ → Span → List ℕ
cut text s = slice_range text s.from s.to

-- ---- Where a section stands

-- some name is this one, in any letter case
abbrev pub is_named : List (List ℕ) → List ℕ → Bool
is_named names name = list_any (λ one. str_eq_ignore_ascii_case name one) names

-- whether a section of fields has the field of a name: the fields of some names, or all but these
abbrev pub has_field : SectionKind → List ℕ → Bool
has_field (Fields names) name = is_named names name
has_field (FieldsNot names) name = not (is_named names name)
has_field _ name = false

-- where the fields of a header stand that such a section has
abbrev pub chosen_spans : List ℕ → SectionKind → Span → List Span
chosen_spans text kind head = field_spans (has_field kind) head.from (header_of (cut text head))

-- what is asked of a message, by where its header and its body stand; a message has no MIME header, as a part has
abbrev pub message_spans : List ℕ → SectionKind → Span → Span → Option (List Span)
message_spans text All head body = Some (span head.from body.to ∷ [])
message_spans text Header head body = Some (head ∷ [])
message_spans text (Fields names) head body = Some (chosen_spans text (Fields names) head)
message_spans text (FieldsNot names) head body = Some (chosen_spans text (FieldsNot names) head)
message_spans text Text head body = Some (body ∷ [])
message_spans text Mime head body = None

-- the same of the message that a part holds
abbrev pub inner_spans : List ℕ → SectionKind → Part → Option (List Span)
inner_spans text kind part = message_of part >>= λ message. message_spans text kind message.head message.body

-- what is asked of a numbered part: its body, or its own header, or something of the message that it holds
abbrev pub part_spans : List ℕ → SectionKind → Part → Option (List Span)
part_spans text All part = Some (part.body ∷ [])
part_spans text Mime part = Some (part.head ∷ [])
part_spans text Header part = inner_spans text Header part
part_spans text (Fields names) part = inner_spans text (Fields names) part
part_spans text (FieldsNot names) part = inner_spans text (FieldsNot names) part
part_spans text Text part = inner_spans text Text part

-- the same of the part that numbers lead to
abbrev pub numbered_spans : List ℕ → SectionKind → List ℕ → Part → Option (List Span)
numbered_spans text kind numbers message = part_of numbers message >>= part_spans text kind

-- the header of a text, with the empty line that ends it
abbrev pub head_span : List ℕ → Span
head_span text = span 0 (body_start_of text)

-- the body behind it
abbrev pub body_span : List ℕ → Span
body_span text = span (body_start_of text) (length text)

-- where a section stands, by its part numbers: without them the text tells it, else its structure does
abbrev pub HasSpansAt : List ℕ → SectionKind → List ℕ → Option (List Span) → Type 0
HasSpansAt text kind [] found = found ≡ message_spans text kind (head_span text) (body_span text)
HasSpansAt text kind (n ∷ more) found = (message : Part) × IsStructure text message × (found ≡ numbered_spans text kind (n ∷ more) message)

-- where a section of a text stands; none where it doesn't exist
abbrev pub HasSpans : List ℕ → Section → Option (List Span) → Type 0
HasSpans text section found = HasSpansAt text section.kind section.parts found

-- ---- What it says

-- what ends it: fields end in an empty line
abbrev pub kind_end : SectionKind → List ℕ
kind_end (Fields names) = codes "\r\n"
kind_end (FieldsNot names) = codes "\r\n"
kind_end _ = []

-- the bytes of some spans in a row
abbrev pub cut_out : List ℕ → List Span → List ℕ
cut_out text spans = flat_map (cut text) spans

-- its bytes, by where it stands
abbrev pub section_bytes : List ℕ → SectionKind → List Span → List ℕ
section_bytes text kind spans = cut_out text spans ++ kind_end kind

-- so many bytes from an offset on, as far as they are there, or all
abbrev pub partial_of : Option (ℕ × ℕ) → List ℕ → List ℕ
partial_of None bytes = bytes
partial_of (Some (offset, count)) bytes = take count (drop offset bytes)
