-- The envelope of a message (RFC 3501, section 7.4.2; `envelope` of its section 9).
use Rattle.std.specs.Prelude.{◌≡◌, ℕ, List, [], ◌∷◌, ◌++◌, Option, Some, None, codes}
use Rattle.std.specs.List.{flat_map}
use Rattle.text_lines.specs.Lines.{header_of}
use Rattle.head_fields.specs.Fields.{readings_of}
use Rattle.addr_list.specs.Addresses.{ReadsAddresses, HasNoReading}
use Rattle.addr_list.specs.declared.address.Address.{Address}
use Rattle.addr_list.specs.declared.address.Address.TheVariants.{Mailbox, GroupStart, GroupEnd}
use Rattle.mime_parts.specs.Contents.{text_of}
use Rattle.structure_text.specs.Strings.{string_text, nstring_text, nil, listed}
use Rattle.structure_text.specs.declared.header.Envelope.{Envelope}

-- an address: its name, its route, its mailbox and its host; the start of a group has its name as the mailbox, and no host
abbrev pub address_text : Address → List ℕ
address_text (Mailbox name route local host) = listed (nstring_text name ∷ nstring_text route ∷ string_text local ∷ string_text host ∷ [])
address_text (GroupStart name) = listed (nil ∷ nil ∷ string_text name ∷ nil ∷ [])
address_text GroupEnd = listed (nil ∷ nil ∷ nil ∷ nil ∷ [])

-- the addresses of a field, with nothing between them
unfoldable pub addresses_text : List Address → List ℕ
addresses_text [] = nil
addresses_text (address ∷ more) = codes "(" ++ flat_map address_text (address ∷ more) ++ codes ")"

-- the addresses of a field, or those of From where it has none
abbrev pub or_from : List Address → List Address → List Address
or_from from [] = from
or_from from (address ∷ more) = address ∷ more

-- who sent the message, and whom answers go to
abbrev pub senders : Envelope → List (List ℕ)
senders e = addresses_text e.from ∷ addresses_text (or_from e.from e.sender) ∷ addresses_text (or_from e.from e.reply_to) ∷ []

-- whom it goes to
abbrev pub receivers : Envelope → List (List ℕ)
receivers e = addresses_text e.to ∷ addresses_text e.cc ∷ addresses_text e.bcc ∷ []

-- which message it answers, and which it is
abbrev pub identifiers : Envelope → List (List ℕ)
identifiers e = nstring_text e.in_reply_to ∷ nstring_text e.message_id ∷ []

-- an envelope as it is written
unfoldable pub envelope_text : Envelope → List ℕ
envelope_text e = listed (nstring_text e.date ∷ nstring_text e.subject ∷ senders e ++ (receivers e ++ identifiers e))

-- the addresses that an unfolded field body lists; none where there is no field, and none where it is outside the grammar of address lists
pub data HasAddresses : Option (List ℕ) → List Address → Type 0 where
  no_field : HasAddresses None []
  read : (body : List ℕ) (addresses : List Address) → ReadsAddresses body addresses → HasAddresses (Some body) addresses
  unread : (body : List ℕ) → HasNoReading body → HasAddresses (Some body) []

-- what the fields of a header say of the envelope; of each name the first field counts, unfolded
pub record HasEnvelope (fields : List (List ℕ × List ℕ)) (e : Envelope) : Type 0 where
  pub date : e.date ≡ text_of (codes "Date") fields
  pub subject : e.subject ≡ text_of (codes "Subject") fields
  pub from : HasAddresses (text_of (codes "From") fields) e.from
  pub sender : HasAddresses (text_of (codes "Sender") fields) e.sender
  pub reply_to : HasAddresses (text_of (codes "Reply-To") fields) e.reply_to
  pub to : HasAddresses (text_of (codes "To") fields) e.to
  pub cc : HasAddresses (text_of (codes "Cc") fields) e.cc
  pub bcc : HasAddresses (text_of (codes "Bcc") fields) e.bcc
  pub in_reply_to : e.in_reply_to ≡ text_of (codes "In-Reply-To") fields
  pub message_id : e.message_id ≡ text_of (codes "Message-ID") fields

-- the envelope of a header, as it is written
pub record IsEnvelope (header bytes : List ℕ) : Type 0 where
  pub envelope : Envelope
  pub has : HasEnvelope (readings_of (header_of header)) envelope
  pub written : bytes ≡ envelope_text envelope

-- the header has no other envelope
abbrev pub IsOnlyEnvelope : List ℕ → List ℕ → Type 0
IsOnlyEnvelope header bytes = (other : List ℕ) → IsEnvelope header other → other ≡ bytes
