-- What the bytes of a unix file say, and what is written of a mailbox.
use Rattle.std.specs.Prelude.{ℕ, ◌+◌, ◌/◌, Bool, true, false, List, [], ◌∷◌, ◌++◌, ◌≡◌, Option, Some, None, option_map, unwrap_or, if◌then◌else◌, length, map, codes, flat_map}
use Rattle.mail_fields.specs.declared.stamp.Stamp.{Stamp}
use Rattle.mail_fields.specs.DelimiterLine.{delimiter_stamp}
use Rattle.mail_fields.specs.Numbers.{◌>>=◌}
use Rattle.mail_types.specs.declared.contents.Placing.TheVariants.{InPlace}
use Rattle.mail_types.specs.declared.contents.StoreContents.{StoreContents}
use Rattle.mail_types.specs.declared.driver.Driver.TheVariants.{Unix}
use Rattle.mail_types.specs.declared.mailbox.Mailbox.{Mailbox}
use Rattle.mail_types.specs.declared.message.Record.{Record}
use Rattle.mail_types.specs.Drivers.{keeps_of}
use Rattle.mail_types.specs.Flags.{has_bit}
use Rattle.mail_types.specs.Stamps.{epoch, read_stamp, utc_stamp}
use Rattle.text_forms.specs.Forms.{store_lf, unix_form}
use Rattle.text_forms.specs.Lines.{clean_byte}
use Rattle.text_lines.specs.Lines.{lines_of}
use Rattle.status_heads.specs.declared.base.Base.{Base}
use Rattle.status_heads.specs.declared.heads.Heads.{Heads}
use Rattle.status_heads.specs.Bases.{base_of}
use Rattle.status_heads.specs.Delimiters.{delimiter_text}
use Rattle.status_heads.specs.Heads.{heads_of}
use Rattle.status_heads.specs.HeadTexts.{heads_text}
use Rattle.status_heads.specs.Insertions.{with_fields}
use Rattle.status_heads.specs.Numbered.{numbered_heads}
use Rattle.status_heads.specs.PseudoTexts.{pseudo_text}
use Rattle.store_trait.specs.Changes.{changed_mailbox}
use Rattle.store_trait.specs.Forms.{FileForm}
use Rattle.unix_form.specs.Messages.{RawMessage, messages_in, raw_text}

-- ---- Reading

-- a file: the base of its mailbox, if a message says it; whether that message is no message of the mailbox; and the messages
pub record UnixFile : Type 0 where
  pub base : Option Base
  pub has_pseudo : Bool
  pub messages : List RawMessage

-- a first message with an X-IMAP field in its form is none of the mailbox; else its X-IMAPbase field counts
abbrev pub file_with : (pseudo : Option Base) → RawMessage → List RawMessage → UnixFile
file_with (Some base) first rest = record { base = Some base; has_pseudo = true; messages = rest }
file_with None first rest = record { base = base_of (raw_text first) (codes "X-IMAPbase"); has_pseudo = false; messages = first ∷ rest }

abbrev pub file_in : List RawMessage → UnixFile
file_in [] = record { base = None; has_pseudo = false; messages = [] }
file_in (first ∷ rest) = file_with (base_of (raw_text first) (codes "X-IMAP")) first rest

-- the file that bytes are; a NUL is read as 80 hex
abbrev pub file_of : List ℕ → Option UnixFile
file_of bytes = option_map file_in (messages_in (lines_of (map clean_byte bytes)))

-- the stamp of a delimiter line, in UTC
abbrev pub stamp_of_line : List ℕ → Stamp
stamp_of_line line = utc_stamp (unwrap_or (delimiter_stamp line >>= read_stamp) epoch)

-- names and messages as they are found one after the other: a message's new keywords get the next numbers, up to 30 names in all
pub record FoundMessages : Type 0 where
  pub names : List (List ℕ)
  pub records : List Record

abbrev pub found_messages : List (List ℕ) → List RawMessage → FoundMessages
found_messages names [] = record { names = names; records = [] }
found_messages names (message ∷ rest) =
    let heads = numbered_heads names (heads_of (raw_text message)) in
    let later = found_messages heads.names rest in
    record {
      names = later.names;
      records = record {
        uid = unwrap_or heads.uid 0;
        text = unix_form (raw_text message);
        stamp = stamp_of_line message.line;
        flags = heads.flags;
        words = heads.words;
        number = 0;
      } ∷ later.records;
    }

abbrev pub names_of_base : Option Base → List (List ℕ)
names_of_base None = []
names_of_base (Some base) = base.words

abbrev pub last_of_base : Option Base → ℕ
last_of_base None = 0
last_of_base (Some base) = base.last

-- what a file says
abbrev pub contents_in : UnixFile → StoreContents
contents_in file =
    let found = found_messages (names_of_base file.base) file.messages in
    record {
      validity = option_map (λ base. base.validity) file.base;
      number = 0;
      last = last_of_base file.base;
      words = found.names;
      records = found.records;
      placing = InPlace;
    }

-- how many messages stand in a file, with the one that is none of the mailbox
abbrev pub file_records : UnixFile → ℕ
file_records file = (if file.has_pseudo then 1 else 0) + length file.messages

-- bytes say what their file says
pub record IsUnixSpelled (bytes : List ℕ) (contents : StoreContents) (records : ℕ) : Type 0 where
  pub file : UnixFile
  pub reads : file_of bytes ≡ Some file
  pub says : contents ≡ contents_in file
  pub counts : records ≡ file_records file

-- ---- Writing

-- the names whose numbers, counted from 0, are bits of a number
abbrev pub names_by : ℕ → List (List ℕ) → List (List ℕ)
names_by words [] = []
names_by words (name ∷ names) = let rest = names_by (words / 2) names in if has_bit 1 words then name ∷ rest else rest

-- the status fields of a message
abbrev pub heads_for : List (List ℕ) → Record → Heads
heads_for names r = record { seen_old = r.flags; words = names_by r.words names; uid = Some r.uid }

-- a message as it is written: its delimiter line, its text in LF form with its status fields behind the header, and an empty line
abbrev pub message_text : List (List ℕ) → Record → List ℕ
message_text names r =
    delimiter_text r.stamp.day r.stamp.second ++ (with_fields (heads_text (heads_for names r)) (store_lf r.text) ++ codes "\n")

-- a mailbox as it is written: the message that holds its base, an empty line, and its messages
abbrev pub unix_written : Mailbox → List ℕ
unix_written m =
    pseudo_text (record { validity = m.validity; last = m.last; words = m.words }) ++ (codes "\n" ++ flat_map (message_text m.words) m.records)

-- ---- The form: a change writes the file anew

abbrev pub unix_file_form : FileForm
unix_file_form = record {
  spells = λ bytes contents records. IsUnixSpelled bytes contents records;
  written = λ m. unix_written m;
  rewritten = λ bytes prior change. unix_written (changed_mailbox (keeps_of Unix) prior change);
}
