-- The status of a mix mailbox: a record for each message, such as `:00000001:00000000:0001:00000001:` CRLF.
use Rattle.std.specs.Prelude.{◌≡◌, ℕ, true, List, [], ◌++◌, Option, Some, None, Result, refl}
use Rattle.mail_fields.specs.Numbers.{◌>>=◌}
use Rattle.mix_records.specs.Fields.{hex_at_front, hex_text, end_at_front, record_end}
use Rattle.mix_records.specs.Records.{RecordForm, records_of, records_text}
use Rattle.mix_files.specs.declared.status.Status.{Status}

-- the record at the front of a text, and what stands behind it: UID, bits of keywords, bits of flags and modification number
unfoldable pub status_at_front : List ℕ → Option (Status × List ℕ)
status_at_front text = do
  uid ← hex_at_front 8 text
  words ← hex_at_front 8 uid.1
  bits ← hex_at_front 4 words.1
  modseq ← hex_at_front 8 bits.1
  behind ← end_at_front modseq.1
  Some (record { uid = uid.0; words = words.0; bits = bits.0; modseq = modseq.0 }, behind)

-- the text of a record
unfoldable pub status_text : Status → List ℕ
status_text status = hex_text 8 status.uid ++ hex_text 8 status.words ++ hex_text 4 status.bits ++ hex_text 8 status.modseq ++ record_end

abbrev pub status_form : RecordForm Status
status_form = record { front = status_at_front; uid = λ status. status.uid; may_stand = λ status. true; text = status_text }

-- the records that a status is; where it is none, how many stand before the first that is none
abbrev pub statuses_of : List ℕ → Result (List Status) ℕ
statuses_of text = records_of status_form text

abbrev pub statuses_text : List Status → List ℕ
statuses_text records = records_text status_form records

pub status-nothing : status_at_front [] ≡ None
unfolding status_at_front hex_at_front
status-nothing = refl
