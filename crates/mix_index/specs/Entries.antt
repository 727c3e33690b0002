-- The index of a mix mailbox: an entry for each message, such as
-- `:00000001:20240402080000+0200:0000000e:00000001:00000000:0000002d:0000000e:` CRLF.
use Rattle.std.specs.Prelude.{◌≡◌, ◌==◌, ℕ, List, [], ◌++◌, Option, Some, None, refl, if◌then◌else◌}
use Rattle.std.specs.Result.{result_ok}
use Rattle.mail_fields.specs.Numbers.{◌>>=◌}
use Rattle.mail_fields.specs.Stamps.{StampParts, parts_of}
use Rattle.mix_records.specs.Fields.{hex_at_front, hex_text, date_at_front, date_text, end_at_front, record_end}
use Rattle.mix_records.specs.Records.{RecordForm, records_of, records_text}
use Rattle.mix_index.specs.declared.entry.Entry.{Entry}

-- the seven parts of an entry
pub record EntryParts : Type 0 where
  pub uid : ℕ
  pub stamp : StampParts
  pub size : ℕ
  pub file : ℕ
  pub place : ℕ
  pub head : ℕ
  pub field : ℕ

abbrev pub entry_parts : Entry → EntryParts
entry_parts entry =
    record { uid = entry.uid; stamp = parts_of entry.stamp; size = entry.size; file = entry.file; place = entry.place; head = entry.head; field = entry.field }

-- the last four numbers of an entry, of which the third is 45, and its end; what they say, and what stands behind
unfoldable pub place_at_front : List ℕ → Option (ℕ × ℕ × ℕ × List ℕ)
place_at_front text = do
  file ← hex_at_front 8 text
  place ← hex_at_front 8 file.1
  head ← hex_at_front 8 place.1
  field ← hex_at_front 8 head.1
  behind ← end_at_front field.1
  if head.0 == 45 then Some (file.0, place.0, field.0, behind) else None

-- the entry at the front of a text, and what stands behind it
unfoldable pub entry_at_front : List ℕ → Option (EntryParts × List ℕ)
entry_at_front text = do
  uid ← hex_at_front 8 text
  stamp ← date_at_front uid.1
  size ← hex_at_front 8 stamp.1
  found ← place_at_front size.1
  Some (record { uid = uid.0; stamp = stamp.0; size = size.0; file = found.0; place = found.1; head = 45; field = found.2 }, found.3)

-- the text of an entry
unfoldable pub entry_text : EntryParts → List ℕ
entry_text entry =
    hex_text 8 entry.uid ++ date_text entry.stamp ++ hex_text 8 entry.size ++ hex_text 8 entry.file ++ hex_text 8 entry.place ++ hex_text 8 entry.head ++ hex_text 8 entry.field
    ++ record_end

abbrev pub entry_form : RecordForm EntryParts
entry_form = record { front = entry_at_front; uid = λ entry. entry.uid; may_stand = λ entry. entry.head == 45; text = entry_text }

-- the entries that an index is, if it is entries alone
abbrev pub entries_of : List ℕ → Option (List EntryParts)
entries_of text = result_ok (records_of entry_form text)

abbrev pub entries_text : List EntryParts → List ℕ
entries_text entries = records_text entry_form entries

pub entry-nothing : entry_at_front [] ≡ None
unfolding entry_at_front hex_at_front
entry-nothing = refl
