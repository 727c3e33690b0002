-- What a mix directory means.
use Rattle.std.specs.Prelude.{ℕ, Bool, false, ◌+◌, ◌==◌, ◌||◌, List, [], ◌∷◌, Option, Some, None, Result, Ok, Err, max, nat_lt, if◌then◌else◌, length, map, take, drop, unwrap_or, is_none}
use Rattle.std.specs.List.{list_any}
use Rattle.file_model.specs.Images.{Image}
use Rattle.mail_fields.specs.Stamps.{StampParts}
use Rattle.mail_types.specs.declared.flags.Flags.{Flags}
use Rattle.mail_types.specs.Flags.{flags_of_bits}
use Rattle.mail_types.specs.Keeping.{words_below}
use Rattle.text_forms.specs.Lines.{clean_byte}
use Rattle.mix_files.specs.declared.meta.Meta.{Meta}
use Rattle.mix_files.specs.declared.status.Status.{Status}
use Rattle.mix_files.specs.Metadata.{meta_of}
use Rattle.mix_files.specs.Statuses.{statuses_of}
use Rattle.mix_index.specs.Entries.{EntryParts}
use Rattle.mix_data.specs.DataFiles.{DataFile}
use Rattle.mail_types.specs.declared.driver.Limit.TheVariants.{File, Text, Records}
use Rattle.mail_types.specs.Limits.{file_limit, text_limit, record_limit}
use Rattle.mix_recover.specs.declared.faults.MeansFault.{MeansFault}
use Rattle.mix_recover.specs.declared.faults.MeansFault.TheVariants.{IllFormed, TooLarge}
use Rattle.mix_recover.specs.Directories.{MixTexts, MixFiles, mix_files_at}
use Rattle.mix_recover.specs.Listings.{FileScanParts, scans_of, indexed, listing}

-- ---- What is read of a directory, without a text

-- metadata and status as they are read, the listing, and the end of the scan of each data file
pub record Reading : Type 0 where
  pub meta : Meta
  pub statuses : List Status
  pub entries : List EntryParts
  pub ends : List (ℕ × ℕ)
  -- the index is missing or isn't accepted
  pub rebuilt : Bool

abbrev pub scan_ends : List FileScanParts → List (ℕ × ℕ)
scan_ends scans = map (λ each. (each.number, each.scan.end)) scans

abbrev pub reading_by : Meta → Result (List Status) ℕ → Option (List ℕ) → List FileScanParts → Result Reading ℕ
reading_by meta (Err count) index scans = Err count
reading_by meta (Ok statuses) index scans =
    Ok (record { meta = meta; statuses = statuses; entries = listing index scans; ends = scan_ends scans; rebuilt = is_none (indexed index scans) })

-- a missing status is one without records
abbrev pub reading_with : Option Meta → Option (List ℕ) → Option (List ℕ) → List FileScanParts → Result Reading ℕ
reading_with None statuses index scans = Err 0
reading_with (Some meta) statuses index scans = reading_by meta (statuses_of (unwrap_or statuses [])) index scans

abbrev pub meta_in : Option (List ℕ) → Option Meta
meta_in None = None
meta_in (Some text) = meta_of text

-- What is read of three texts and the scans. Ill-formed is a missing or bad metadata, or a bad status, with the count of its whole records before the first bad one.
unfoldable pub reading_from : MixTexts → List FileScanParts → Result Reading ℕ
reading_from texts scans = reading_with (meta_in texts.metadata) texts.statuses texts.index scans

abbrev pub reading_of : MixFiles → Result Reading ℕ
reading_of files = reading_from files.texts (scans_of files.data_files)

-- ---- With its limits

abbrev pub within_limits : Result Reading ℕ → Result Reading MeansFault
within_limits (Err count) = Err (IllFormed count)
within_limits (Ok reading) =
    if nat_lt record_limit (length reading.entries) then Err (TooLarge Records)
    else (if list_any (λ e. nat_lt text_limit e.size) reading.entries then Err (TooLarge Text) else Ok reading)

abbrev pub is_long : Option (List ℕ) → Bool
is_long None = false
is_long (Some text) = nat_lt file_limit (length text)

-- some file of the mailbox is longer than 512 MiB
abbrev pub has_long_file : MixFiles → Bool
has_long_file files =
    is_long files.texts.metadata || is_long files.texts.index || is_long files.texts.statuses || list_any (λ each. nat_lt file_limit (length each.bytes)) files.data_files

-- what opening finds: a file that is too long comes before all else
unfoldable pub found_in : MixFiles → Result Reading MeansFault
found_in files = if has_long_file files then Err (TooLarge File) else within_limits (reading_of files)

-- ---- The mailbox

pub record MixMessage : Type 0 where
  pub uid : ℕ
  pub text : List ℕ
  pub stamp : StampParts
  pub flags : Flags
  -- the bits of its keywords, and its modification number
  pub words : ℕ
  pub number : ℕ

pub record MixMailbox : Type 0 where
  pub validity : ℕ
  pub number : ℕ
  pub last : ℕ
  pub words : List (List ℕ)
  pub records : List MixMessage

-- the status record of a UID; where there is none, one without flags
abbrev pub status_of : List Status → ℕ → Status
status_of [] uid = record { uid = uid; words = 0; bits = 0; modseq = 1 }
status_of (first ∷ rest) uid = if first.uid == uid then first else status_of rest uid

-- the bytes of a data file
abbrev pub bytes_of_file : List DataFile → ℕ → List ℕ
bytes_of_file [] number = []
bytes_of_file (first ∷ rest) number = if first.number == number then first.bytes else bytes_of_file rest number

-- the text of an entry, which stands behind its head; a NUL is read as byte 80 hex
abbrev pub text_of_entry : List DataFile → EntryParts → List ℕ
text_of_entry data_files entry = map clean_byte (take entry.size (drop (entry.place + 45) (bytes_of_file data_files entry.file)))

-- flags, keywords that have a name and modification number are those of the status record; a number 0 counts as 1
abbrev pub message_with : (words : ℕ) → List DataFile → EntryParts → Status → MixMessage
message_with words data_files entry status = record {
  uid = entry.uid;
  text = text_of_entry data_files entry;
  stamp = entry.stamp;
  flags = flags_of_bits status.bits;
  words = words_below words status.words;
  number = max 1 status.modseq;
}

abbrev pub greatest : List ℕ → ℕ
greatest [] = 0
greatest (n ∷ rest) = max n (greatest rest)

-- the last UID is the greater of that of the metadata and the greatest listed; the mailbox's number the greatest of 1, that of the metadata and those of all status records
abbrev pub mailbox_of : List DataFile → Reading → MixMailbox
mailbox_of data_files reading = record {
  validity = reading.meta.validity;
  number = max 1 (max reading.meta.sequence (greatest (map (λ s. s.modseq) reading.statuses)));
  last = max reading.meta.last (greatest (map (λ e. e.uid) reading.entries));
  words = reading.meta.words;
  records = map (λ e. message_with (length reading.meta.words) data_files e (status_of reading.statuses e.uid)) reading.entries;
}

abbrev pub mailbox_by : List DataFile → Result Reading ℕ → Result MixMailbox ℕ
mailbox_by data_files (Err count) = Err count
mailbox_by data_files (Ok reading) = Ok (mailbox_of data_files reading)

-- what the files of a directory mean
abbrev pub mix_meaning : MixFiles → Result MixMailbox ℕ
mix_meaning files = mailbox_by files.data_files (reading_of files)

-- what an image's directory means
abbrev pub means_at : Image → List ℕ → Result MixMailbox ℕ
means_at image dir = mix_meaning (mix_files_at image dir)
