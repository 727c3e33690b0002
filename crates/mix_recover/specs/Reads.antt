-- How a call that reads the files of a mailbox may answer, and how many bytes it reads.
use Rattle.std.specs.Prelude.{Bool, Option, Some, None, true, false, ◌||◌, nat_lt, Err, ℕ, ◌≡◌, ◌≤◌, ◌+◌, ◌*◌, List, length, sum_by, unwrap_or, [], Result, IsErrOf}
use Rattle.file_model.specs.Causes.{Faults, Rose}
use Rattle.mix_recover.specs.declared.faults.MeansFault.{MeansFault}
use Rattle.mix_recover.specs.declared.faults.MeansFault.TheVariants.{Failed, Memory, TooLarge}
use Rattle.mix_recover.specs.Directories.{MixTexts, MixFiles, mix_texts_at, mix_files_at}
use Rattle.mix_recover.specs.Listings.{FileScanParts, scans_of}
use Rattle.mix_recover.specs.Meanings.{found_in, is_long}
use Rattle.mix_data.specs.DataFiles.{DataFile, data_file_at, data_files_at}
use Rattle.mail_types.specs.declared.driver.Limit.TheVariants.{File}
use Rattle.mail_types.specs.Limits.{file_limit}
use Rattle.file_model.specs.Histories.{History, Now}
use Rattle.file_model.specs.Disk.{seen}
use Rattle.file_model.specs.Images.{Image, bytes_at}
use Rattle.std.specs.List.{list_any}

-- it fails only where the count of failed calls on files rose, and any other answer comes only where it didn't
pub record MeansCause {T : Type 0} (old new : Faults) (result : Result T MeansFault) : Type 0 where
  pub hear : new.hear ≡ old.hear
  pub say : new.say ≡ old.say
  pub later : old.file ≤ new.file
  pub more : old.read ≤ new.read
  pub failed : IsErrOf result Failed → Rose old.file new.file
  pub others : (IsErrOf result Failed → ⊥) → new.file ≡ old.file

-- the heads of all records of some scans, and one more for each file
abbrev pub scan_reads : List FileScanParts → ℕ
scan_reads scans = sum_by (λ each. 45 * (length each.scan.records + 1)) scans

-- the three texts once
abbrev pub text_reads : MixTexts → ℕ
text_reads texts = length (unwrap_or texts.metadata []) + length (unwrap_or texts.index []) + length (unwrap_or texts.statuses [])

-- and the heads
abbrev pub reads_of : MixFiles → ℕ
reads_of files = text_reads files.texts + scan_reads (scans_of files.data_files)

-- ---- Refusals

abbrev pub AreShort : List DataFile → Type 0
AreShort data_files = list_any (λ each. nat_lt file_limit (length each.bytes)) data_files ≡ false

-- a refusal has its cause in the files, unless a call failed or memory lacked
abbrev pub RefusesMeaning : List ℕ → MeansFault → History → Type 0
RefusesMeaning dir Failed old = Unit {0}
RefusesMeaning dir Memory old = Unit {0}
RefusesMeaning dir fault old = Now old (λ w. found_in (mix_files_at (seen w.disk) dir) ≡ Err fault)

-- the refusal of one text by its length
abbrev pub RefusesLong : List ℕ → MeansFault → History → Type 0
RefusesLong path Failed old = Unit {0}
RefusesLong path Memory old = Unit {0}
RefusesLong path fault old = (fault ≡ TooLarge File) × Now old (λ w. is_long (bytes_at (seen w.disk) path) ≡ true)

-- the refusals by the length of a text
abbrev pub RefusesTexts : List ℕ → MeansFault → History → Type 0
RefusesTexts dir Failed old = Unit {0}
RefusesTexts dir Memory old = Unit {0}
RefusesTexts dir fault old = (fault ≡ TooLarge File) × Now old (λ w. (is_long (mix_texts_at (seen w.disk) dir).metadata || is_long (mix_texts_at (seen w.disk) dir).index || is_long (mix_texts_at (seen w.disk) dir).statuses) ≡ true)

-- whether the file of a name is a data file that is too long
abbrev pub is_long_file : Option DataFile → Bool
is_long_file None = false
is_long_file (Some each) = nat_lt file_limit (length each.bytes)

abbrev pub is_long_at : Image → List ℕ → List ℕ → Bool
is_long_at image dir name = is_long_file (data_file_at image dir name)

-- the refusal of a data file among some names
abbrev pub RefusesNamed : List ℕ → List (List ℕ) → MeansFault → History → Type 0
RefusesNamed dir names Failed old = Unit {0}
RefusesNamed dir names Memory old = Unit {0}
RefusesNamed dir names fault old = (fault ≡ TooLarge File) × Now old (λ w. list_any (is_long_at (seen w.disk) dir) names ≡ true)

-- and of a directory
abbrev pub RefusesData : List ℕ → MeansFault → History → Type 0
RefusesData dir Failed old = Unit {0}
RefusesData dir Memory old = Unit {0}
RefusesData dir fault old = (fault ≡ TooLarge File) × Now old (λ w. list_any (λ each. nat_lt file_limit (length each.bytes)) (data_files_at (seen w.disk) dir) ≡ true)
