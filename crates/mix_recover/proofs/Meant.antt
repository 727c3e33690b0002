-- What a directory is found to mean.
use Rattle.std.proofs.Common.{◌≡◌, ◌⊎◌, ⊎_elim, ℕ, List, [], ◌∷◌, length, map, Bool, true, false, ◌||◌, Option, Some, None, Result, Ok, Err, IfOk, refl, sym, ap, ◌∙◌, arith, nat_lt}
use Rattle.std.proofs.Common.{Vec, Global}
use Rattle.std.specs.Result.{IfErr}
use Rattle.std.specs.List.{list_any}
use Rattle.std.proofs.lemmas.Bool.Decides.{nat_tests}
use Rattle.file_model.specs.Disk.{seen}
use Rattle.file_model.specs.Histories.{World, History, Now}
use Rattle.file_model.proofs.Runs.{now_weaker}
use Rattle.mail_types.specs.declared.driver.Limit.TheVariants.{File}
use Rattle.mail_types.specs.Limits.{file_limit}
use Rattle.mix_data.specs.DataFiles.{data_files_at}
use Rattle.mix_recover.specs.declared.faults.MeansFault.{MeansFault}
use Rattle.mix_recover.specs.declared.faults.MeansFault.TheVariants.{IllFormed, TooLarge, Failed, Memory}
use Rattle.mix_recover.specs.declared.meaning.Meaning.{Meaning}
use Rattle.mix_recover.specs.declared.meaning.Texts.{Texts}
use Rattle.mix_recover.specs.declared.scans.FileScan.{FileScan}
use Rattle.mix_recover.specs.Directories.{MixTexts, MixFiles, mix_texts_at, mix_files_at}
use Rattle.mix_recover.specs.Listings.{file_scan_parts, scans_of}
use Rattle.mix_recover.specs.Meanings.{reading_from, reading_of, within_limits, is_long, has_long_file, found_in}
use Rattle.mix_recover.specs.Readings.{texts_of, reading_parts, option_bytes, IsShort}
use Rattle.mix_recover.specs.Reads.{RefusesMeaning, RefusesTexts, RefusesData, AreShort}

long_found : (files : MixFiles) → has_long_file files ≡ true → found_in files ≡ Err (TooLarge File)
unfolding found_in
long_found files long = rw long refl

short_found : (files : MixFiles) → has_long_file files ≡ false → found_in files ≡ within_limits (reading_of files)
unfolding found_in
short_found files short = rw short refl

or_last : (a b : Bool) → b ≡ true → (a || b) ≡ true
or_last true b is = refl
or_last false b is = is

pub refuse_data : (dir : List ℕ) (fault : MeansFault) (old : History) → RefusesData dir fault old → RefusesMeaning dir fault old
refuse_data dir Failed old is = tt
refuse_data dir Memory old is = tt
refuse_data dir (IllFormed n) old is = now_weaker _ _ (λ w long. long_found (mix_files_at (seen w.disk) dir) (or_last _ _ long) ∙ ap Err (sym is.0)) old is.1
refuse_data dir (TooLarge l) old is = now_weaker _ _ (λ w long. long_found (mix_files_at (seen w.disk) dir) (or_last _ _ long) ∙ ap Err (sym is.0)) old is.1

texts_long : (dir : List ℕ) (w : World) → (is_long (mix_texts_at (seen w.disk) dir).metadata || is_long (mix_texts_at (seen w.disk) dir).index || is_long (mix_texts_at (seen w.disk) dir).statuses) ≡ true
    → found_in (mix_files_at (seen w.disk) dir) ≡ Err (TooLarge File)
texts_long dir w long = long_found (mix_files_at (seen w.disk) dir) (ap (λ b. b || list_any (λ each. nat_lt file_limit (length each.bytes)) (data_files_at (seen w.disk) dir)) long)

pub refuse_texts : (dir : List ℕ) (fault : MeansFault) (old : History) → RefusesTexts dir fault old → RefusesMeaning dir fault old
refuse_texts dir Failed old is = tt
refuse_texts dir Memory old is = tt
refuse_texts dir (IllFormed n) old is = now_weaker _ _ (λ w long. texts_long dir w long ∙ ap Err (sym is.0)) old is.1
refuse_texts dir (TooLarge l) old is = now_weaker _ _ (λ w long. texts_long dir w long ∙ ap Err (sym is.0)) old is.1

short_text : (o : Option (Vec ℕ Global)) → IsShort o → is_long (option_bytes o) ≡ false
short_text None short = refl
short_text (Some v) short = grind (arith, nat_tests, short)

-- where no file is too long, the meaning is that of the texts and scans that were read
module _ (dir : List ℕ) (texts : Texts) (scans : List FileScan) (one : IsShort texts.metadata) (two : IsShort texts.index) (three : IsShort texts.statuses) where
  same_found : (w : World) → texts_of texts ≡ mix_texts_at (seen w.disk) dir → map file_scan_parts scans ≡ scans_of (data_files_at (seen w.disk) dir) → AreShort (data_files_at (seen w.disk) dir)
      → found_in (mix_files_at (seen w.disk) dir) ≡ within_limits (reading_from (texts_of texts) (map file_scan_parts scans))
  same_found w read found short =
      short_found (mix_files_at (seen w.disk) dir) (λ i. (none read i || short i))
      ∙ (λ i. within_limits (reading_from (sym read i) (sym found i)))
    where
      none : texts_of texts ≡ mix_texts_at (seen w.disk) dir → (is_long (mix_texts_at (seen w.disk) dir).metadata || is_long (mix_texts_at (seen w.disk) dir).index || is_long (mix_texts_at (seen w.disk) dir).statuses) ≡ false
      none read =
          ap (λ (t : MixTexts). is_long t.metadata || is_long t.index || is_long t.statuses) (sym read)
          ∙ (λ i. short_text texts.metadata one i || short_text texts.index two i || short_text texts.statuses three i)

  pub means_found : (h : History) (result : Result Meaning MeansFault) → Now h (λ w. texts_of texts ≡ mix_texts_at (seen w.disk) dir)
      → Now h (λ w. map file_scan_parts scans ≡ scans_of (data_files_at (seen w.disk) dir)) → Now h (λ w. AreShort (data_files_at (seen w.disk) dir))
      → IfOk result (λ m. within_limits (reading_from (texts_of texts) (map file_scan_parts scans)) ≡ Ok (reading_parts m))
      → IfOk result (λ m. Now h (λ w. found_in (mix_files_at (seen w.disk) dir) ≡ Ok (reading_parts m)))
  means_found h (Err e) read found short ok = ok
  means_found [] (Ok m) read found short ok = tt
  means_found (w ∷ past) (Ok m) read found short ok = same_found w read found short ∙ ok

  pub means_refused : (h : History) (result : Result Meaning MeansFault) → Now h (λ w. texts_of texts ≡ mix_texts_at (seen w.disk) dir)
      → Now h (λ w. map file_scan_parts scans ≡ scans_of (data_files_at (seen w.disk) dir)) → Now h (λ w. AreShort (data_files_at (seen w.disk) dir))
      → IfErr result (λ fault. (fault ≡ Memory) ⊎ (within_limits (reading_from (texts_of texts) (map file_scan_parts scans)) ≡ Err fault))
      → IfErr result (λ fault. RefusesMeaning dir fault h)
  means_refused h (Ok m) read found short err = err
  means_refused h (Err Failed) read found short err = tt
  means_refused h (Err Memory) read found short err = tt
  means_refused [] (Err (IllFormed n)) read found short err = tt
  means_refused [] (Err (TooLarge l)) read found short err = tt
  means_refused (w ∷ past) (Err (IllFormed n)) read found short err = ⊎_elim (λ memory. absurd (cc)) (λ is. same_found w read found short ∙ is) err
  means_refused (w ∷ past) (Err (TooLarge l)) read found short err = ⊎_elim (λ memory. absurd (cc)) (λ is. same_found w read found short ∙ is) err
