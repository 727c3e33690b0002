-- What texts and scans mean together.
use Rattle.std.proofs.Common.{◌≡◌, ℕ, List, [], ◌∷◌, ◌||◌, map, length, Bool, true, false, cond, Some, None, Result, Ok, Err, refl, sym, ap, ◌∙◌, subst, nat_lt, is_none, unwrap_or}
use Rattle.std.specs.Result.{IsErrAnd, IfErr}
use Rattle.std.specs.List.{list_any, list_all}
use Rattle.std.proofs.lemmas.List.{length-map}
use Rattle.mix_recover.specs.declared.scans.FileScan.{FileScan}
use Rattle.mail_types.specs.declared.driver.Limit.TheVariants.{Text, Records}
use Rattle.mail_types.specs.Limits.{text_limit, record_limit}
use Rattle.mix_files.specs.declared.meta.Meta.{Meta}
use Rattle.mix_files.specs.declared.status.Status.{Status}
use Rattle.mix_files.specs.Statuses.{statuses_of}
use Rattle.mix_records.specs.Records.{records_of}
use Rattle.mix_index.specs.declared.entry.Entry.{Entry}
use Rattle.mix_index.specs.Entries.{EntryParts, entry_parts, entries_of}
use Rattle.mix_recover.specs.declared.faults.MeansFault.TheVariants.{IllFormed, TooLarge}
use Rattle.mix_recover.specs.Directories.{MixTexts}
use Rattle.mix_recover.specs.Listings.{FileScanParts, file_scan_parts, is_scanned, indexed, listing}
use Rattle.mix_recover.specs.Meanings.{Reading, meta_in, reading_from, within_limits, scan_ends}

-- ---- The index

pub no_index : (scans : List FileScanParts) → indexed None scans ≡ None
unfolding indexed
no_index scans = refl

pub bad_index : (text : List ℕ) (scans : List FileScanParts) → entries_of text ≡ None → indexed (Some text) scans ≡ None
unfolding indexed
bad_index text scans bad = rw bad refl

pub good_index : (text : List ℕ) (scans : List FileScanParts) (entries : List EntryParts) (is : Bool) → entries_of text ≡ Some entries → list_all (is_scanned scans) entries ≡ is
    → indexed (Some text) scans ≡ cond is (Some entries) None
unfolding indexed
good_index text scans entries is reads all = rw (reads, all) refl

-- ---- The status

pub no_statuses : statuses_of [] ≡ Ok []
unfolding records_of
no_statuses = refl

-- ---- All together

module _ (texts : MixTexts) (scans : List FileScanParts) where
  pub bad_meta : meta_in texts.metadata ≡ None → within_limits (reading_from texts scans) ≡ Err (IllFormed 0)
  unfolding reading_from
  bad_meta bad = rw bad refl

  pub bad_statuses : (meta : Meta) (count : ℕ) → meta_in texts.metadata ≡ Some meta → statuses_of (unwrap_or texts.statuses []) ≡ Err count → within_limits (reading_from texts scans) ≡ Err (IllFormed count)
  unfolding reading_from
  bad_statuses meta count is bad = rw (is, bad) refl

  pub all_read : (meta : Meta) (statuses : List Status) → meta_in texts.metadata ≡ Some meta → statuses_of (unwrap_or texts.statuses []) ≡ Ok statuses
      → reading_from texts scans ≡ Ok (record { meta = meta; statuses = statuses; entries = listing texts.index scans; ends = scan_ends scans; rebuilt = is_none (indexed texts.index scans) })
  unfolding reading_from
  all_read meta statuses is reads = rw (is, reads) refl

-- an error that is passed on
pub passed_on : {T E : Type 0} (result : Result T E) (e : E) (P : E → Type 0) → IsErrAnd result (λ x. x ≡ e) → P e → IfErr result P
passed_on (Ok v) e P is holds = absurd is
passed_on (Err x) e P is holds = subst P (sym is) holds

-- ---- Limits

list_any_parts : (entries : List Entry) → list_any (λ (e : EntryParts). nat_lt text_limit e.size) (map entry_parts entries) ≡ list_any (λ (e : Entry). nat_lt text_limit e.size) entries
list_any_parts [] = refl
list_any_parts (e ∷ rest) = ap (λ b. nat_lt text_limit e.size || b) (list_any_parts rest)

module _ (texts : MixTexts) (scans : List FileScanParts) (entries : List Entry) (reading : Reading) (is : reading_from texts scans ≡ Ok reading) (same : reading.entries ≡ map entry_parts entries) where
  pub past_records : nat_lt record_limit (length entries) ≡ true → within_limits (reading_from texts scans) ≡ Err (TooLarge Records)
  past_records many =
      let count : length reading.entries ≡ length entries = ap length same ∙ length-map entries entry_parts in
      ap within_limits is ∙ ap (λ b. cond b (Err (TooLarge Records)) (cond (list_any (λ e. nat_lt text_limit e.size) reading.entries) (Err (TooLarge Text)) (Ok reading))) (ap (nat_lt record_limit) count ∙ many)

  pub past_text : nat_lt record_limit (length entries) ≡ false → list_any (λ (e : Entry). nat_lt text_limit e.size) entries ≡ true → within_limits (reading_from texts scans) ≡ Err (TooLarge Text)
  past_text few large =
      let count : length reading.entries ≡ length entries = ap length same ∙ length-map entries entry_parts in
      let any : list_any (λ (e : EntryParts). nat_lt text_limit e.size) reading.entries ≡ true = ap (list_any (λ (e : EntryParts). nat_lt text_limit e.size)) same ∙ list_any_parts entries ∙ large in
      ap within_limits is ∙ ap (λ b. cond b (Err (TooLarge Records)) (cond (list_any (λ e. nat_lt text_limit e.size) reading.entries) (Err (TooLarge Text)) (Ok reading))) (ap (nat_lt record_limit) count ∙ few)
      ∙ ap (λ b. cond b (Err (TooLarge Text)) (Ok reading)) any

  pub past_none : nat_lt record_limit (length entries) ≡ false → list_any (λ (e : Entry). nat_lt text_limit e.size) entries ≡ false → within_limits (reading_from texts scans) ≡ Ok reading
  past_none few small =
      let count : length reading.entries ≡ length entries = ap length same ∙ length-map entries entry_parts in
      let any : list_any (λ (e : EntryParts). nat_lt text_limit e.size) reading.entries ≡ false = ap (list_any (λ (e : EntryParts). nat_lt text_limit e.size)) same ∙ list_any_parts entries ∙ small in
      ap within_limits is ∙ ap (λ b. cond b (Err (TooLarge Records)) (cond (list_any (λ e. nat_lt text_limit e.size) reading.entries) (Err (TooLarge Text)) (Ok reading))) (ap (nat_lt record_limit) count ∙ few)
      ∙ ap (λ b. cond b (Err (TooLarge Text)) (Ok reading)) any

pub same_ends : (scans : List FileScan) → map (λ (s : FileScan). (s.number, s.scan.end)) scans ≡ scan_ends (map file_scan_parts scans)
same_ends [] = refl
same_ends (s ∷ rest) = ap (λ l. (s.number, s.scan.end) ∷ l) (same_ends rest)
