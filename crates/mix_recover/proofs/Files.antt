-- Data files are scanned one after the other.
use Rattle.std.proofs.Common.{◌≡◌, ℕ, zero, suc, ◌+◌, ◌*◌, ◌<◌, ◌≤◌, List, [], ◌∷◌, ◌++◌, length, map, take, drop, get_or, Bool, true, false, ◌||◌, refl, sym, ap, ◌∙◌, subst, arith, nat_lt}
use Rattle.std.specs.Prelude.{slice_index_or, All}
use Rattle.std.specs.List.{list_any}
use Rattle.std.specs.List.Sorted.{IsStrictlyIncreasing}
use Rattle.std.proofs.lemmas.List.{take_more, map-append, length-map, take_all, get_or-map, take-append-drop}
use Rattle.std.proofs.lemmas.List.Sums.{sum_by-append}
use Rattle.std.proofs.lemmas.Bool.Decides.{nat_tests}
use Rattle.file_model.specs.Disk.{seen}
use Rattle.file_model.specs.Histories.{History, Now}
use Rattle.file_model.specs.Images.{Image, text_at, names_in}
use Rattle.mail_types.specs.Limits.{file_limit}
use Rattle.mix_data.specs.DataFiles.{DataFile, data_files_at, data_path}
use Rattle.mix_data.specs.Scans.{scan_of, scan_parts}
use Rattle.mix_recover.specs.declared.scans.FileScan.{FileScan}
use Rattle.mix_recover.specs.Listings.{FileScanParts, file_scan_parts, scans_of}
use Rattle.mix_data.proofs.HexNames.{are_named}
use Rattle.mix_recover.specs.Orders.{NumbersRise}
use Rattle.mix_recover.specs.Reads.{AreShort, scan_reads}

no_file : DataFile
no_file = record { number = 0; bytes = [] }

-- the file of a number
file_at : (dir : List ℕ) (image : Image) (numbers : List ℕ) (i number : ℕ) → numbers ≡ map (λ d. d.number) (data_files_at image dir)
    → All (λ d. text_at image (data_path dir d.number) ≡ d.bytes) (data_files_at image dir) → i < length numbers → number ≡ slice_index_or numbers i number
    → ((get_or (data_files_at image dir) i no_file).number ≡ number) × (text_at image (data_path dir number) ≡ (get_or (data_files_at image dir) i no_file).bytes) × (i < length (data_files_at image dir))
file_at dir image numbers i number are named inside is =
    let files = data_files_at image dir in
    let near : i < length files = omega (arith, inside, ap length are, length-map files (λ d. d.number)) in
    let same : (get_or files i no_file).number ≡ number = sym (get_or-map (λ d. d.number) files i no_file number near) ∙ ap (λ l. get_or l i number) (sym are) ∙ sym is in
    (same, subst (λ n. text_at image (data_path dir n) ≡ (get_or files i no_file).bytes) same (named i no_file near), near)

one_more : (files : List DataFile) (i : ℕ) → i < length files
    → scans_of (take (i + 1) files) ≡ scans_of (take i files) ++ record { number = (get_or files i no_file).number; scan = scan_of (get_or files i no_file).bytes } ∷ []
one_more files i inside =
    ap scans_of (take_more files i no_file inside) ∙ map-append (λ (d : DataFile). record { number = d.number; scan = scan_of d.bytes }) (take i files) (get_or files i no_file ∷ [])

reads_push : (scans : List FileScanParts) (one : FileScanParts) → scan_reads (scans ++ one ∷ []) ≡ scan_reads scans + 45 * (length one.scan.records + 1)
reads_push scans one = omega (arith, sum_by-append (λ (s : FileScanParts). 45 * (length s.scan.records + 1)) scans (one ∷ []))

reads_front : (scans : List FileScanParts) (rest : List FileScanParts) → scan_reads scans ≤ scan_reads (scans ++ rest)
reads_front scans rest = omega (arith, sum_by-append (λ (s : FileScanParts). 45 * (length s.scan.records + 1)) scans rest)

-- the scans of some files read no more than those of all
reads_within : (files : List DataFile) (i : ℕ) → scan_reads (scans_of (take i files)) ≤ scan_reads (scans_of files)
reads_within files i =
    subst (λ l. scan_reads (scans_of (take i files)) ≤ scan_reads l) (sym (map-append (λ (d : DataFile). record { number = d.number; scan = scan_of d.bytes }) (take i files) (drop i files)) ∙ ap scans_of (take-append-drop i files))
    (reads_front (scans_of (take i files)) (scans_of (drop i files)))

-- ---- On a host

abbrev pub AreNumbers : List ℕ → List ℕ → History → Type 0
AreNumbers dir numbers h = Now h (λ w. numbers ≡ map (λ d. d.number) (data_files_at (seen w.disk) dir))

abbrev pub AreNamed : List ℕ → History → Type 0
AreNamed dir h = Now h (λ w. All (λ d. text_at (seen w.disk) (data_path dir d.number) ≡ d.bytes) (data_files_at (seen w.disk) dir))

abbrev pub AreScanned : List ℕ → List FileScan → ℕ → History → Type 0
AreScanned dir scans i h = Now h (λ w. map file_scan_parts scans ≡ scans_of (take i (data_files_at (seen w.disk) dir)))

abbrev pub ReadsSome : List ℕ → ℕ → ℕ → ℕ → History → Type 0
ReadsSome dir start now i h = Now h (λ w. now ≤ start + scan_reads (scans_of (take i (data_files_at (seen w.disk) dir))))

module _ (dir numbers : List ℕ) where
  pub scanned_more : (h : History) (i : ℕ) (old new : List FileScan) (item : FileScan) → AreNumbers dir numbers h → AreNamed dir h → AreScanned dir old i h → i < length numbers → item.number ≡ slice_index_or numbers i item.number
      → Now h (λ w. scan_parts item.scan ≡ scan_of (text_at (seen w.disk) (data_path dir item.number))) → new ≡ old ++ item ∷ [] → AreScanned dir new (i + 1) h
  scanned_more [] i old new item are named is inside at scan more = tt
  scanned_more (w ∷ past) i old new item are named is inside at scan more =
      let files = data_files_at (seen w.disk) dir in
      let here = file_at dir (seen w.disk) numbers i item.number are named inside at in
      ap (map file_scan_parts) more ∙ map-append file_scan_parts old (item ∷ [])
      ∙ (λ j. is j ++ record { number = sym here.0 j; scan = (scan ∙ ap scan_of here.1) j } ∷ []) ∙ sym (one_more files i here.2)

  pub reads_more : (h : History) (i number start before after : ℕ) → AreNumbers dir numbers h → AreNamed dir h → i < length numbers → number ≡ slice_index_or numbers i number
      → ReadsSome dir start before i h → Now h (λ w. after ≤ before + 45 * (length (scan_of (text_at (seen w.disk) (data_path dir number))).records + 1)) → ReadsSome dir start after (i + 1) h
  reads_more [] i number start before after are named inside at was reads = tt
  reads_more (w ∷ past) i number start before after are named inside at was reads =
      let files = data_files_at (seen w.disk) dir in
      let here = file_at dir (seen w.disk) numbers i number are named inside at in
      let d = get_or files i no_file in
      let more = ap scan_reads (one_more files i here.2) ∙ reads_push (scans_of (take i files)) (record { number = d.number; scan = scan_of d.bytes }) in
      let count : length (scan_of (text_at (seen w.disk) (data_path dir number))).records ≡ length (scan_of d.bytes).records = ap (λ t. length (scan_of t).records) here.1 in
      omega (arith, was, reads, more, count)

  pub short_one : (h : History) (i number : ℕ) → AreNumbers dir numbers h → AreNamed dir h → i < length numbers → number ≡ slice_index_or numbers i number
      → Now h (λ w. AreShort (data_files_at (seen w.disk) dir)) → Now h (λ w. length (text_at (seen w.disk) (data_path dir number)) ≤ 536870912)
  short_one [] i number are named inside at short = tt
  short_one (w ∷ past) i number are named inside at short =
      let files = data_files_at (seen w.disk) dir in
      let here = file_at dir (seen w.disk) numbers i number are named inside at in
      let one : nat_lt file_limit (length (get_or files i no_file).bytes) ≡ false = none_long files i here.2 short in
      let limit : length (get_or files i no_file).bytes ≤ 536870912 = grind (arith, nat_tests, one) in
      subst (λ t. length t ≤ 536870912) (sym here.1) limit
    where
      first_false : (a b : Bool) → (a || b) ≡ false → a ≡ false
      first_false true b is = absurd (cc)
      first_false false b is = refl

      second_false : (a b : Bool) → (a || b) ≡ false → b ≡ false
      second_false true b is = absurd (cc)
      second_false false b is = is

      none_long : (files : List DataFile) (i : ℕ) → i < length files → list_any (λ (d : DataFile). nat_lt file_limit (length d.bytes)) files ≡ false → nat_lt file_limit (length (get_or files i no_file).bytes) ≡ false
      none_long [] i inside none = absurd (omega (arith, inside))
      none_long (d ∷ files) zero inside none = first_false _ _ none
      none_long (d ∷ files) (suc i) inside none = none_long files i (omega (arith, inside)) (second_false (nat_lt file_limit (length d.bytes)) _ none)

  pub reads_all : (h : History) (i start now : ℕ) → ReadsSome dir start now i h → Now h (λ w. now ≤ start + scan_reads (scans_of (data_files_at (seen w.disk) dir)))
  reads_all [] i start now reads = tt
  reads_all (w ∷ past) i start now reads = omega (arith, reads, reads_within (data_files_at (seen w.disk) dir) i)

  pub scanned_all : (h : History) (i : ℕ) (scans : List FileScan) → AreNumbers dir numbers h → length numbers ≤ i → AreScanned dir scans i h → Now h (λ w. map file_scan_parts scans ≡ scans_of (data_files_at (seen w.disk) dir))
  scanned_all [] i scans are done is = tt
  scanned_all (w ∷ past) i scans are done is =
      let files = data_files_at (seen w.disk) dir in
      is ∙ ap scans_of (take_all i files (omega (arith, done, ap length are, length-map files (λ d. d.number))))

-- the numbers of the scans rise as the numbers do
pub numbers_up : (numbers : List ℕ) (i : ℕ) (scans : List FileScan) → IsStrictlyIncreasing numbers → length numbers ≤ i → map (λ (s : FileScan). s.number) scans ≡ take i numbers → NumbersRise scans
numbers_up numbers i scans up done are k d inside =
    let all : map (λ (s : FileScan). s.number) scans ≡ numbers = are ∙ take_all i numbers done in
    let long : length scans ≡ length numbers = sym (length-map scans (λ s. s.number)) ∙ ap length all in
    let one : (get_or scans k d).number ≡ get_or numbers k 0 = sym (get_or-map (λ (s : FileScan). s.number) scans k d 0 (omega (arith, inside))) ∙ ap (λ l. get_or l k 0) all in
    let two : (get_or scans (k + 1) d).number ≡ get_or numbers (k + 1) 0 = sym (get_or-map (λ (s : FileScan). s.number) scans (k + 1) d 0 inside) ∙ ap (λ l. get_or l (k + 1) 0) all in
    subst (λ n. n < (get_or scans (k + 1) d).number) (sym one) (subst (λ n. get_or numbers k 0 < n) (sym two) (up k (omega (arith, inside, long))))

-- each data file stands at the path of its number, whatever the disk
pub named_now : (dir : List ℕ) (h : History) → AreNamed dir h
named_now dir [] = tt
named_now dir (w ∷ past) = are_named (seen w.disk) dir (names_in (seen w.disk) dir)
