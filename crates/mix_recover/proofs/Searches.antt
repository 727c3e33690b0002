-- What is searched for in a rising list.
use Rattle.std.proofs.Common.{◌≡◌, ℕ, zero, suc, ◌+◌, ◌-◌, ◌⊎◌, inl, inr, ◌<◌, ◌≤◌, List, [], ◌∷◌, length, map, get_or, Bool, true, false, cond, refl, sym, ap, ◌∙◌, subst, arith, nat_lt, ◌==◌, ◌||◌, ◌&&◌}
use Rattle.std.specs.Prelude.{slice_index_or}
use Rattle.std.specs.List.{list_any, HoldsAt}
use Rattle.std.specs.List.Sorted.{IsPartitionPoint, IsNonDecreasingBy}
use Rattle.std.specs.Ordering.{nat_cmp, is_lt, ordering_index}
use Rattle.std.specs.Cmp.{nat_cmp_total}
use Rattle.std.specs.FinMap.{nat_cmp-IsAntisymmetric}
use Rattle.std.specs.declared.cmp.Ordering.TheVariants.{Less, Equal, Greater}
use Rattle.std.proofs.lemmas.List.Sorted.{searchable_from_sorted}
use Rattle.std.proofs.lemmas.Bool.Decides.{nat_tests}
use Rattle.std.proofs.lemmas.Bool.{eqb-true, eqb-false, true≢false}
use Rattle.mix_index.specs.Entries.{EntryParts}
use Rattle.mix_data.specs.declared.scan.Placed.{Placed}
use Rattle.mix_data.specs.Scans.{placed_parts}
use Rattle.mix_recover.specs.declared.scans.FileScan.{FileScan}
use Rattle.mix_recover.specs.Listings.{FileScanParts, file_scan_parts, is_record_of, is_scanned}
use Rattle.mix_data.specs.Scans.{PlacesRise}
use Rattle.mix_recover.specs.Orders.{NumbersRise}

any_false : {X : Type 0} (test : X → Bool) (xs : List X) → ((k : ℕ) (d : X) → k < length xs → test (get_or xs k d) ≡ false) → list_any test xs ≡ false
any_false test [] none = refl
any_false test (x ∷ xs) none =
    ap (λ b. b || list_any test xs) (none 0 x (omega arith)) ∙ any_false test xs (λ k d inside. none (suc k) d (omega (arith, inside)))

any_true : {X : Type 0} (test : X → Bool) (xs : List X) (k : ℕ) (d : X) → k < length xs → test (get_or xs k d) ≡ true → list_any test xs ≡ true
any_true test [] k d inside is = absurd (omega (arith, inside))
any_true test (x ∷ xs) zero d inside is = ap (λ b. b || list_any test xs) is
any_true test (x ∷ xs) (suc k) d inside is = ap (λ b. test x || b) (any_true test xs k d (omega (arith, inside)) is) ∙ either (test x)
  where
    either : (b : Bool) → (b || true) ≡ true
    either true = refl
    either false = refl

abbrev pub Rises : {X : Type 0} → (X → ℕ) → List X → Type 0
Rises {X} key xs = (k : ℕ) (d : X) → k + 1 < length xs → key (slice_index_or xs k d) < key (slice_index_or xs (k + 1) d)

-- an element is below all that follow
rises_far : {X : Type 0} (key : X → ℕ) (xs : List X) → Rises key xs → (i n : ℕ) (d : X) → i + suc n < length xs → key (get_or xs i d) < key (get_or xs (i + suc n) d)
rises_far key xs up i zero d inside = let next : i + 1 ≡ i + suc zero = omega arith in subst (λ j. key (get_or xs i d) < key (get_or xs j d)) next (up i d (omega (arith, inside)))
rises_far key xs up i (suc n) d inside =
    let before = rises_far key xs up i n d (omega (arith, inside)) in
    let last = up (i + suc n) d (omega (arith, inside)) in
    let next : i + suc n + 1 ≡ i + suc (suc n) = omega arith in
    subst (λ j. key (get_or xs i d) < key (get_or xs j d)) next (omega (arith, before, last))

apart : {X : Type 0} (key : X → ℕ) (xs : List X) → Rises key xs → (i k : ℕ) (d : X) → i < length xs → k < length xs → key (get_or xs i d) ≡ key (get_or xs k d) → (i < k → ⊥) × (k < i → ⊥)
apart key xs up i k d one other same = (
  (λ less. let far : i + suc (k - i - 1) ≡ k = omega (arith, less) in
      let below = subst (λ j. key (get_or xs i d) < key (get_or xs j d)) far (rises_far key xs up i (k - i - 1) d (omega (arith, far, other))) in omega (arith, below, same)),
  (λ less. let far : k + suc (i - k - 1) ≡ i = omega (arith, less) in
      let below = subst (λ j. key (get_or xs k d) < key (get_or xs j d)) far (rises_far key xs up k (i - k - 1) d (omega (arith, far, one))) in omega (arith, below, same)),
)

no_true : (b : Bool) → (b ≡ true → ⊥) → b ≡ false
no_true true never = absurd (never refl)
no_true false never = refl

pub any_default : {X : Type 0} (xs : List X) (k : ℕ) (d e : X) → k < length xs → get_or xs k d ≡ get_or xs k e
any_default [] k d e inside = absurd (omega (arith, inside))
any_default (x ∷ xs) zero d e inside = refl
any_default (x ∷ xs) (suc k) d e inside = any_default xs k d e (omega (arith, inside))

equal_by : (k i : ℕ) → (k < i → ⊥) → (i < k → ⊥) → k ≡ i
equal_by k i below above = grind (arith, below, above)

-- the element of a key is the only one that can pass a test of that key
pub found_at : {X : Type 0} (key : X → ℕ) (xs : List X) (target i : ℕ) (test : X → Bool) (item : X) → Rises key xs → i < length xs → item ≡ slice_index_or xs i item → key item ≡ target
    → ((x : X) → test x ≡ true → key x ≡ target) → list_any test xs ≡ test item
found_at {X} key xs target i test item up inside at is only = split (test item) refl
  where
    same : key (get_or xs i item) ≡ target
    same = ap key (sym at) ∙ is

    split : (b : Bool) → test item ≡ b → list_any test xs ≡ b
    split true e = any_true test xs i item inside (ap test (sym at) ∙ e)
    split false e = any_false test xs (λ k d near. no_true (test (get_or xs k d)) (λ passes. other e k d near passes))
      where
        other : test item ≡ false → (k : ℕ) (d : X) → k < length xs → test (get_or xs k d) ≡ true → ⊥
        other e k d near passes =
            let both = apart key xs up i k item inside near (same ∙ sym (only (get_or xs k item) (ap test (any_default xs k item d near) ∙ passes))) in
            let here : k ≡ i = equal_by k i both.1 both.0 in
            true≢false (sym passes ∙ ap test (any_default xs k d item near ∙ ap (λ j. get_or xs j item) here ∙ sym at) ∙ e)

not_below : (a b : ℕ) → b < a → is_lt (nat_cmp a b) ≡ false
not_below a b above = split (nat_lt a b) refl (a == b)
  where
    split : (t : Bool) → nat_lt a b ≡ t → (e : Bool) → is_lt (cond t Less (cond e Equal Greater)) ≡ false
    split true is e = absurd (let below : a < b = grind (arith, nat_tests, is) in omega (arith, below, above))
    split false is true = refl
    split false is false = refl

cmp_same : (a : ℕ) → nat_cmp a a ≡ Equal
cmp_same a = split (nat_lt a a) refl (a == a) refl
  where
    split : (t : Bool) → nat_lt a a ≡ t → (e : Bool) → (a == a) ≡ e → cond t Less (cond e Equal Greater) ≡ Equal
    split true is e same = absurd (let below : a < a = grind (arith, nat_tests, is) in omega (arith, below))
    split false is true same = refl
    split false is false same = absurd (eqb-false a a same refl)

-- where the key isn't found none has it
pub found_none : {X : Type 0} (key : X → ℕ) (xs : List X) (target i : ℕ) (test : X → Bool) → Rises key xs
    → (IsNonDecreasingBy (λ y. ordering_index (nat_cmp (key y) target)) xs → IsPartitionPoint (λ y. nat_cmp (key y) target ≡ Less) (λ y. nat_cmp (key y) target ≡ Greater) xs i)
    → ((x : X) → test x ≡ true → key x ≡ target) → false ≡ list_any test xs
found_none {X} key xs target i test up point only =
    let parts = point (searchable_from_sorted nat_cmp_total key xs target (λ k d low high. not_below (key (get_or xs (k + 1) d)) (key (get_or xs k d)) (up k d high))) in
    sym (any_false test xs (λ k d near. no_true (test (get_or xs k d)) (λ passes. never parts k d near (ap (λ n. nat_cmp n target) (only (get_or xs k d) passes) ∙ cmp_same target) (side k i))))
  where
    side : (k i : ℕ) → (k < i) ⊎ (i ≤ k)
    side k i = grind arith

    never : IsPartitionPoint (λ y. nat_cmp (key y) target ≡ Less) (λ y. nat_cmp (key y) target ≡ Greater) xs i → (k : ℕ) (d : X) → k < length xs → nat_cmp (key (get_or xs k d)) target ≡ Equal → (k < i) ⊎ (i ≤ k) → ⊥
    never parts k d near tied (inl early) = let less : Less ≡ Equal = sym (parts.0 k d (omega arith) early) ∙ tied in absurd (cc)
    never parts k d near tied (inr late) = let more : Greater ≡ Equal = sym (parts.1 k d late near) ∙ tied in absurd (cc)

any_map : {A B : Type 0} (test : B → Bool) (f : A → B) (xs : List A) → list_any test (map f xs) ≡ list_any (λ x. test (f x)) xs
any_map test f [] = refl
any_map test f (x ∷ xs) = ap (λ b. test (f x) || b) (any_map test f xs)

-- ---- Records and files

cmp_equal : (a b : ℕ) → nat_cmp a b ≡ Equal → a ≡ b
cmp_equal a b is = nat_cmp-IsAntisymmetric a b is

and_first : (a b : Bool) → (a && b) ≡ true → a ≡ true
and_first true b is = refl
and_first false b is = absurd (true≢false (sym is))

place_of_record : (entry : EntryParts) (placed : Placed) → is_record_of entry (placed_parts placed) ≡ true → placed.place ≡ entry.place
place_of_record entry placed is = eqb-true placed.place entry.place
    (and_first _ _ (and_first _ _ (and_first _ _ is)))

pub record_found : (entry : EntryParts) (records : List Placed) (i : ℕ) (item : Placed) → PlacesRise records → i < length records → item ≡ slice_index_or records i item
    → HoldsAt (λ p. nat_cmp p.place entry.place ≡ Equal) records i → list_any (is_record_of entry) (map placed_parts records) ≡ is_record_of entry (placed_parts item)
record_found entry records i item up inside at found =
    any_map (is_record_of entry) placed_parts records
    ∙ found_at (λ p. p.place) records entry.place i (λ p. is_record_of entry (placed_parts p)) item up inside at
    (ap (λ p. p.place) at ∙ cmp_equal _ _ (found item)) (λ p is. place_of_record entry p is)

pub record_missing : (entry : EntryParts) (records : List Placed) (i : ℕ) → PlacesRise records
    → (IsNonDecreasingBy (λ (p : Placed). ordering_index (nat_cmp p.place entry.place)) records → IsPartitionPoint (λ p. nat_cmp p.place entry.place ≡ Less) (λ p. nat_cmp p.place entry.place ≡ Greater) records i)
    → false ≡ list_any (is_record_of entry) (map placed_parts records)
record_missing entry records i up point =
    found_none (λ p. p.place) records entry.place i (λ p. is_record_of entry (placed_parts p)) up point (λ p is. place_of_record entry p is) ∙ sym (any_map (is_record_of entry) placed_parts records)

file_test : EntryParts → FileScanParts → Bool
file_test entry each = (each.number == entry.file) && list_any (is_record_of entry) each.scan.records

pub file_found : (entry : EntryParts) (scans : List FileScan) (i : ℕ) (item : FileScan) → NumbersRise scans → i < length scans → item ≡ slice_index_or scans i item
    → HoldsAt (λ s. nat_cmp s.number entry.file ≡ Equal) scans i → is_scanned (map file_scan_parts scans) entry ≡ list_any (is_record_of entry) (map placed_parts item.scan.records.items)
unfolding file_test
file_found entry scans i item up inside at found =
    let number : item.number ≡ entry.file = ap (λ s. s.number) at ∙ cmp_equal _ _ (found item) in
    any_map (file_test entry) file_scan_parts scans
    ∙ found_at (λ s. s.number) scans entry.file i (λ s. file_test entry (file_scan_parts s)) item up inside at number (λ s is. eqb-true s.number entry.file (and_first _ _ is))
    ∙ ap (λ n. (n == entry.file) && list_any (is_record_of entry) (map placed_parts item.scan.records.items)) number
    ∙ ap (λ b. b && list_any (is_record_of entry) (map placed_parts item.scan.records.items)) (same_eqb entry.file)
  where
    same_eqb : (n : ℕ) → (n == n) ≡ true
    same_eqb n = grind arith

pub file_missing : (entry : EntryParts) (scans : List FileScan) (i : ℕ) → NumbersRise scans
    → (IsNonDecreasingBy (λ (s : FileScan). ordering_index (nat_cmp s.number entry.file)) scans → IsPartitionPoint (λ s. nat_cmp s.number entry.file ≡ Less) (λ s. nat_cmp s.number entry.file ≡ Greater) scans i)
    → false ≡ is_scanned (map file_scan_parts scans) entry
unfolding file_test
file_missing entry scans i up point =
    found_none (λ s. s.number) scans entry.file i (λ s. file_test entry (file_scan_parts s)) up point (λ s is. eqb-true s.number entry.file (and_first _ _ is))
    ∙ sym (any_map (file_test entry) file_scan_parts scans)
