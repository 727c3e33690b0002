-- A listing is rebuilt in a map.
use Rattle.std.proofs.Common.{◌≡◌, ℕ, ◌+◌, ◌<◌, List, [], ◌∷◌, ◌++◌, map, fold, take, length, Bool, true, false, cond, refl, sym, ap, ◌∙◌, subst, arith, nat_lt, ◌==◌, ◌&&◌, ◌≢◌}
use Rattle.std.specs.Prelude.{slice_index_or, IfOk, Result, Ok, Err, vec_items}
use Rattle.std.proofs.Common.{Vec, Global}
use Rattle.std.specs.Prelude.{All}
use Rattle.std.specs.List.{flat_map, AllByRecursion}
use Rattle.std.proofs.lemmas.List.Elements.{All-from_recursion}
use Rattle.std.proofs.lemmas.Bool.{eqb-true, eqb-false}
use Rattle.std.proofs.lemmas.Bool.Decides.{nat_tests}
use Rattle.mix_records.specs.Records.{rise_from}
use Rattle.std.proofs.lemmas.List.{take_more, map-append, flat_map_more}
use Rattle.std.specs.Ordering.{nat_cmp, match_ordering}
use Rattle.std.specs.declared.cmp.Ordering.TheVariants.{Less, Equal, Greater}
use Rattle.std.specs.BTreeMap.{BTreeMap, insert_entry}
use Rattle.mix_index.specs.declared.entry.Entry.{Entry}
use Rattle.mix_index.specs.Entries.{EntryParts, entry_parts, entry_form}
use Rattle.mix_data.specs.Scans.{PlacedParts, placed_parts}
use Rattle.mix_recover.specs.declared.scans.FileScan.{FileScan}
use Rattle.mix_recover.specs.Listings.{FileScanParts, file_scan_parts, rebuilt, rebuilt_entry, scanned, with_entry}
use Rattle.mix_recover.specs.Rebuilding.{IsByUid, listed_in}

abbrev keys : List (ℕ × Entry) → List ℕ
keys es = map (λ e. e.0) es

abbrev uids : List (ℕ × Entry) → List ℕ
uids es = map (λ e. e.1.uid) es

abbrev listed : List (ℕ × Entry) → List EntryParts
listed es = map (λ e. entry_parts e.1) es

-- one entry more in a map is one more in the listing
insert_both : (es : List (ℕ × Entry)) (entry : Entry) → keys es ≡ uids es
    → (keys (insert_entry nat_cmp es entry.uid entry) ≡ uids (insert_entry nat_cmp es entry.uid entry)) × (listed (insert_entry nat_cmp es entry.uid entry) ≡ with_entry (listed es) (entry_parts entry))
insert_both [] entry same = (refl, refl)
insert_both (e ∷ es) entry same =
    let key : e.0 ≡ e.1.uid = cc in
    let rest : keys es ≡ uids es = cc in
    at (nat_lt entry.uid e.0) (entry.uid == e.0) refl refl key rest (insert_both es entry rest)
  where
    at : (below same : Bool) → nat_lt entry.uid e.0 ≡ below → (entry.uid == e.0) ≡ same → e.0 ≡ e.1.uid → keys es ≡ uids es
        → (keys (insert_entry nat_cmp es entry.uid entry) ≡ uids (insert_entry nat_cmp es entry.uid entry)) × (listed (insert_entry nat_cmp es entry.uid entry) ≡ with_entry (listed es) (entry_parts entry))
        → (keys (match_ordering (cond below Less (cond same Equal Greater)) ((entry.uid, entry) ∷ e ∷ es) ((e.0, entry) ∷ es) (e ∷ insert_entry nat_cmp es entry.uid entry))
        ≡ uids (match_ordering (cond below Less (cond same Equal Greater)) ((entry.uid, entry) ∷ e ∷ es) ((e.0, entry) ∷ es) (e ∷ insert_entry nat_cmp es entry.uid entry)))
        × (listed (match_ordering (cond below Less (cond same Equal Greater)) ((entry.uid, entry) ∷ e ∷ es) ((e.0, entry) ∷ es) (e ∷ insert_entry nat_cmp es entry.uid entry))
        ≡ cond (nat_lt entry.uid e.1.uid) (entry_parts entry ∷ entry_parts e.1 ∷ listed es) (cond (entry.uid == e.1.uid) (entry_parts entry ∷ listed es) (entry_parts e.1 ∷ with_entry (listed es) (entry_parts entry))))
    at true same b s key rest later = (
      (λ i. entry.uid ∷ key i ∷ rest i),
      ap (λ t. cond t (entry_parts entry ∷ entry_parts e.1 ∷ listed es) (cond (entry.uid == e.1.uid) (entry_parts entry ∷ listed es) (entry_parts e.1 ∷ with_entry (listed es) (entry_parts entry))))
          (sym b ∙ ap (nat_lt entry.uid) key),
    )
    at false true b s key rest later = (
      (λ i. sym (eqb-true entry.uid e.0 s) i ∷ rest i),
      (λ i. cond ((sym b ∙ ap (nat_lt entry.uid) key) i) (entry_parts entry ∷ entry_parts e.1 ∷ listed es)
          (cond ((sym s ∙ ap (λ n. entry.uid == n) key) i) (entry_parts entry ∷ listed es) (entry_parts e.1 ∷ with_entry (listed es) (entry_parts entry)))),
    )
    at false false b s key rest later = (
      (λ i. key i ∷ later.0 i),
      ap (λ l. entry_parts e.1 ∷ l) later.1
          ∙ (λ i. cond ((sym b ∙ ap (nat_lt entry.uid) key) i) (entry_parts entry ∷ entry_parts e.1 ∷ listed es)
          (cond ((sym s ∙ ap (λ n. entry.uid == n) key) i) (entry_parts entry ∷ listed es) (entry_parts e.1 ∷ with_entry (listed es) (entry_parts entry)))),
    )

pub inserted : (old new : BTreeMap ℕ Entry) (entry : Entry) → IsByUid old → new.entries ≡ insert_entry nat_cmp old.entries entry.uid entry
    → IsByUid new × (listed_in new ≡ with_entry (listed_in old) (entry_parts entry))
inserted old new entry by is =
    let both = insert_both old.entries entry by in
    (ap keys is ∙ both.0 ∙ sym (ap uids is), ap listed is ∙ both.1)

-- what no key has is an empty listing
pub none_listed : (m : BTreeMap ℕ Entry) → m.entries ≡ [] → IsByUid m × (listed_in m ≡ [])
none_listed m is = (ap keys is ∙ sym (ap uids is), ap listed is)

-- ---- The loops

fold_push : {A B : Type 0} (f : B → A → B) (start : B) (xs : List A) (x : A) → fold f start (xs ++ x ∷ []) ≡ f (fold f start xs) x
fold_push f start [] x = refl
fold_push f start (y ∷ xs) x = fold_push f (f start y) xs x

pub fold_append : {A B : Type 0} (f : B → A → B) (start : B) (xs ys : List A) → fold f start (xs ++ ys) ≡ fold f (fold f start xs) ys
fold_append f start [] ys = refl
fold_append f start (x ∷ xs) ys = fold_append f (f start x) xs ys

pub list_step : {A : Type 0} (f : A → EntryParts) (items : List A) (index : ℕ) (item : A) (start : List EntryParts) → index < length items → item ≡ slice_index_or items index item
    → fold with_entry start (map f (take (index + 1) items)) ≡ with_entry (fold with_entry start (map f (take index items))) (f item)
list_step f items index item start inside is =
    ap (λ l. fold with_entry start (map f l)) (take_more items index item inside) ∙ ap (fold with_entry start) (map-append f (take index items) (slice_index_or items index item ∷ []))
    ∙ fold_push with_entry start (map f (take index items)) (f (slice_index_or items index item)) ∙ ap (λ x. with_entry (fold with_entry start (map f (take index items))) (f x)) (sym is)

map_twice : {A B C : Type 0} (f : B → C) (g : A → B) (xs : List A) → map f (map g xs) ≡ map (λ x. f (g x)) xs
map_twice f g [] = refl
map_twice f g (x ∷ xs) = ap (λ l. f (g x) ∷ l) (map_twice f g xs)

-- the records of the scans so far, and of one more
pub scans_step : (scans : List FileScan) (index : ℕ) (item : FileScan) (start : List EntryParts) → index < length scans → item ≡ slice_index_or scans index item
    → fold with_entry start (scanned (map file_scan_parts (take (index + 1) scans)))
    ≡ fold with_entry (fold with_entry start (scanned (map file_scan_parts (take index scans)))) (map (λ p. rebuilt_entry item.number (placed_parts p)) item.scan.records.items)
unfolding scanned
scans_step scans index item start inside is =
    let each = λ (s : FileScanParts). map (rebuilt_entry s.number) s.scan.records in
    ap (λ l. fold with_entry start (flat_map each (map file_scan_parts l))) (take_more scans index item inside ∙ ap (λ x. take index scans ++ x ∷ []) (sym is))
    ∙ ap (λ l. fold with_entry start (flat_map each l)) (map-append file_scan_parts (take index scans) (item ∷ []))
    ∙ ap (fold with_entry start) (sym (flat_map_more each [] (map file_scan_parts (take index scans)) (file_scan_parts item)))
    ∙ fold_append with_entry start (flat_map each (map file_scan_parts (take index scans))) (each (file_scan_parts item))
    ∙ ap (fold with_entry (fold with_entry start (flat_map each (map file_scan_parts (take index scans))))) (map_twice (rebuilt_entry item.number) placed_parts item.scan.records.items)

-- the values of the map are the listing
pub listing_is : {Z E : Type 0} (result : Result (Vec Entry Z) E) (m : BTreeMap ℕ Entry) (scans some : List FileScan) → listed_in m ≡ fold with_entry [] (scanned (map file_scan_parts some)) → some ≡ scans
    → (rest : List Entry) → rest ≡ map (λ e. e.1) m.entries → IfOk result (λ v. vec_items v ≡ rest) → IfOk result (λ v. map entry_parts v.items ≡ rebuilt (map file_scan_parts scans))
unfolding rebuilt
listing_is (Err e) m scans some listed all rest values ok = ok
listing_is (Ok v) m scans some listed all rest values ok =
    ap (map entry_parts) (ok ∙ values) ∙ map_twice entry_parts (λ e. e.1) m.entries ∙ listed ∙ ap (λ l. fold with_entry [] (scanned (map file_scan_parts l))) all

-- ---- UIDs rise

rise_with : (last : ℕ) (entries : List EntryParts) (entry : EntryParts) → rise_from entry_form last entries ≡ true → nat_lt last entry.uid ≡ true → rise_from entry_form last (with_entry entries entry) ≡ true
rise_with last [] entry rises above = ap (λ b. b && true) above
rise_with last (first ∷ rest) entry rises above =
    let parts = both_parts (nat_lt last first.uid) (rise_from entry_form first.uid rest) rises in
    at (nat_lt entry.uid first.uid) refl (entry.uid == first.uid) refl parts.0 parts.1 (λ less. rise_with first.uid rest entry parts.1 less)
  where
    both_parts : (a b : Bool) → (a && b) ≡ true → (a ≡ true) × (b ≡ true)
    both_parts true b is = (refl, is)
    both_parts false b is = absurd (cc)

    after : nat_lt entry.uid first.uid ≡ false → (entry.uid == first.uid) ≡ false → nat_lt first.uid entry.uid ≡ true
    after below same = grind (arith, nat_tests, below, eqb-false entry.uid first.uid same)

    at : (below : Bool) → nat_lt entry.uid first.uid ≡ below → (same : Bool) → (entry.uid == first.uid) ≡ same → nat_lt last first.uid ≡ true → rise_from entry_form first.uid rest ≡ true
        → (nat_lt first.uid entry.uid ≡ true → rise_from entry_form first.uid (with_entry rest entry) ≡ true)
        → rise_from entry_form last (cond below (entry ∷ first ∷ rest) (cond same (entry ∷ rest) (first ∷ with_entry rest entry))) ≡ true
    at true b same s one two later = (λ i. above i && (b i && two i))
    at false b true s one two later = (λ i. above i && subst (λ n. rise_from entry_form n rest ≡ true) (sym (eqb-true entry.uid first.uid s)) two i)
    at false b false s one two later = (λ i. one i && later (after b s) i)

pub rise_inserted : (old new : List EntryParts) (entry : EntryParts) → rise_from entry_form 0 old ≡ true → entry.uid ≢ 0 → new ≡ with_entry old entry → rise_from entry_form 0 new ≡ true
rise_inserted old new entry rises some is =
    let above : nat_lt 0 entry.uid ≡ true = grind (arith, nat_tests, some) in
    subst (λ l. rise_from entry_form 0 l ≡ true) (sym is) (rise_with 0 old entry rises above)

pub listing_rises : {Z E : Type 0} (result : Result (Vec Entry Z) E) (m : BTreeMap ℕ Entry) → rise_from entry_form 0 (listed_in m) ≡ true
    → (rest : List Entry) → rest ≡ map (λ e. e.1) m.entries → IfOk result (λ v. vec_items v ≡ rest) → IfOk result (λ v. rise_from entry_form 0 (map entry_parts v.items) ≡ true)
listing_rises (Err e) m rises rest values ok = ok
listing_rises (Ok v) m rises rest values ok =
    ap (rise_from entry_form 0) (ap (map entry_parts) (ok ∙ values) ∙ map_twice entry_parts (λ e. e.1) m.entries) ∙ rises

-- ---- Its heads

abbrev HeadsIn : List EntryParts → Type 0
HeadsIn entries = AllByRecursion (λ (e : EntryParts). e.head ≡ 45) entries

heads_with : (entries : List EntryParts) (entry : EntryParts) → HeadsIn entries → entry.head ≡ 45 → HeadsIn (with_entry entries entry)
heads_with [] entry all is = (is, tt)
heads_with (first ∷ rest) entry all is = at (nat_lt entry.uid first.uid) (entry.uid == first.uid) (heads_with rest entry all.1 is)
  where
    at : (below same : Bool) → HeadsIn (with_entry rest entry) → HeadsIn (cond below (entry ∷ first ∷ rest) (cond same (entry ∷ rest) (first ∷ with_entry rest entry)))
    at true same more = (is, all)
    at false true more = (is, all.1)
    at false false more = (all.0, more)

heads_fold : (entries more : List EntryParts) → HeadsIn entries → HeadsIn more → HeadsIn (fold with_entry entries more)
heads_fold entries [] all found = all
heads_fold entries (e ∷ more) all found = heads_fold (with_entry entries e) more (heads_with entries e all found.0) found.1

heads_append : (one other : List EntryParts) → HeadsIn one → HeadsIn other → HeadsIn (one ++ other)
heads_append [] other all more = more
heads_append (e ∷ one) other all more = (all.0, heads_append one other all.1 more)

heads_found : (number : ℕ) (records : List PlacedParts) → HeadsIn (map (rebuilt_entry number) records)
heads_found number [] = tt
heads_found number (p ∷ records) = (refl, heads_found number records)

heads_scanned : (scans : List FileScanParts) → HeadsIn (scanned scans)
unfolding scanned
heads_scanned [] = tt
heads_scanned (each ∷ scans) = heads_append (map (rebuilt_entry each.number) each.scan.records) (scanned scans) (heads_found each.number each.scan.records) (heads_scanned scans)

heads_rebuilt : (scans : List FileScanParts) → HeadsIn (rebuilt scans)
unfolding rebuilt
heads_rebuilt scans = heads_fold [] (scanned scans) tt (heads_scanned scans)

heads_back : (entries : List Entry) → HeadsIn (map entry_parts entries) → AllByRecursion (λ (e : Entry). e.head ≡ 45) entries
heads_back [] all = tt
heads_back (e ∷ entries) all = (all.0, heads_back entries all.1)

-- each entry that is rebuilt has the head size of its record
pub listing_heads : {E : Type 0} (result : Result (Vec Entry Global) E) (scans : List FileScanParts) → IfOk result (λ v. map entry_parts v.items ≡ rebuilt scans) → IfOk result (λ v. All (λ (e : Entry). e.head ≡ 45) v.items)
listing_heads (Ok v) scans is = All-from_recursion (λ (e : Entry). e.head ≡ 45) v.items (heads_back v.items (subst HeadsIn (sym is) (heads_rebuilt scans)))
listing_heads (Err e) scans is = tt
