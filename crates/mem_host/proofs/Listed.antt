-- The names of a map, in their order.
use Rattle.std.proofs.Common.{◌≡◌, ◌≢◌, ℕ, ◌+◌, ◌<◌, ◌≤◌, List, [], ◌∷◌, ◌++◌, take, drop, map, length, Bool, true, false, not, cond, nat_eq, ◌&&◌, Option, Some, None, Result, Ok, Err, IfOk, Vec, String, Global, refl, sym, ◌∙◌, ap, subst, arith, slice_index_or, T, string_bytes, append-nil, append_assoc, length-append, inl, inr}
use Rattle.std.proofs.lemmas.Bool.Decides.{Decides-eqb}
use Rattle.std.proofs.lemmas.Slice.Eq.{strip_prefix_is}
use Rattle.std.proofs.Math.Seq.{get_or-append_seam, take-append_seam, drop-append_seam, take-length}
use Rattle.std.proofs.lemmas.List.{take-append-drop}
use Rattle.std.specs.Option.{MatchOption, option_map}
use Rattle.std.specs.Borrow.{Bor}
use Rattle.std.specs.declared.cmp.Ordering.{Ordering}
use Rattle.std.specs.declared.cmp.Ordering.TheVariants.{Less, Equal}
use Rattle.std.specs.Ordering.{is_eq, is_lt, nat_cmp}
use Rattle.std.specs.Cmp.Lexicographic.{slice_cmp}
use Rattle.std.specs.List.{AllByRecursion, filter}
use Rattle.std.specs.List.Sorted.{IsStrictlySortedBy}
use Rattle.std.specs.Map.{lookup}
use Rattle.std.specs.BTreeMap.{BTreeMap, is_at}
use Rattle.std.proofs.lemmas.Cmp.{nat_list_cmp_total}
use Rattle.std.specs.FinMap.{from_entries, empty, get-empty, entries, entries_sorted, get-entries, get-retain_keys, retain_keys, slice_cmp-IsAntisymmetric, nat_cmp-IsAntisymmetric}
use Rattle.std.specs.FinMap.Entries.{find, is_sorted, below_all, same_entries, is_sorted-where_key, find-where_key}
use Rattle.std.proofs.lemmas.Map.Lookups.{exact_bytes}
use Rattle.mem_host.specs.Mirrored.{entry_of, place_entry, Shows, shown, stays}
use Rattle.mem_host.specs.declared.names.Place.{Place}
use Rattle.std.specs.Prelude.{IsSome, slice_index}
use Rattle.std.specs.Cmp.Lexicographic.{pointwise}
use Rattle.file_model.specs.Paths.{child, split_path, is_at_or_inside, HasNoSlash}
use Rattle.file_model.specs.Disk.{moved_path}
use Rattle.file_model.specs.Images.{Entry, Names, path_cmp, name_within}
use Rattle.file_model.proofs.Paths.{parts, split_child}
use Rattle.file_model.proofs.NamesIn.{within_child, within_is, is_plain, plain_is}
use Rattle.file_model.proofs.Inside.{at_or_inside_rest, under_is, Slash}

-- ---- What stands behind a directory's path

-- what `strip_prefix` says
abbrev pub Strips : List ℕ → List ℕ → Option (Bor (List ℕ)) → Type 0
Strips path dir r = MatchOption r ((rest : List ℕ) → path ≢ dir ++ rest) (λ x. path ≡ dir ++ x.now)

abbrev Cases : List ℕ → List ℕ → Option (Bor (List ℕ)) → Type 0
Cases s p r = MatchOption r (pointwise nat_eq (take (length p) s) p ≡ false) (λ x. (pointwise nat_eq (take (length p) s) p ≡ true) × (x.now ≡ drop (length p) s) × (length x.now + length p ≡ length s))

pub stripped : (path dir s p : List ℕ) (r : Option (Bor (List ℕ))) → s ≡ path → p ≡ dir → Cases s p r → Strips path dir r
stripped path dir s p r one other cases = subst (λ a. Strips a dir r) one (subst (λ b. Strips s b r) other (strip_prefix_is Decides-eqb s p r cases))

pub rest_empty : (dir path rest : List ℕ) → path ≡ dir ++ rest → length rest ≡ 0 → true ≡ is_at_or_inside dir path
rest_empty dir path [] whole none = sym (ap (is_at_or_inside dir) whole ∙ at_or_inside_rest dir [])
rest_empty dir path (b ∷ rest) whole none = absurd (omega arith)

pub rest_slash : (dir path rest : List ℕ) → path ≡ dir ++ rest → (length rest ≡ 0 → ⊥) → nat_eq (slice_index_or rest 0 0) 47 ≡ is_at_or_inside dir path
rest_slash dir path [] whole some = absurd (some refl)
rest_slash dir path (b ∷ rest) whole some = sym (ap (is_at_or_inside dir) whole ∙ at_or_inside_rest dir (b ∷ rest))

-- ---- The name of a path in a directory

pub names_child : (dir path : List ℕ) (parent name : List ℕ) → Some (parent, name) ≡ split_path path → parent ≡ dir → Some name ≡ name_within dir path
names_child dir path parent name is same =
    let w = parts path (subst (λ s. IsSome s) is refl) in
    let two : (parent, name) ≡ (w.dir, w.name) = one_pair (is ∙ w.split) in
    let whole : path ≡ child dir name = w.whole ∙ (λ i. child ((sym (ap (λ p. p.0) two) ∙ same) i) (sym (ap (λ p. p.1) two) i)) in
    sym (ap (name_within dir) whole ∙ within_child dir name ∙ ap (λ b. cond (not b) (Some name) None) (is_plain name (subst HasNoSlash (sym (ap (λ p. p.1) two)) w.plain)))
  where
    one_pair : {one other : List ℕ × List ℕ} → Some one ≡ Some other → one ≡ other
    one_pair e = cc

-- the parts as the model has them
abbrev pub read_parts : Option (Bor (List ℕ) × Bor (List ℕ)) → Option (List ℕ × List ℕ)
read_parts parts = option_map (λ (p : Bor (List ℕ) × Bor (List ℕ)). (p.0.now, p.1.now)) parts

pub names_none : (dir path : List ℕ) → ((parent name : List ℕ) → split_path path ≡ Some (parent, name) → parent ≡ dir → ⊥) → None ≡ name_within dir path
names_none dir path none = at (name_within dir path) refl
  where
    at : (o : Option (List ℕ)) → name_within dir path ≡ o → None ≡ name_within dir path
    at None is = sym is
    at (Some name) is = let w = within_is dir path name is in absurd (none dir name (ap split_path w.whole ∙ split_child dir name (plain_is name w.plain)) refl)

pub other_parent : (r : Option (Bor (List ℕ) × Bor (List ℕ))) (p n : Bor (List ℕ)) (parent name : List ℕ) → r ≡ Some (p, n) → read_parts r ≡ Some (parent, name) → p.now ≡ parent
other_parent r p n parent name is reads = ap first_of (ap read_parts (sym is) ∙ reads)
  where
    first_of : Option (List ℕ × List ℕ) → List ℕ
    first_of None = []
    first_of (Some pair) = pair.0

pub no_parts : (r : Option (Bor (List ℕ) × Bor (List ℕ))) (pair : List ℕ × List ℕ) → ((x : Bor (List ℕ) × Bor (List ℕ)) → r ≡ Some x → ⊥) → read_parts r ≡ Some pair → ⊥
no_parts None pair none reads = cc
no_parts (Some x) pair none reads = none x refl

-- ---- A map's entries, in order

abbrev pub Map : Type 0
Map = BTreeMap (String Global) Place

-- the order of the keys
abbrev pub key_cmp : String Global → String Global → Ordering
key_cmp a b = slice_cmp nat_cmp (string_bytes a) (string_bytes b)

less_is : (o : Ordering) → o ≡ Less → T (is_lt o)
less_is o e = subst (λ r. T (is_lt r)) (sym e) tt

below_shown : (k : String Global) (es : List (String Global × Place)) → AllByRecursion (λ y. key_cmp k y ≡ Less) (map (λ e. e.0) es) → T (below_all path_cmp (string_bytes k) (shown es))
below_shown k [] all = tt
below_shown k (e ∷ es) all = both_T (is_lt (path_cmp (string_bytes k) (string_bytes e.0))) (below_all path_cmp (string_bytes k) (shown es)) (less_is (key_cmp k e.0) all.0) (below_shown k es all.1)
  where
    both_T : (a b : Bool) → T a → T b → T (a && b)
    both_T true b p q = q
    both_T false b p q = p

sorted_shown : (es : List (String Global × Place)) → IsStrictlySortedBy key_cmp (map (λ e. e.0) es) → T (is_sorted path_cmp (shown es))
unfolding IsStrictlySortedBy
sorted_shown [] sorted = tt
sorted_shown (e ∷ es) sorted = both_T (below_all path_cmp (string_bytes e.0) (shown es)) (is_sorted path_cmp (shown es)) (below_shown e.0 es sorted.0) (sorted_shown es sorted.1)
  where
    both_T : (a b : Bool) → T a → T b → T (a && b)
    both_T true b p q = q
    both_T false b p q = p

find_shown : (q : List ℕ) (es : List (String Global × Place)) → find path_cmp q (shown es) ≡ entry_of (lookup (is_at (λ k. slice_cmp nat_cmp q (string_bytes k))) es)
find_shown q [] = refl
find_shown q (e ∷ es) = at (is_eq (path_cmp q (string_bytes e.0))) (find_shown q es)
  where
    at : (b : Bool) → find path_cmp q (shown es) ≡ entry_of (lookup (is_at (λ k. slice_cmp nat_cmp q (string_bytes k))) es)
        → cond b (Some (place_entry e.1)) (find path_cmp q (shown es)) ≡ entry_of (cond b (Some e.1) (lookup (is_at (λ k. slice_cmp nat_cmp q (string_bytes k))) es))
    at true rest = refl
    at false rest = rest

-- a map that shows names has their entries
pub entries_shown : (m : Map) (names : Names) → IsStrictlySortedBy key_cmp (map (λ e. e.0) m.entries) → Shows m names → shown m.entries ≡ entries names
entries_shown m names sorted shows = same_entries path_cmp nat_list_cmp_total (slice_cmp-IsAntisymmetric nat_cmp-IsAntisymmetric) (shown m.entries) (entries names)
    (sorted_shown m.entries sorted) (entries_sorted names) (λ q. find_shown q m.entries ∙ shows q ∙ get-entries names q)

entries_kept : (names : Names) (keeps : List ℕ → Bool) → entries (retain_keys names keeps) ≡ filter (λ e. keeps e.0) (entries names)
entries_kept names keeps = same_entries path_cmp nat_list_cmp_total (slice_cmp-IsAntisymmetric nat_cmp-IsAntisymmetric) (entries (retain_keys names keeps)) (filter (λ e. keeps e.0) (entries names))
    (entries_sorted (retain_keys names keeps)) (is_sorted-where_key path_cmp keeps (entries names) (entries_sorted names))
    (λ q. sym (get-entries (retain_keys names keeps) q) ∙ get-retain_keys names keeps q (alike q) ∙ ap (λ o. cond (keeps q) o None) (get-entries names q) ∙ sym (find-where_key path_cmp keeps q (alike q) (entries names)))
  where
    alike : (q x : List ℕ) → path_cmp q x ≡ Equal → keeps x ≡ keeps q
    alike q x tied = ap keeps (sym (exact_bytes q x tied))

pub beside_entries : (m : Map) (names : Names) (dir : List ℕ) (items : List (List ℕ × Entry)) → IsStrictlySortedBy key_cmp (map (λ e. e.0) m.entries) → Shows m names
    → items ≡ filter (λ e. stays dir e.0) (shown m.entries) → items ≡ entries (retain_keys names (stays dir))
beside_entries m names dir items sorted shows is = is ∙ ap (filter (λ e. stays dir e.0)) (entries_shown m names sorted shows) ∙ sym (entries_kept names (stays dir))

-- what a loop over a map's entries yields
abbrev pub Yield : Type 0
Yield = Bor (String Global) × Bor Place

abbrev pub deref : Yield → String Global × Place
deref y = (y.0.now, y.1.now)

pub all_yielded : (m : Map) (all : List (String Global × Place)) (xs : List Yield) → map deref xs ≡ m.entries → map (λ y. (string_bytes y.0.now, place_entry y.1.now)) xs ≡ shown m.entries
all_yielded m all xs whole = mapped xs ∙ ap shown whole
  where
    mapped : (ys : List Yield) → map (λ y. (string_bytes y.0.now, place_entry y.1.now)) ys ≡ shown (map deref ys)
    mapped [] = refl
    mapped (y ∷ ys) = ap (λ l. (string_bytes y.0.now, place_entry y.1.now) ∷ l) (mapped ys)

pub firsts : (xs : List Yield) → map (λ y. string_bytes y.0.now) xs ≡ map (λ (e : List ℕ × Entry). e.0) (map (λ y. (string_bytes y.0.now, place_entry y.1.now)) xs)
firsts [] = refl
firsts (y ∷ ys) = ap (λ l. string_bytes y.0.now ∷ l) (firsts ys)

pub not_not : (b : Bool) → b ≡ true → b ≡ true
not_not b is = is

abbrev pub CutsBehind : List ℕ → List ℕ → Type 0
CutsBehind dir path = (length dir ≤ length path) × (length dir < length path → 128 ≤ slice_index path (length dir) → 192 ≤ slice_index path (length dir))

-- a path can be cut behind a directory's
pub cut_behind : (dir path : List ℕ) → is_at_or_inside dir path ≡ true → CutsBehind dir path
cut_behind dir path is =
    let u = under_is dir path is in
    (omega (arith, ap length u.whole, length-append dir u.rest), λ below high. boundary u.rest u.whole u.slash below high)
  where
    boundary : (rest : List ℕ) → path ≡ dir ++ rest → Slash rest → length dir < length path → 128 ≤ slice_index path (length dir) → 192 ≤ slice_index path (length dir)
    boundary rest whole (inl none) below high = absurd (omega (arith, ap length whole, length-append dir rest, ap length none, below))
    boundary rest whole (inr m) below high =
        let here : slice_index path (length dir) ≡ 47 = ap (λ l. slice_index l (length dir)) (whole ∙ ap (λ r. dir ++ r) m.1) ∙ get_or-append_seam dir 47 m.0 0 in
        absurd (omega (arith, here, high))

-- ---- A list that is taken from its end

pub all_left : {X : Type 0} (l : List X) → (take (length l) l ≡ l) × (drop (length l) l ≡ [])
all_left l = (take-length l, sym (ap (λ r. r) refl) ∙ gone l)
  where
    gone : {X : Type 0} (l : List X) → drop (length l) l ≡ []
    gone l = ap (drop (length l)) (sym (append-nil l)) ∙ drop-append_seam l []

pub last_left : {X : Type 0} (all old new : List X) (x : X) → old ≡ new ++ x ∷ [] → take (length old) all ≡ old → (take (length new) all ≡ new) × (drop (length new) all ≡ x ∷ drop (length old) all)
last_left all old new x is left =
    let rest = drop (length old) all in
    let whole : all ≡ new ++ x ∷ rest = sym (take-append-drop (length old) all) ∙ ap (λ l. l ++ rest) (left ∙ is) ∙ append_assoc new (x ∷ []) rest in
    (ap (take (length new)) whole ∙ take-append_seam new (x ∷ rest), ap (drop (length new)) whole ∙ drop-append_seam new (x ∷ rest))

-- a map without entries shows no names
pub empty_shows : (m : Map) → m.entries ≡ [] → Shows m empty
empty_shows m none q = ap (λ es. entry_of (lookup (is_at (λ k. slice_cmp nat_cmp q (string_bytes k))) es)) none ∙ sym (get-empty path_cmp q)

pub on_names : {E : Type 0} (result : Result (Vec (String Global) Global) E) (P Q : Vec (String Global) Global → Type 0) → ((v : Vec (String Global) Global) → P v → Q v) → IfOk result P → IfOk result Q
on_names (Ok v) P Q on is = on v is
on_names (Err e) P Q on is = is

abbrev pub Items : Type 0
Items = List (String Global × Place)

-- the names that entries have after a directory was moved
abbrev pub moved_of : List ℕ → List ℕ → List (String Global × Place) → Names
moved_of from to left = from_entries (map (λ e. (moved_path from to e.0, e.1)) (shown left))
