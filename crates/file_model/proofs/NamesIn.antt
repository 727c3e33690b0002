-- The names in a directory: which they are, and that images which agree on each have the same.
use Rattle.std.proofs.Common.{◌≡◌, ⊎_elim, ℕ, ◌+◌, List, [], ◌∷◌, ◌++◌, drop, length, map, not, Bool, true, false, cond, ◌&&◌, ◌||◌, ◌==◌, Option, Some, None, refl, sym, ◌∙◌, ap, subst, T}
use Rattle.std.specs.Prelude.{Contains, ◌↔◌, is_some}
use Rattle.std.proofs.lemmas.Bool.{cases_Bool}
use Rattle.std.proofs.Math.Seq.{drop-append-add}
use Rattle.std.proofs.lemmas.Map.Views.{list_any-from_Contains, Contains-from_any}
use Rattle.std.specs.List.{list_any, filter_map, cons_option}
use Rattle.std.specs.declared.cmp.Ordering.TheVariants.{Equal}
use Rattle.std.specs.Ordering.{eq_by_cmp, is_eq, is_lt, nat_cmp, ordering_then}
use Rattle.std.specs.Cmp.{nat_cmp_is}
use Rattle.std.specs.Cmp.Lexicographic.{slice_cmp}
use Rattle.std.proofs.lemmas.Cmp.{nat_list_cmp_total, eq_by_cmp_equiv}
use Rattle.std.proofs.lemmas.Map.Text.{is_eq-slice_cmp}
use Rattle.std.proofs.lemmas.Slice.Eq.{bytes_eq-Decides}
use Rattle.std.specs.FinMap.{get, entries, entries_sorted, get-entries, slice_cmp-IsAntisymmetric, nat_cmp-IsAntisymmetric}
use Rattle.std.specs.FinMap.Entries.{find, is_sorted, below_all, is_some-find, same_entries}
use Rattle.std.specs.List.Sorted.{IsPermutation}
use Rattle.std.proofs.lemmas.List.{nil_from_length}
use Rattle.std.proofs.lemmas.List.Sorted.{length_permutation}
use Rattle.file_model.specs.Disk.{seen}
use Rattle.file_model.specs.Histories.{History, Now}
use Rattle.file_model.specs.Kinds.{IsEmptyDirectory}
use Rattle.file_model.specs.Paths.{child, parent, is_top, is_inside, HasNoSlash}
use Rattle.file_model.specs.Images.{Entry, a_file, a_directory, Image, Node, nothing, file, directory, node_of, node_at, is_directory, path_cmp, name_within, names_in, Agree}
use Rattle.file_model.proofs.Names.{other_path}
use Rattle.file_model.proofs.Inside.{inside_is, child_inside, named, not_both}
use Rattle.file_model.proofs.Moved.{split_and}

-- ---- Names

abbrev has_slash : List ℕ → Bool
has_slash name = list_any (λ b. b == 47) name

pub plain_is : (name : List ℕ) → has_slash name ≡ false → HasNoSlash name
plain_is [] is = tt
plain_is (b ∷ name) is = at (b == 47) refl is (plain_is name)
  where
    at : (t : Bool) → (b == 47) ≡ t → (t || has_slash name) ≡ false → (has_slash name ≡ false → HasNoSlash name) → HasNoSlash (b ∷ name)
    at true e h rest = absurd (cc)
    at false e h rest = (e, rest h)

pub is_plain : (name : List ℕ) → HasNoSlash name → has_slash name ≡ false
is_plain [] plain = refl
is_plain (b ∷ name) plain = ap (λ t. t || has_slash name) plain.0 ∙ is_plain name plain.1

behind : (dir name : List ℕ) → drop (length dir + 1) (child dir name) ≡ name
behind dir name = drop-append-add dir (47 ∷ name) 1

pub within_child : (dir name : List ℕ) → name_within dir (child dir name) ≡ cond (not (has_slash name)) (Some name) None
within_child dir name =
    ap (λ n. cond (is_inside dir (child dir name) && not (has_slash n)) (Some n) None) (behind dir name)
    ∙ ap (λ b. cond (b && not (has_slash name)) (Some name) None) (child_inside dir name)

pub record Within (dir path name : List ℕ) : Type 0 where
  pub whole : path ≡ child dir name
  pub plain : has_slash name ≡ false

pub within_is : (dir path name : List ℕ) → name_within dir path ≡ Some name → Within dir path name
within_is dir path name is = at (is_inside dir path) refl is
  where
    plain : (n : List ℕ) → n ≡ drop (length dir + 1) path → path ≡ child dir n → (b : Bool) → has_slash n ≡ b → cond (not b) (Some n) None ≡ Some name → Within dir path name
    plain n e whole true h is = absurd (cc)
    plain n e whole false h is = let same : n ≡ name = cc in record { whole = whole ∙ ap (child dir) same; plain = ap has_slash (sym same) ∙ h }

    at : (b : Bool) → is_inside dir path ≡ b → cond (b && not (has_slash (drop (length dir + 1) path))) (Some (drop (length dir + 1) path)) None ≡ Some name → Within dir path name
    at false inside is = absurd (cc)
    at true inside is =
        let w = inside_is dir path inside in
        let n : drop (length dir + 1) path ≡ w.0 = ap (drop (length dir + 1)) w.1 ∙ behind dir w.0 in
        plain (drop (length dir + 1) path) refl (w.1 ∙ ap (child dir) (sym n)) (has_slash (drop (length dir + 1) path)) refl is

-- ---- The order of paths in one directory

itself : (x : ℕ) → nat_cmp x x ≡ Equal
itself x = sym (nat_cmp_is x x Equal refl)

cmp_behind : (front x y : List ℕ) → path_cmp (front ++ x) (front ++ y) ≡ path_cmp x y
cmp_behind [] x y = refl
cmp_behind (b ∷ front) x y = ap (λ o. ordering_then o (slice_cmp nat_cmp (front ++ x) (front ++ y))) (itself b) ∙ cmp_behind front x y

cmp_child : (dir one other : List ℕ) → path_cmp (child dir one) (child dir other) ≡ path_cmp one other
cmp_child dir one other = cmp_behind dir (47 ∷ one) (47 ∷ other) ∙ cmp_behind (47 ∷ []) one other

-- ---- A list of entries, and the names in it

-- the names of a directory, as keys
abbrev paired : List (List ℕ) → List (List ℕ × Unit {0})
paired names = map (λ name. (name, tt)) names

abbrev listed : List ℕ → List (List ℕ × Entry) → List (List ℕ)
listed dir es = filter_map (name_within dir) (map (λ e. e.0) es)

abbrev present : Option Entry → Option (Unit {0})
present None = None
present (Some e) = Some tt

both_true : (a b : Bool) → T a → T b → T (a && b)
both_true true b p q = q
both_true false b p q = p

-- what is below all keys of a list is below all names in it
below_names : (dir name : List ℕ) (es : List (List ℕ × Entry)) → T (below_all path_cmp (child dir name) es) → T (below_all path_cmp name (paired (listed dir es)))
below_names dir name [] below = tt
below_names dir name (e ∷ es) below =
    let parts = split_and (is_lt (path_cmp (child dir name) e.0)) (below_all path_cmp (child dir name) es) below in
    at (name_within dir e.0) refl parts.0 (below_names dir name es parts.1)
  where
    at : (o : Option (List ℕ)) → name_within dir e.0 ≡ o → T (is_lt (path_cmp (child dir name) e.0)) → T (below_all path_cmp name (paired (listed dir es))) → T (below_all path_cmp name (paired (cons_option o (listed dir es))))
    at None is first rest = rest
    at (Some n) is first rest =
        both_true (is_lt (path_cmp name n)) (below_all path_cmp name (paired (listed dir es)))
        (subst (λ r. T (is_lt r)) (ap (path_cmp (child dir name)) (within_is dir e.0 n is).whole ∙ cmp_child dir name n) first) rest

sorted_names : (dir : List ℕ) (es : List (List ℕ × Entry)) → T (is_sorted path_cmp es) → T (is_sorted path_cmp (paired (listed dir es)))
sorted_names dir [] sorted = tt
sorted_names dir (e ∷ es) sorted =
    let parts = split_and (below_all path_cmp e.0 es) (is_sorted path_cmp es) sorted in
    at (name_within dir e.0) refl parts.0 (sorted_names dir es parts.1)
  where
    at : (o : Option (List ℕ)) → name_within dir e.0 ≡ o → T (below_all path_cmp e.0 es) → T (is_sorted path_cmp (paired (listed dir es))) → T (is_sorted path_cmp (paired (cons_option o (listed dir es))))
    at None is below rest = rest
    at (Some n) is below rest =
        both_true (below_all path_cmp n (paired (listed dir es))) (is_sorted path_cmp (paired (listed dir es)))
        (below_names dir n es (subst (λ p. T (below_all path_cmp p es)) (within_is dir e.0 n is).whole below)) rest

-- a name stands among them just where its path is a key
find_name : (dir name : List ℕ) → has_slash name ≡ false → (es : List (List ℕ × Entry)) → find path_cmp name (paired (listed dir es)) ≡ present (find path_cmp (child dir name) es)
find_name dir name plain [] = refl
find_name dir name plain (e ∷ es) = at (name_within dir e.0) refl (find_name dir name plain es)
  where
    same_test : (n : List ℕ) → e.0 ≡ child dir n → eq_by_cmp path_cmp (child dir name) e.0 ≡ eq_by_cmp path_cmp name n
    same_test n whole = ap (λ p. eq_by_cmp path_cmp (child dir name) p) whole ∙ ap is_eq (cmp_child dir name n)

    either : (b : Bool) (rest : Option (Unit {0})) (more : Option Entry) → rest ≡ present more → cond b (Some tt) rest ≡ present (cond b (Some e.1) more)
    either true rest more is = refl
    either false rest more is = is

    at : (o : Option (List ℕ)) → name_within dir e.0 ≡ o → find path_cmp name (paired (listed dir es)) ≡ present (find path_cmp (child dir name) es)
        → find path_cmp name (paired (cons_option o (listed dir es))) ≡ present (cond (eq_by_cmp path_cmp (child dir name) e.0) (Some e.1) (find path_cmp (child dir name) es))
    at None is rest = rest ∙ ap (λ b. present (cond b (Some e.1) (find path_cmp (child dir name) es))) (sym (other_path e.0 (child dir name) apart))
      where
        some_none : Some name ≡ None → ⊥
        some_none h = cc

        apart : child dir name ≡ e.0 → ⊥
        apart same = some_none (sym (within_child dir name ∙ ap (λ b. cond (not b) (Some name) None) plain) ∙ ap (name_within dir) same ∙ is)
    at (Some n) is rest =
        ap (λ b. cond b (Some tt) (find path_cmp name (paired (listed dir es)))) (sym (same_test n (within_is dir e.0 n is).whole))
        ∙ either (eq_by_cmp path_cmp (child dir name) e.0) (find path_cmp name (paired (listed dir es))) (find path_cmp (child dir name) es) rest

-- nothing with a slash stands among them
find_none : (dir name : List ℕ) → has_slash name ≡ true → (es : List (List ℕ × Entry)) → find path_cmp name (paired (listed dir es)) ≡ None
find_none dir name slash [] = refl
find_none dir name slash (e ∷ es) = at (name_within dir e.0) refl (find_none dir name slash es)
  where
    at : (o : Option (List ℕ)) → name_within dir e.0 ≡ o → find path_cmp name (paired (listed dir es)) ≡ None → find path_cmp name (paired (cons_option o (listed dir es))) ≡ None
    at None is rest = rest
    at (Some n) is rest =
        ap (λ b. cond b (Some tt) (find path_cmp name (paired (listed dir es)))) (other_path n name (λ same. not_both (has_slash name) slash (ap has_slash same ∙ (within_is dir e.0 n is).plain))) ∙ rest

-- ---- What the names in a directory say

-- whether something stands, by what stands
abbrev stands : Node → Option (Unit {0})
stands nothing = None
stands (file bytes) = Some tt
stands directory = Some tt

present_node : (bytes : ℕ → List ℕ) (e : Option Entry) → present e ≡ stands (node_of bytes e)
present_node bytes None = refl
present_node bytes (Some a_directory) = refl
present_node bytes (Some (a_file id)) = refl

name_stands : (image : Image) (dir name : List ℕ) → has_slash name ≡ false → find path_cmp name (paired (names_in image dir)) ≡ stands (node_at image (child dir name))
name_stands image dir name plain =
    find_name dir name plain (entries image.names) ∙ ap present (sym (get-entries image.names (child dir name))) ∙ present_node image.bytes (get image.names (child dir name))

unpaired : (names : List (List ℕ)) → map (λ (e : List ℕ × Unit {0}). e.0) (paired names) ≡ names
unpaired [] = refl
unpaired (n ∷ names) = ap (λ l. n ∷ l) (unpaired names)

-- images that agree on each name of a directory have the same names there
pub same_names_in : (one other : Image) (dir : List ℕ) → ((name : List ℕ) → HasNoSlash name → Agree (child dir name) one other) → names_in one dir ≡ names_in other dir
same_names_in one other dir agree =
    sym (unpaired (names_in one dir))
    ∙ ap (map (λ (e : List ℕ × Unit {0}). e.0)) (same_entries path_cmp nat_list_cmp_total (slice_cmp-IsAntisymmetric nat_cmp-IsAntisymmetric) (paired (names_in one dir)) (paired (names_in other dir))
    (sorted_names dir (entries one.names) (entries_sorted one.names)) (sorted_names dir (entries other.names) (entries_sorted other.names)) same)
    ∙ unpaired (names_in other dir)
  where
    same : (name : List ℕ) → find path_cmp name (paired (names_in one dir)) ≡ find path_cmp name (paired (names_in other dir))
    same name = ⊎_elim
        (λ slash. find_none dir name slash (entries one.names) ∙ sym (find_none dir name slash (entries other.names)))
        (λ plain. name_stands one dir name plain ∙ ap stands (agree name (plain_is name plain)) ∙ sym (name_stands other dir name plain))
        (cases_Bool (has_slash name))

-- a directory without names has nothing in it
pub empty_childless : (image : Image) (dir : List ℕ) → names_in image dir ≡ [] → (q : List ℕ) (e : Entry) → get image.names q ≡ Some e → is_top q ≡ false → parent q ≡ dir → ⊥
empty_childless image dir empty q e there below same =
    let w = named q below in
    none_some (sym (ap (λ l. find path_cmp w.name (paired l)) empty) ∙ find_name dir w.name (is_plain w.name w.plain) (entries image.names)
    ∙ ap present (sym (get-entries image.names (child dir w.name)) ∙ ap (get image.names) (sym (w.whole ∙ ap (λ d. child d w.name) same)) ∙ there))
  where
    none_some : ◌≡◌ {A = Option (Unit {0})} None (Some tt) → ⊥
    none_some h = cc

-- a name is among them just where it has no slash and something stands there
pub names_in_has : (image : Image) (dir name : List ℕ) → Contains (names_in image dir) name ↔ (HasNoSlash name × (stands (node_at image (child dir name)) ≡ Some tt))
names_in_has image dir name = (has, is_had)
  where
    found : (names : List (List ℕ)) → is_some (find path_cmp name (paired names)) ≡ list_any (eq_by_cmp path_cmp name) names
    found names = is_some-find path_cmp name (paired names) ∙ ap (list_any (eq_by_cmp path_cmp name)) (unpaired names)

    some : (o : Option (Unit {0})) → is_some o ≡ true → o ≡ Some tt
    some None is = absurd (cc)
    some (Some tt) is = refl

    has : Contains (names_in image dir) name → HasNoSlash name × (stands (node_at image (child dir name)) ≡ Some tt)
    has among =
        let is = found (names_in image dir) ∙ list_any-from_Contains (eq_by_cmp_equiv nat_list_cmp_total) name (names_in image dir) among in
        ⊎_elim (λ slash. absurd (not_both true refl (sym is ∙ ap is_some (find_none dir name slash (entries image.names)))))
        (λ plain. (plain_is name plain, some (stands (node_at image (child dir name))) (ap is_some (sym (name_stands image dir name plain)) ∙ is))) (cases_Bool (has_slash name))

    is_had : HasNoSlash name × (stands (node_at image (child dir name)) ≡ Some tt) → Contains (names_in image dir) name
    is_had it = Contains-from_any (λ x y same. (bytes_eq-Decides x y).0 (sym (is_eq-slice_cmp x y) ∙ same)) name (names_in image dir) (sym (found (names_in image dir)) ∙ ap is_some (name_stands image dir name (is_plain name it.0) ∙ it.1))

-- a directory that was listed, and has no names, can be removed
pub lists_none : {A : Type 0} (text : A → List ℕ) (names : List A) (dir : List ℕ) (old new : History) → new ≡ old → Now old (λ w. is_directory (seen w.disk) dir ≡ true)
    → Now old (λ w. IsPermutation (map text names) (names_in (seen w.disk) dir)) → length names ≡ 0 → Now new (λ w. IsEmptyDirectory (seen w.disk) dir)
lists_none text names dir old new same there listed none = subst (λ h. Now h (λ w. IsEmptyDirectory (seen w.disk) dir)) (sym same) (at old there listed)
  where
    at : (h : History) → Now h (λ w. is_directory (seen w.disk) dir ≡ true) → Now h (λ w. IsPermutation (map text names) (names_in (seen w.disk) dir)) → Now h (λ w. IsEmptyDirectory (seen w.disk) dir)
    at [] there listed = tt
    at (w ∷ past) there listed = record {
      is_there = there;
      empty = nil_from_length (names_in (seen w.disk) dir) (length_permutation (map text names) (names_in (seen w.disk) dir) listed ∙ ap (λ l. length (map text l)) (nil_from_length names none));
    }
