-- What a map of paths has at each path once the keys at one path and in it were moved to another.
use Rattle.std.proofs.Common.{◌≡◌, inl, inr, ⊎_elim, ℕ, List, [], ◌∷◌, ◌++◌, drop, length, map, not, Bool, true, false, cond, Option, Some, None, refl, sym, ◌∙◌, ap, subst, T, ◌&&◌}
use Rattle.std.proofs.lemmas.List.{append_cancel_left}
use Rattle.std.specs.declared.cmp.Ordering.{Ordering}
use Rattle.std.specs.declared.cmp.Ordering.TheVariants.{Less, Equal, Greater}
use Rattle.std.specs.Ordering.{is_eq, eq_by_cmp, is_lt}
use Rattle.std.proofs.lemmas.Map.Lookups.{exact_bytes}
use Rattle.std.specs.List.{AllByRecursion}
use Rattle.std.proofs.lemmas.Bool.{cases_Bool}
use Rattle.std.specs.FinMap.{FinMap, get, retain_keys, entries, entries_sorted, get-entries, get-from_entries, get-retain_keys}
use Rattle.std.specs.FinMap.Entries.{find, is_sorted, below_all}
use Rattle.std.proofs.lemmas.Cmp.{nat_list_cmp_total}
use Rattle.file_model.specs.Paths.{is_at_or_inside}
use Rattle.file_model.specs.Images.{path_cmp}
use Rattle.file_model.specs.Disk.{moved_keys, moved_path}
use Rattle.file_model.proofs.Names.{cases_path, same_path, other_path}
use Rattle.file_model.proofs.Inside.{Under, under_is, under_test, comparable, drop_dir, not_both}

-- ---- Entries in order

ordered_one_way : (o : Ordering) → is_eq o ≡ true → T (is_lt o) → ⊥
ordered_one_way Less e less = cc
ordered_one_way Equal e less = less
ordered_one_way Greater e less = less

less_apart : (x y : List ℕ) → T (is_lt (path_cmp x y)) → eq_by_cmp path_cmp y x ≡ false
less_apart x y less = other_path x y (λ same. ordered_one_way (path_cmp x x) (same_path x) (subst (λ z. T (is_lt (path_cmp x z))) same less))

pub split_and : (a b : Bool) → T (a && b) → T a × T b
split_and true b h = (tt, h)
split_and false b h = absurd h

found_behind : {V : Type 0} (x : List ℕ × V) (xs ys : List (List ℕ × V)) → T (below_all path_cmp x.0 ys) → AllByRecursion (λ e. find path_cmp e.0 xs ≡ Some e.1) ys → AllByRecursion (λ e. find path_cmp e.0 (x ∷ xs) ≡ Some e.1) ys
found_behind x xs [] below all = tt
found_behind x xs (y ∷ ys) below all =
    let parts = split_and (is_lt (path_cmp x.0 y.0)) (below_all path_cmp x.0 ys) below in
    (ap (λ b. cond b (Some x.1) (find path_cmp y.0 xs)) (less_apart x.0 y.0 parts.0) ∙ all.0, found_behind x xs ys parts.1 all.1)

-- each entry of a list in order is found under its key
pub entries_found : {V : Type 0} (es : List (List ℕ × V)) → T (is_sorted path_cmp es) → AllByRecursion (λ e. find path_cmp e.0 es ≡ Some e.1) es
entries_found [] in_order = tt
entries_found (x ∷ xs) in_order =
    let parts = split_and (below_all path_cmp x.0 xs) (is_sorted path_cmp xs) in_order in
    (ap (λ b. cond b (Some x.1) (find path_cmp x.0 xs)) (same_path x.0), found_behind x xs xs parts.0 (entries_found xs parts.1))

each_entry : {V : Type 0} (P Q : List ℕ × V → Type 0) → ((e : List ℕ × V) → P e → Q e) → (es : List (List ℕ × V)) → AllByRecursion P es → AllByRecursion Q es
each_entry P Q on [] all = tt
each_entry P Q on (e ∷ es) all = (on e all.0, each_entry P Q on es all.1)

-- ---- Keys that move

-- what is found where one key moved to
found_moved : {V : Type 0} (f : List ℕ → List ℕ) (q p : List ℕ) → f p ≡ q → (es : List (List ℕ × V)) → AllByRecursion (λ e. f e.0 ≡ q → e.0 ≡ p) es
    → find path_cmp q (map (λ e. (f e.0, e.1)) es) ≡ find path_cmp p es
found_moved f q p to [] only = refl
found_moved f q p to (e ∷ es) only = elim (cases_path q (f e.0)) [
  | inl here ↦ test (eq_by_cmp path_cmp q (f e.0)) true (ap (λ z. eq_by_cmp path_cmp z (f e.0)) here ∙ same_path (f e.0))
      ∙ sym (other (eq_by_cmp path_cmp p e.0) true (ap (λ z. eq_by_cmp path_cmp z e.0) (sym (only.0 (sym here))) ∙ same_path e.0))
  | inr apart ↦ test (eq_by_cmp path_cmp q (f e.0)) false (other_path (f e.0) q apart) ∙ found_moved f q p to es only.1
      ∙ sym (other (eq_by_cmp path_cmp p e.0) false (other_path e.0 p (λ same. apart (sym to ∙ ap f same))))
]
  where
    test : (b c : Bool) → b ≡ c → cond b (Some e.1) (find path_cmp q (map (λ e. (f e.0, e.1)) es)) ≡ cond c (Some e.1) (find path_cmp q (map (λ e. (f e.0, e.1)) es))
    test b c is = ap (λ x. cond x (Some e.1) (find path_cmp q (map (λ e. (f e.0, e.1)) es))) is

    other : (b c : Bool) → b ≡ c → cond b (Some e.1) (find path_cmp p es) ≡ cond c (Some e.1) (find path_cmp p es)
    other b c is = ap (λ x. cond x (Some e.1) (find path_cmp p es)) is

-- and where none moved to
none_moved : {V : Type 0} (f : List ℕ → List ℕ) (q : List ℕ) (es : List (List ℕ × V)) → AllByRecursion (λ e. f e.0 ≡ q → ⊥) es → find path_cmp q (map (λ e. (f e.0, e.1)) es) ≡ None
none_moved f q [] none = refl
none_moved f q (e ∷ es) none =
    ap (λ b. cond b (Some e.1) (find path_cmp q (map (λ e. (f e.0, e.1)) es))) (other_path (f e.0) q (λ same. none.0 (sym same))) ∙ none_moved f q es none.1

-- ---- A directory that moves

abbrev pub Apart : List ℕ → List ℕ → Type 0
Apart from to = (is_at_or_inside from to ≡ false) × (is_at_or_inside to from ≡ false)

-- what stood at the directory or in it stands at the other path in the same way, nothing stands where it was, and the rest stays
abbrev pub moved_entry : {V : Type 0} → List ℕ → List ℕ → FinMap path_cmp V → List ℕ → Option V
moved_entry from to names q = cond (is_at_or_inside to q) (get names (from ++ drop (length to) q)) (cond (is_at_or_inside from q) None (get names q))

-- the names that aren't under the new path
abbrev kept : {V : Type 0} → List ℕ → FinMap path_cmp V → FinMap path_cmp V
kept to names = retain_keys names (λ path. not (is_at_or_inside to path))

module _ (from to : List ℕ) (apart : Apart from to) where
  -- no path is under both
  pub not_under_both : (path : List ℕ) → is_at_or_inside from path ≡ true → is_at_or_inside to path ≡ true → ⊥
  not_under_both path one other =
      let a = under_is from path one in
      let b = under_is to path other in
      ⊎_elim
      (λ (u : Under from to). not_both (is_at_or_inside from to) (under_test from to u) apart.0)
      (λ (u : Under to from). not_both (is_at_or_inside to from) (under_test to from u) apart.1)
      (comparable from to a.rest b.rest (sym a.whole ∙ b.whole) a.slash b.slash)

  moves_inside : (path : List ℕ) → is_at_or_inside from path ≡ true → moved_path from to path ≡ to ++ drop (length from) path
  moves_inside path is = ap (λ b. cond b (to ++ drop (length from) path) path) is

  moves_beside : (path : List ℕ) → is_at_or_inside from path ≡ false → moved_path from to path ≡ path
  moves_beside path is = ap (λ b. cond b (to ++ drop (length from) path) path) is

  -- what moves comes under the new path
  moved_under : (path : List ℕ) → is_at_or_inside from path ≡ true → is_at_or_inside to (moved_path from to path) ≡ true
  moved_under path is =
      let u = under_is from path is in
      under_test to (moved_path from to path) (record {
        rest = u.rest;
        whole = moves_inside path is ∙ ap (λ p. to ++ drop (length from) p) u.whole ∙ ap (λ l. to ++ l) (drop_dir from u.rest);
        slash = u.slash;
      })

  module _ {V : Type 0} (names : FinMap path_cmp V) where
    get_kept : (q : List ℕ) → find path_cmp q (entries (kept to names)) ≡ cond (not (is_at_or_inside to q)) (get names q) None
    get_kept q = sym (get-entries (kept to names) q)
        ∙ get-retain_keys names (λ path. not (is_at_or_inside to path)) q (λ x tied. ap (λ z. not (is_at_or_inside to z)) (sym (exact_bytes q x tied)))

    -- a key that was kept isn't under the new path
    pub beside_new : (e : List ℕ × V) → find path_cmp e.0 (entries (kept to names)) ≡ Some e.1 → is_at_or_inside to e.0 ≡ false
    beside_new e found = at (is_at_or_inside to e.0) refl (sym (get_kept e.0) ∙ found)
      where
        at : (b : Bool) → is_at_or_inside to e.0 ≡ b → cond (not b) (get names e.0) None ≡ Some e.1 → is_at_or_inside to e.0 ≡ false
        at false is h = is
        at true is h = absurd (cc)

    in_order : AllByRecursion (λ e. find path_cmp e.0 (entries (kept to names)) ≡ Some e.1) (entries (kept to names))
    in_order = entries_found (entries (kept to names)) (entries_sorted (kept to names))

    whole_get : (q : List ℕ) → get (moved_keys from to names) q
        ≡ find path_cmp q (map (λ e. (moved_path from to e.0, e.1)) (entries (kept to names)))
    whole_get q = get-from_entries nat_list_cmp_total (map (λ e. (moved_path from to e.0, e.1)) (entries (kept to names))) q

    -- one key moved there
    one_moved : (q p : List ℕ) → moved_path from to p ≡ q → is_at_or_inside to p ≡ false → ((k : List ℕ) → is_at_or_inside to k ≡ false → moved_path from to k ≡ q → k ≡ p)
        → get (moved_keys from to names) q ≡ get names p
    one_moved q p comes beside only =
        whole_get q
        ∙ found_moved (moved_path from to) q p comes (entries (kept to names)) (each_entry _ _ (λ e found. only e.0 (beside_new e found)) _ in_order)
        ∙ get_kept p ∙ ap (λ b. cond (not b) (get names p) None) beside

    under_new : (q : List ℕ) → is_at_or_inside to q ≡ true → get (moved_keys from to names) q ≡ get names (from ++ drop (length to) q)
    under_new q is = one_moved q (from ++ drop (length to) q) comes beside only
      where
        p_is : from ++ drop (length to) q ≡ from ++ (under_is to q is).rest
        p_is = ap (λ z. from ++ drop (length to) z) (under_is to q is).whole ∙ ap (λ l. from ++ l) (drop_dir to (under_is to q is).rest)

        p_under : is_at_or_inside from (from ++ drop (length to) q) ≡ true
        p_under = under_test from (from ++ drop (length to) q) (record { rest = (under_is to q is).rest; whole = p_is; slash = (under_is to q is).slash })

        comes : moved_path from to (from ++ drop (length to) q) ≡ q
        comes = moves_inside (from ++ drop (length to) q) p_under
            ∙ ap (λ l. to ++ l) (drop_dir from (drop (length to) q) ∙ ap (drop (length to)) (under_is to q is).whole ∙ drop_dir to (under_is to q is).rest)
            ∙ sym (under_is to q is).whole

        beside : is_at_or_inside to (from ++ drop (length to) q) ≡ false
        beside = ⊎_elim (λ other. absurd (not_under_both (from ++ drop (length to) q) p_under other)) (λ fails. fails) (cases_Bool (is_at_or_inside to (from ++ drop (length to) q)))

        only : (k : List ℕ) → is_at_or_inside to k ≡ false → moved_path from to k ≡ q → k ≡ from ++ drop (length to) q
        only k outside same = ⊎_elim
            (λ inside.
            let v = under_is from k inside in
            let rest : v.rest ≡ (under_is to q is).rest = append_cancel_left to v.rest (under_is to q is).rest
            (sym (moves_inside k inside ∙ ap (λ z. to ++ drop (length from) z) v.whole ∙ ap (λ l. to ++ l) (drop_dir from v.rest)) ∙ same ∙ (under_is to q is).whole) in
            v.whole ∙ ap (λ l. from ++ l) rest ∙ sym p_is)
            (λ beside. absurd (not_both (is_at_or_inside to q) is (ap (is_at_or_inside to) (sym (sym (moves_beside k beside) ∙ same)) ∙ outside)))
            (cases_Bool (is_at_or_inside from k))

    under_old : (q : List ℕ) → is_at_or_inside to q ≡ false → is_at_or_inside from q ≡ true → get (moved_keys from to names) q ≡ None
    under_old q outside is =
        whole_get q ∙ none_moved (moved_path from to) q (entries (kept to names)) (each_entry _ _ (λ e found same. ⊎_elim
        (λ inside. not_both (is_at_or_inside to q) (ap (is_at_or_inside to) (sym same) ∙ moved_under e.0 inside) outside)
        (λ beside. not_both (is_at_or_inside from q) is (ap (is_at_or_inside from) (sym (sym (moves_beside e.0 beside) ∙ same)) ∙ beside))
        (cases_Bool (is_at_or_inside from e.0))) _ in_order)

    under_none : (q : List ℕ) → is_at_or_inside to q ≡ false → is_at_or_inside from q ≡ false → get (moved_keys from to names) q ≡ get names q
    under_none q outside beside = one_moved q q (moves_beside q beside) outside (λ k out same. ⊎_elim
        (λ inside. absurd (not_both (is_at_or_inside to q) (ap (is_at_or_inside to) (sym same) ∙ moved_under k inside) outside))
        (λ apart. sym (moves_beside k apart) ∙ same)
        (cases_Bool (is_at_or_inside from k)))

    pub get_moved : (q : List ℕ) → get (moved_keys from to names) q ≡ moved_entry from to names q
    get_moved q = ⊎_elim
        (λ new. under_new q new ∙ sym (ap (λ b. cond b (get names (from ++ drop (length to) q)) (cond (is_at_or_inside from q) None (get names q))) new))
        (λ outside. ⊎_elim
        (λ old. under_old q outside old ∙ sym (ap (λ b. cond b (get names (from ++ drop (length to) q)) (cond (is_at_or_inside from q) None (get names q))) outside ∙ ap (λ b. cond b None (get names q)) old))
        (λ beside. under_none q outside beside ∙ sym (ap (λ b. cond b (get names (from ++ drop (length to) q)) (cond (is_at_or_inside from q) None (get names q))) outside ∙ ap (λ b. cond b None (get names q)) beside))
        (cases_Bool (is_at_or_inside from q)))
        (cases_Bool (is_at_or_inside to q))
