-- Names in order: numbers that were given, each file at one path, and each path in a directory.
use Rattle.std.proofs.Common.{◌≡◌, ◌≢◌, ◌⊎◌, inl, inr, ⊎_elim, ℕ, ◌+◌, ◌<◌, ◌≤◌, List, [], ◌∷◌, ◌++◌, drop, length, Bool, true, false, cond, Some, None, refl, sym, ◌∙◌, ap, subst, arith, append-nil, length-append}
use Rattle.std.proofs.lemmas.Slice.Eq.{bytes_eq-Decides}
use Rattle.std.proofs.lemmas.List.{append_cancel_left}
use Rattle.std.proofs.lemmas.Bool.{cases_Bool, false_from_ne_true}
use Rattle.std.specs.FinMap.{get, insert, remove}
use Rattle.file_model.specs.Paths.{child, parent, is_top, is_at_or_inside}
use Rattle.file_model.specs.Images.{Entry, a_file, a_directory, Names}
use Rattle.file_model.specs.Disk.{moved_directory, moved_file, done}
use Rattle.file_model.proofs.Inside.{Slash, under_is, under_test, under_up, in_directory, named, same_up, drop_dir, not_both}
use Rattle.file_model.proofs.Moved.{Apart, get_moved}
use Rattle.file_model.proofs.Names.{cases_path, get-insert_same, get-insert_other, get-remove_same, get-remove_other}
use Rattle.file_model.proofs.Paths.{parent_apart}

-- no name leads to a file of a number from next on
abbrev pub Fresh : ℕ → Names → Type 0
Fresh next names = (path : List ℕ) (id : ℕ) → get names path ≡ Some (a_file id) → id < next

-- each file stands at one path
abbrev pub Alone : Names → Type 0
Alone names = (path other : List ℕ) (id : ℕ) → get names path ≡ Some (a_file id) → get names other ≡ Some (a_file id) → other ≡ path

-- what stands below a top stands in a directory
abbrev pub Rooted : Names → Type 0
Rooted names = (path : List ℕ) (e : Entry) → get names path ≡ Some e → is_top path ≡ false → get names (parent path) ≡ Some a_directory

pub record Orderly (next : ℕ) (names : Names) : Type 0 where
  pub fresh : Fresh next names
  pub alone : Alone names
  pub rooted : Rooted names

none_some : (e : Entry) → None ≡ Some e → ⊥
none_some e h = cc

one_entry : (d e : Entry) → Some d ≡ Some e → d ≡ e
one_entry d e h = cc

file_apart : (id : ℕ) → a_directory ≡ a_file id → ⊥
file_apart id h = cc

one_number : (n id : ℕ) → a_file n ≡ a_file id → n ≡ id
one_number n id h = cc

-- ---- A name is put

pub fresh_insert : (next : ℕ) (names : Names) (path : List ℕ) (e : Entry) → ((id : ℕ) → e ≡ a_file id → id < next) → Fresh next names → Fresh next (insert names path e)
fresh_insert next names path e new old q id there = elim (cases_path q path) [
  | inl same ↦ new id (some_is (sym (get-insert_same names path e) ∙ ap (get (insert names path e)) (sym same) ∙ there))
  | inr apart ↦ old q id (sym (get-insert_other names path e q apart) ∙ there)
]
  where
    some_is : Some e ≡ Some (a_file id) → e ≡ a_file id
    some_is h = cc

-- a name that leads to a file which stands nowhere else
pub alone_insert : (names : Names) (path : List ℕ) (e : Entry) → ((id : ℕ) → e ≡ a_file id → (other : List ℕ) → other ≢ path → get names other ≡ Some (a_file id) → ⊥) → Alone names → Alone (insert names path e)
alone_insert names path e new old p q id there also = elim (cases_path p path) [
  | inl one ↦ elim (cases_path q path) [
    | inl other ↦ other ∙ sym one
    | inr apart ↦ absurd (new id (some_is (sym (get-insert_same names path e) ∙ ap (get (insert names path e)) (sym one) ∙ there)) q apart (sym (get-insert_other names path e q apart) ∙ also))
  ]
  | inr far ↦ elim (cases_path q path) [
    | inl other ↦ absurd (new id (some_is (sym (get-insert_same names path e) ∙ ap (get (insert names path e)) (sym other) ∙ also)) p far (sym (get-insert_other names path e p far) ∙ there))
    | inr apart ↦ old p q id (sym (get-insert_other names path e p far) ∙ there) (sym (get-insert_other names path e q apart) ∙ also)
  ]
]
  where
    some_is : Some e ≡ Some (a_file id) → e ≡ a_file id
    some_is h = cc

-- it comes into a directory, and in the place of none but by one
pub rooted_insert : (names : Names) (path : List ℕ) (e : Entry) → (is_top path ≡ false → get names (parent path) ≡ Some a_directory) → (get names path ≡ Some a_directory → e ≡ a_directory)
    → Rooted names → Rooted (insert names path e)
rooted_insert names path e room same old q d there below = elim (cases_path q path) [
  | inl here ↦ subst (λ z. get (insert names path e) (parent z) ≡ Some a_directory) (sym here)
      (get-insert_other names path e (parent path) (parent_apart path (in_directory path (top_at here))) ∙ room (top_at here))
  | inr apart ↦ stands (parent q) (old q d (sym (get-insert_other names path e q apart) ∙ there) below)
]
  where
    top_at : q ≡ path → is_top path ≡ false
    top_at here = ap is_top (sym here) ∙ below

    stands : (up : List ℕ) → get names up ≡ Some a_directory → get (insert names path e) up ≡ Some a_directory
    stands up is = elim (cases_path up path) [
      | inl here ↦ ap (get (insert names path e)) here ∙ get-insert_same names path e ∙ ap Some (same (ap (get names) (sym here) ∙ is))
      | inr apart ↦ get-insert_other names path e up apart ∙ is
    ]

-- a new file
pub orderly_file : (next : ℕ) (names : Names) (path : List ℕ) → (is_top path ≡ false → get names (parent path) ≡ Some a_directory) → (get names path ≡ Some a_directory → ⊥)
    → Orderly next names → Orderly (next + 1) (insert names path (a_file next))
orderly_file next names path room no_directory o = record {
  fresh = fresh_insert (next + 1) names path (a_file next) (λ n e. let is = one_number next n e in omega arith) (λ q id there. let below = o.fresh q id there in omega arith);
  alone = alone_insert names path (a_file next) (λ n e other apart there. let is = one_number next n e in let below = o.fresh other n there in omega (arith, is)) o.alone;
  rooted = rooted_insert names path (a_file next) room (λ is. absurd (no_directory is)) o.rooted;
}

pub orderly_directory : (next : ℕ) (names : Names) (path : List ℕ) → (is_top path ≡ false → get names (parent path) ≡ Some a_directory) → Orderly next names → Orderly next (insert names path a_directory)
orderly_directory next names path room o = record {
  fresh = fresh_insert next names path a_directory (λ n e. absurd (file_apart n e)) o.fresh;
  alone = alone_insert names path a_directory (λ n e. absurd (file_apart n e)) o.alone;
  rooted = rooted_insert names path a_directory room (λ is. refl) o.rooted;
}

-- ---- A name is removed

-- what stands after a removal stood before
removed_was : (names : Names) (path q : List ℕ) (e : Entry) → get (remove names path) q ≡ Some e → get names q ≡ Some e
removed_was names path q e there = elim (cases_path q path) [
  | inl same ↦ absurd (none_some e (sym (get-remove_same names path) ∙ ap (get (remove names path)) (sym same) ∙ there))
  | inr apart ↦ sym (get-remove_other names path q apart) ∙ there
]

-- nothing stands in it
abbrev pub Childless : Names → List ℕ → Type 0
Childless names path = (q : List ℕ) (e : Entry) → get names q ≡ Some e → is_top q ≡ false → parent q ≢ path

pub file_childless : (names : Names) (path : List ℕ) (id : ℕ) → get names path ≡ Some (a_file id) → Rooted names → Childless names path
file_childless names path id is rooted q e there below same =
    file_apart id (one_entry a_directory (a_file id) (sym (ap (get names) (sym same) ∙ rooted q e there below) ∙ is))

pub orderly_remove : (next : ℕ) (names : Names) (path : List ℕ) → Childless names path → Orderly next names → Orderly next (remove names path)
orderly_remove next names path empty o = record {
  fresh = λ q id there. o.fresh q id (removed_was names path q (a_file id) there);
  alone = λ p q id there also. o.alone p q id (removed_was names path p (a_file id) there) (removed_was names path q (a_file id) also);
  rooted = λ q e there below.
      let was = removed_was names path q e there in
      get-remove_other names path (parent q) (empty q e was below) ∙ o.rooted q e was below;
}

-- ---- A file is moved

pub orderly_moved_file : (next : ℕ) (names : Names) (from to : List ℕ) (id : ℕ) → get names from ≡ Some (a_file id) → (get names to ≡ Some a_directory → ⊥) → get names (parent to) ≡ Some a_directory
    → Orderly next names → Orderly next (done (moved_file from to id) names)
orderly_moved_file next names from to id is no_directory room o =
    let was = orderly_remove next names from (file_childless names from id is o.rooted) o in
    record {
      fresh = fresh_insert next (remove names from) to (a_file id) (λ n e. subst (λ k. k < next) (one_number id n e) (o.fresh from id is)) was.fresh;
      alone = alone_insert (remove names from) to (a_file id) (λ n e other apart there. gone n e other there) was.alone;
      rooted = rooted_insert (remove names from) to (a_file id) (λ below. get-remove_other names from (parent to) up_apart ∙ room)
          (λ there. absurd (no_directory (removed_was names from to a_directory there))) was.rooted;
    }
  where
    up_apart : parent to ≡ from → ⊥
    up_apart same = file_apart id (one_entry a_directory (a_file id) (sym (ap (get names) (sym same) ∙ room) ∙ is))

    gone : (n : ℕ) → a_file id ≡ a_file n → (other : List ℕ) → get (remove names from) other ≡ Some (a_file n) → ⊥
    gone n e other there =
        let was = subst (λ k. get (remove names from) other ≡ Some (a_file k)) (sym (one_number id n e)) there in
        let here : other ≡ from = o.alone from other id is (removed_was names from other (a_file id) was) in
        none_some (a_file id) (sym (get-remove_same names from) ∙ ap (get (remove names from)) (sym here) ∙ was)

-- ---- A directory is moved

-- a path that leads through a directory shows that it stands
through : (names : Names) (dir more : List ℕ) (e : Entry) → dir ≢ [] → Rooted names → get names (child dir more) ≡ Some e
    → ((rest : List ℕ) → length rest + 1 ≤ length more → get names (child dir rest) ≡ Some a_directory → get names dir ≡ Some a_directory) → get names dir ≡ Some a_directory
through names dir more e some rooted there further = let s = same_up more in at s.up s.slash (s.is dir)
  where
    front : (l m : List ℕ) → l ++ m ≡ [] → l ≡ []
    front [] m e = refl
    front (x ∷ l) m e = absurd (cc)

    below : (up : List ℕ) → parent (child dir more) ≡ dir ++ up → is_top (child dir more) ≡ false
    below up is = ⊎_elim (λ top. absurd (some (front dir up (sym is ∙ (bytes_eq-Decides (parent (child dir more)) []).0 top)))) (λ fails. fails) (cases_Bool (is_top (child dir more)))

    shorter : (up rest : List ℕ) → up ≡ 47 ∷ rest → parent (child dir more) ≡ dir ++ up → length rest + 1 ≤ length more
    shorter up rest begins is =
        let w = named (child dir more) (below up is) in
        omega (arith, ap length w.whole, length-append dir (47 ∷ more), length-append (parent (child dir more)) (47 ∷ w.name), ap length is, length-append dir up, ap length begins)

    at : (up : List ℕ) → Slash up → parent (child dir more) ≡ dir ++ up → get names dir ≡ Some a_directory
    at up (inl none) is = ap (get names) (sym (is ∙ ap (λ l. dir ++ l) none ∙ append-nil dir)) ∙ rooted (child dir more) e there (below up is)
    at up (inr m) is = further m.0 (shorter up m.0 m.1 is) (ap (get names) (sym (is ∙ ap (λ l. dir ++ l) m.1)) ∙ rooted (child dir more) e there (below up is))

pub above_stands : (fuel : List ℕ) (names : Names) (dir more : List ℕ) (e : Entry) → length more ≤ length fuel → dir ≢ [] → Rooted names → get names (child dir more) ≡ Some e → get names dir ≡ Some a_directory
above_stands [] names dir more e short some rooted there = through names dir more e some rooted there (λ rest less is. absurd (omega (arith, less, short)))
above_stands (x ∷ fuel) names dir more e short some rooted there = through names dir more e some rooted there (λ rest less is. above_stands fuel names dir rest a_directory (omega (arith, less, short)) some rooted is)

module _ (next : ℕ) (names : Names) (from to : List ℕ) (apart : Apart from to) (o : Orderly next names) where
  -- what stands there now stood somewhere, at one path for each
  came : (q : List ℕ) (e : Entry) → get (done (moved_directory from to) names) q ≡ Some e
      → ((is_at_or_inside to q ≡ true) × (get names (from ++ drop (length to) q) ≡ Some e)) ⊎ ((is_at_or_inside to q ≡ false) × (is_at_or_inside from q ≡ false) × (get names q ≡ Some e))
  came q e there = at (is_at_or_inside to q) (is_at_or_inside from q) refl refl (sym (get_moved from to apart names q) ∙ there)
    where
      at : (b c : Bool) → is_at_or_inside to q ≡ b → is_at_or_inside from q ≡ c → cond b (get names (from ++ drop (length to) q)) (cond c None (get names q)) ≡ Some e
          → ((is_at_or_inside to q ≡ true) × (get names (from ++ drop (length to) q) ≡ Some e)) ⊎ ((is_at_or_inside to q ≡ false) × (is_at_or_inside from q ≡ false) × (get names q ≡ Some e))
      at true c one two is = inl (one, is)
      at false true one two is = absurd (none_some e is)
      at false false one two is = inr (one, two, is)

  fresh_moved : Fresh next (done (moved_directory from to) names)
  fresh_moved q id there = ⊎_elim (λ new. o.fresh (from ++ drop (length to) q) id new.1) (λ old. o.fresh q id old.2) (came q (a_file id) there)

  -- two paths under the new one differ as the old ones did
  back : (q : List ℕ) → is_at_or_inside to q ≡ true → q ≡ to ++ drop (length to) q
  back q is = let u = under_is to q is in u.whole ∙ ap (λ l. to ++ l) (sym (ap (drop (length to)) u.whole ∙ drop_dir to u.rest))

  old_under : (q : List ℕ) → is_at_or_inside to q ≡ true → is_at_or_inside from (from ++ drop (length to) q) ≡ true
  old_under q is =
      let u = under_is to q is in
      under_test from (from ++ drop (length to) q) (record { rest = u.rest; whole = ap (λ l. from ++ l) (ap (drop (length to)) u.whole ∙ drop_dir to u.rest); slash = u.slash })

  alone_moved : Alone (done (moved_directory from to) names)
  alone_moved p q id there also = ⊎_elim
      (λ one. ⊎_elim
      (λ two. back q two.0 ∙ ap (λ l. to ++ l) (append_cancel_left from (drop (length to) q) (drop (length to) p) (o.alone (from ++ drop (length to) p) (from ++ drop (length to) q) id one.1 two.1)) ∙ sym (back p one.0))
      (λ two. absurd (not_both (is_at_or_inside from q) (ap (is_at_or_inside from) (o.alone (from ++ drop (length to) p) q id one.1 two.2) ∙ old_under p one.0) two.1))
      (came q (a_file id) also))
      (λ one. ⊎_elim
      (λ two. absurd (not_both (is_at_or_inside from p) (ap (is_at_or_inside from) (sym (o.alone p (from ++ drop (length to) q) id one.2 two.1)) ∙ old_under q two.0) one.1))
      (λ two. o.alone p q id one.2 two.2)
      (came q (a_file id) also))
      (came p (a_file id) there)

  module _ (stands : get names from ≡ Some a_directory) (room : get names (parent to) ≡ Some a_directory) (below_top : is_top to ≡ false) where
    -- what stands beside both is as before
    beside : (q : List ℕ) → is_at_or_inside to q ≡ false → is_at_or_inside from q ≡ false → get (done (moved_directory from to) names) q ≡ get names q
    beside q one two = get_moved from to apart names q
        ∙ ap (λ b. cond b (get names (from ++ drop (length to) q)) (cond (is_at_or_inside from q) None (get names q))) one ∙ ap (λ b. cond b None (get names q)) two

    -- the new path's directory
    room_moved : get (done (moved_directory from to) names) (parent to) ≡ Some a_directory
    room_moved = beside (parent to)
        (false_from_ne_true (is_at_or_inside to (parent to)) (λ is. let u = under_is to (parent to) is in let w = named to below_top in
        absurd (omega (arith, ap length u.whole, length-append to u.rest, ap length w.whole, length-append (parent to) (47 ∷ w.name)))))
        (false_from_ne_true (is_at_or_inside from (parent to)) (λ is. not_both (is_at_or_inside from to) (under_up from to below_top is) apart.0))
        ∙ room

    -- the directory of what came with it
    came_up : (q more : List ℕ) (e : Entry) → q ≡ child to more → get names (child from more) ≡ Some e → get (done (moved_directory from to) names) (parent q) ≡ Some a_directory
    came_up q more e is there =
        let s = same_up more in
        ap (λ z. get (done (moved_directory from to) names) z) (ap parent is ∙ s.is to)
        ∙ get_moved from to apart names (to ++ s.up)
        ∙ ap (λ b. cond b (get names (from ++ drop (length to) (to ++ s.up))) (cond (is_at_or_inside from (to ++ s.up)) None (get names (to ++ s.up)))) (under_test to (to ++ s.up) (record { rest = s.up; whole = refl; slash = s.slash }))
        ∙ ap (λ l. get names (from ++ l)) (drop_dir to s.up)
        ∙ up s.up s.slash (s.is from)
      where
        up : (l : List ℕ) → Slash l → parent (child from more) ≡ from ++ l → get names (from ++ l) ≡ Some a_directory
        up l (inl none) is = ap (λ r. get names (from ++ r)) none ∙ ap (get names) (append-nil from) ∙ stands
        up l (inr m) is = ap (get names) (sym is) ∙ o.rooted (child from more) e there (false_from_ne_true (is_top (child from more)) (λ top.
            absurd (omega (arith, ap length (sym is ∙ (bytes_eq-Decides (parent (child from more)) []).0 top), length-append from l, ap length m.1))))

    rooted_moved : Rooted (done (moved_directory from to) names)
    rooted_moved q e there below = ⊎_elim
        (λ new. let u = under_is to q new.0 in inside u.rest u.whole u.slash (ap (λ l. get names (from ++ l)) (sym (ap (drop (length to)) u.whole ∙ drop_dir to u.rest)) ∙ new.1))
        (λ old. beside (parent q)
        (false_from_ne_true (is_at_or_inside to (parent q)) (λ is. not_both (is_at_or_inside to q) (under_up to q below is) old.0))
        (false_from_ne_true (is_at_or_inside from (parent q)) (λ is. not_both (is_at_or_inside from q) (under_up from q below is) old.1))
        ∙ o.rooted q e old.2 below)
        (came q e there)
      where
        inside : (rest : List ℕ) → q ≡ to ++ rest → Slash rest → get names (from ++ rest) ≡ Some e → get (done (moved_directory from to) names) (parent q) ≡ Some a_directory
        inside rest whole (inl none) was = ap (λ z. get (done (moved_directory from to) names) (parent z)) (whole ∙ ap (λ l. to ++ l) none ∙ append-nil to) ∙ room_moved
        inside rest whole (inr m) was = came_up q m.0 e (whole ∙ ap (λ l. to ++ l) m.1) (ap (λ l. get names (from ++ l)) (sym m.1) ∙ was)

    pub orderly_moved : Orderly next (done (moved_directory from to) names)
    orderly_moved = record { fresh = fresh_moved; alone = alone_moved; rooted = rooted_moved }
