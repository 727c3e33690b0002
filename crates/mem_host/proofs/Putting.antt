-- What stands on a disk after something was put there.
use Rattle.std.proofs.Common.{◌≡◌, ◌≢◌, inl, inr, ℕ, ◌+◌, ◌<◌, ◌≤◌, List, [], ◌∷◌, ◌++◌, length, take, drop, get_or, Bool, true, false, cond, not, ◌&&◌, ◌==◌, nat_lt, ◌||◌, Option, Some, None, refl, sym, ◌∙◌, ap, subst, arith, length-append, length-take, get_or-take, take-append-drop, append_assoc, append-nil}
use Rattle.std.proofs.Math.Seq.{get_or-append_seam}
use Rattle.std.proofs.lemmas.List.{take_more}
use Rattle.std.proofs.lemmas.Grind.{common_steps}
use Rattle.std.proofs.lemmas.Bool.Decides.{nat_tests}
use Rattle.std.proofs.lemmas.Slice.Eq.{bytes_eq-Decides}
use Rattle.std.specs.Str.{bytes_eq}
use Rattle.std.specs.FinMap.{get}
use Rattle.file_model.specs.Paths.{parent, is_top, is_inside}
use Rattle.file_model.specs.Images.{Image, Entry, a_file, a_directory, Node, node_of, node_at, bytes_of, bytes_at, file, directory, directory_test}
use Rattle.file_model.specs.Disk.{Disk, seen, seen_names}
use Rattle.file_model.specs.Kept.{IsSound}
use Rattle.std.proofs.lemmas.Bool.{false_from_ne_true}
use Rattle.file_model.proofs.Inside.{named, child_inside}
use Rattle.file_model.proofs.Names.{cases_path, get-insert_same, get-insert_other, all_may_stand}
use Rattle.mem_host.specs.Replay.{resting_file, with_directory, with_resting_file}
use Rattle.mem_host.specs.Putting.{is_above, NoFileAbove, with_parents}

-- the test of two paths
pub alike : (p q : List ℕ) → p ≡ q → bytes_eq p q ≡ true
alike p q same = (bytes_eq-Decides p q).1 same

pub unlike : (p q : List ℕ) → p ≢ q → bytes_eq p q ≡ false
unlike p q apart = not_true (bytes_eq p q) (λ is. apart ((bytes_eq-Decides p q).0 is))
  where
    not_true : (b : Bool) → (b ≡ true → ⊥) → b ≡ false
    not_true true h = absurd (h refl)
    not_true false h = refl

pub node_put_directory : (path : List ℕ) (disk : Disk) (q : List ℕ) → node_at (seen (with_directory path disk)) q ≡ cond (bytes_eq q path) directory (node_at (seen disk) q)
node_put_directory path disk q = elim (cases_path q path) [
  | inl same ↦ ap (λ z. node_at (seen (with_directory path disk)) z) same ∙ ap (node_of (seen disk).bytes) (get-insert_same (seen_names disk) path a_directory)
      ∙ sym (ap (λ b. cond b directory (node_at (seen disk) q)) (alike q path same))
  | inr apart ↦ ap (node_of (seen disk).bytes) (get-insert_other (seen_names disk) path a_directory q apart) ∙ sym (ap (λ b. cond b directory (node_at (seen disk) q)) (unlike q path apart))
]

number_same : (n : ℕ) → (n == n) ≡ true
number_same n = grind arith

number_below : (n next : ℕ) → n < next → (n == next) ≡ false
number_below n next below = grind arith

-- a new file leaves the others
node_beside : (bytes : List ℕ) (disk : Disk) (path q : List ℕ) (e : Option Entry) → get (seen_names disk) q ≡ e → IsSound disk
    → node_of (seen (with_resting_file path bytes disk)).bytes e ≡ node_of (seen disk).bytes e
node_beside bytes disk path q None is sound = refl
node_beside bytes disk path q (Some a_directory) is sound = refl
node_beside bytes disk path q (Some (a_file id)) is sound =
    ap (λ b. file (cond b (resting_file bytes) (disk.files id)).seen) (number_below id disk.next (sound.fresh (seen_names disk) (all_may_stand disk.durable disk.pending) q id is))

pub node_put_file : (path bytes : List ℕ) (disk : Disk) (q : List ℕ) → IsSound disk → node_at (seen (with_resting_file path bytes disk)) q ≡ cond (bytes_eq q path) (file bytes) (node_at (seen disk) q)
node_put_file path bytes disk q sound = elim (cases_path q path) [
  | inl same ↦ ap (λ z. node_at (seen (with_resting_file path bytes disk)) z) same ∙ ap (node_of (seen (with_resting_file path bytes disk)).bytes) (get-insert_same (seen_names disk) path (a_file disk.next))
      ∙ ap (λ b. file (cond b (resting_file bytes) (disk.files disk.next)).seen) (number_same disk.next)
      ∙ sym (ap (λ b. cond b (file bytes) (node_at (seen disk) q)) (alike q path same))
  | inr apart ↦ ap (node_of (seen (with_resting_file path bytes disk)).bytes) (get-insert_other (seen_names disk) path (a_file disk.next) q apart)
      ∙ node_beside bytes disk path q (get (seen_names disk) q) refl sound ∙ sym (ap (λ b. cond b (file bytes) (node_at (seen disk) q)) (unlike q path apart))
]

-- a directory that a path leads through ends at a slash of it, and is not empty
pub record Above (dir path : List ℕ) : Type 0 where
  pub short : length dir < length path
  pub slash : get_or path (length dir) 0 ≡ 47
  pub front : take (length dir) path ≡ dir
  pub some : dir ≢ []

both : (a b : Bool) → (a && b) ≡ true → (a ≡ true) × (b ≡ true)
both true b h = (refl, h)
both false b h = absurd (cc)

pub above_is : (dir path : List ℕ) → is_above dir path ≡ true → Above dir path
unfolding is_inside
above_is dir path h =
    let parts = both (is_inside dir path) (not (bytes_eq dir [])) h in
    let n = length dir in
    let begins : dir ++ 47 ∷ [] ≡ take (length (dir ++ 47 ∷ [])) path = (bytes_eq-Decides (dir ++ 47 ∷ []) (take (length (dir ++ 47 ∷ [])) path)).0 parts.0 in
    let long : length (dir ++ 47 ∷ []) ≡ n + 1 = length-append dir (47 ∷ []) in
    let whole : dir ++ 47 ∷ [] ≡ take (n + 1) path = begins ∙ ap (λ k. take k path) long in
    let below : n < length path = omega (arith, length-take (n + 1) path, ap length whole, long) in
    record {
      short = below;
      slash = sym (get_or-take (n + 1) path n 0 (omega arith)) ∙ ap (λ l. get_or l n 0) (sym whole) ∙ get_or-append_seam dir 47 [] 0;
      front = fronts dir path (get_or path n 0) (whole ∙ take_more path n 0 below) below;
      some = λ none. absurd (differ (sym (ap (λ d. not (bytes_eq d [])) none) ∙ parts.1));
    }
  where
    differ : false ≡ true → ⊥
    differ e = cc

    fronts : (dir path : List ℕ) (b : ℕ) → dir ++ 47 ∷ [] ≡ take (length dir) path ++ b ∷ [] → length dir < length path → take (length dir) path ≡ dir
    fronts dir path b e below =
        let cut : take (length dir) (dir ++ 47 ∷ []) ≡ take (length dir) (take (length dir) path ++ b ∷ []) = ap (take (length dir)) e in
        let same : length (take (length dir) path) ≡ length dir = omega (arith, length-take (length dir) path) in
        grind (arith, common_steps, cut, same)

pub is_above_at : (path : List ℕ) (at : ℕ) → at < length path → get_or path at 0 ≡ 47 → 0 < at → is_above (take at path) path ≡ true
unfolding is_inside
is_above_at path at below slash some =
    let dir = take at path in
    let n : length dir ≡ at = omega (arith, length-take at path) in
    let long : length (dir ++ 47 ∷ []) ≡ at + 1 = length-append dir (47 ∷ []) ∙ ap (λ k. k + 1) n in
    let whole : dir ++ 47 ∷ [] ≡ take (length (dir ++ 47 ∷ [])) path =
    ap (λ b. dir ++ b ∷ []) (sym slash) ∙ sym (take_more path at 0 below) ∙ ap (λ k. take k path) (sym long) in
    ap (λ b. b && not (bytes_eq dir [])) ((bytes_eq-Decides (dir ++ 47 ∷ []) (take (length (dir ++ 47 ∷ [])) path)).1 whole)
    ∙ ap not (unlike dir [] (λ none. absurd (omega (arith, n, ap length none))))

-- a directory that a path leads through before a place of it
abbrev pub is_above_before : List ℕ → ℕ → List ℕ → Bool
is_above_before path at dir = is_above dir path && nat_lt (length dir) at

lt_is : (k n : ℕ) → k < n → nat_lt k n ≡ true
lt_is k n below = grind (arith, nat_tests)

lt_not : (k n : ℕ) → n ≤ k → nat_lt k n ≡ false
lt_not k n above = grind (arith, nat_tests)

lt_next : (k n : ℕ) → k ≢ n → nat_lt k n ≡ nat_lt k (n + 1)
lt_next k n apart = grind (arith, nat_tests)

and_false : (b : Bool) → (b && false) ≡ false
and_false true = refl
and_false false = refl

and_true : (b : Bool) → (b && true) ≡ b
and_true true = refl
and_true false = refl

-- no directory ends at a place
none_ends : (path : List ℕ) (at : ℕ) (q : List ℕ) → (Above q path → length q ≡ at → ⊥) → is_above_before path at q ≡ is_above_before path (at + 1) q
none_ends path at q none = split (is_above q path) refl
  where
    split : (b : Bool) → is_above q path ≡ b → (b && nat_lt (length q) at) ≡ (b && nat_lt (length q) (at + 1))
    split true is = lt_next (length q) at (none (above_is q path is))
    split false is = refl

-- a directory put at the next slash is the one that is new
pub next_parent : (path : List ℕ) (at : ℕ) (old new : List ℕ → Node) (base : Image) (q : List ℕ) → at < length path → get_or path at 0 ≡ 47 → 0 < at
    → ((p : List ℕ) → new p ≡ cond (bytes_eq p (take at path)) directory (old p))
    → ((p : List ℕ) → old p ≡ cond (is_above_before path at p) directory (node_at base p)) → new q ≡ cond (is_above_before path (at + 1) q) directory (node_at base q)
next_parent path at old new base q below slash some puts was = puts q ∙ elim (cases_path q (take at path)) [
  | inl same ↦ let n : length q ≡ at = omega (arith, ap length same, length-take at path) in
      ap (λ b. cond b directory (old q)) (alike q (take at path) same)
      ∙ sym (ap (λ b. cond b directory (node_at base q)) (ap (λ b. b && nat_lt (length q) (at + 1)) (ap (λ z. is_above z path) same ∙ is_above_at path at below slash some) ∙ lt_is (length q) (at + 1) (omega (arith, n))))
  | inr apart ↦ ap (λ b. cond b directory (old q)) (unlike q (take at path) apart) ∙ was q
      ∙ ap (λ b. cond b directory (node_at base q)) (none_ends path at q (λ above n. apart (sym above.front ∙ ap (λ k. take k path) n)))
]

-- where no directory ends all stays
pub no_next_parent : (path : List ℕ) (at : ℕ) (node : Node) (base : Image) (q : List ℕ) → (get_or path at 0 ≡ 47 → 0 < at → ⊥)
    → node ≡ cond (is_above_before path at q) directory (node_at base q) → node ≡ cond (is_above_before path (at + 1) q) directory (node_at base q)
no_next_parent path at node base q none was = was ∙ ap (λ b. cond b directory (node_at base q)) (none_ends path at q ends)
  where
    no_bytes : (l : List ℕ) → length l ≡ 0 → l ≡ []
    no_bytes [] e = refl
    no_bytes (x ∷ l) e = absurd (omega arith)

    positive : (k : ℕ) → (k ≡ 0 → ⊥) → 0 < k
    positive k apart = omega (arith, apart)

    ends : Above q path → length q ≡ at → ⊥
    ends above n = none (ap (λ k. get_or path k 0) (sym n) ∙ above.slash) (subst (λ k. 0 < k) n (positive (length q) (λ e. above.some (no_bytes q e))))

pub no_parents : (path : List ℕ) (base : Image) (q : List ℕ) → node_at base q ≡ cond (is_above_before path 0 q) directory (node_at base q)
no_parents path base q = sym (ap (λ b. cond b directory (node_at base q)) (ap (λ b. is_above q path && b) (lt_not (length q) 0 (omega arith)) ∙ and_false (is_above q path)))

pub all_parents : (path : List ℕ) (node : Node) (base : Image) (q : List ℕ) → node ≡ cond (is_above_before path (length path) q) directory (node_at base q) → node ≡ with_parents base path q
all_parents path node base q is = is ∙ ap (λ b. cond b directory (node_at base q)) (split (is_above q path) refl)
  where
    split : (b : Bool) → is_above q path ≡ b → (b && nat_lt (length q) (length path)) ≡ b
    split true above = lt_is (length q) (length path) (above_is q path above).short
    split false above = refl

-- the directories that were put are no files
pub files_kept : (path : List ℕ) (at : ℕ) (node : Node) (base : Image) (q : List ℕ) → NoFileAbove base path → node ≡ cond (is_above_before path at q) directory (node_at base q) → bytes_of node ≡ bytes_at base q
files_kept path at node base q clear is = ap bytes_of is ∙ split (is_above q path) refl (nat_lt (length q) at)
  where
    split : (b : Bool) → is_above q path ≡ b → (c : Bool) → bytes_of (cond (b && c) directory (node_at base q)) ≡ bytes_at base q
    split true above true = sym (clear q above)
    split true above false = refl
    split false above c = refl

-- no file stands where the next directory is put
pub no_file_next : (path : List ℕ) (at : ℕ) (node : Node) (base : Image) → NoFileAbove base path → at < length path → get_or path at 0 ≡ 47 → 0 < at
    → node ≡ cond (is_above_before path at (take at path)) directory (node_at base (take at path)) → bytes_of node ≡ None
no_file_next path at node base clear below slash some is = files_kept path at node base (take at path) clear is ∙ clear (take at path) (is_above_at path at below slash some)

-- ---- The directory in which something is put

above_named : (path rest : List ℕ) → is_top path ≡ false → is_above (parent path) (path ++ rest) ≡ true
above_named path rest below =
    let w = named path below in
    let inside : is_inside (parent path) (path ++ rest) ≡ true =
    subst (λ p. is_inside (parent path) (p ++ rest) ≡ true) (sym w.whole) (ap (is_inside (parent path)) (append_assoc (parent path) (47 ∷ w.name) rest) ∙ child_inside (parent path) (w.name ++ rest)) in
    ap (λ b. b && not (bytes_eq (parent path) [])) inside ∙ ap not below

-- the directory of a path's next directory was put before it, if it has one
pub room_next : (path : List ℕ) (at : ℕ) (nodes : List ℕ → Node) (base : Image) → at < length path → ((q : List ℕ) → nodes q ≡ cond (is_above_before path at q) directory (node_at base q))
    → (is_top (take at path) || directory_test (nodes (parent (take at path)))) ≡ true
room_next path at nodes base below stands = split (is_top (take at path)) refl
  where
    split : (b : Bool) → is_top (take at path) ≡ b → (b || directory_test (nodes (parent (take at path)))) ≡ true
    split true top = refl
    split false top =
        let w = named (take at path) top in
        let above : is_above (parent (take at path)) path ≡ true = subst (λ p. is_above (parent (take at path)) p ≡ true) (take-append-drop at path) (above_named (take at path) (drop at path) top) in
        let short : length (parent (take at path)) < at = omega (arith, length-take at path, ap length w.whole, length-append (parent (take at path)) (47 ∷ w.name)) in
        ap directory_test (stands (parent (take at path))
        ∙ ap (λ b. cond b directory (node_at base (parent (take at path)))) (ap (λ b. b && nat_lt (length (parent (take at path))) at) above ∙ lt_is (length (parent (take at path))) at short))

-- and so was the path's own
pub room_end : (path : List ℕ) (nodes : List ℕ → Node) (base : Image) → ((q : List ℕ) → nodes q ≡ with_parents base path q) → (is_top path || directory_test (nodes (parent path))) ≡ true
room_end path nodes base stands = split (is_top path) refl
  where
    split : (b : Bool) → is_top path ≡ b → (b || directory_test (nodes (parent path))) ≡ true
    split true top = refl
    split false top = ap directory_test (stands (parent path)
        ∙ ap (λ b. cond b directory (node_at base (parent path))) (subst (λ p. is_above (parent path) p ≡ true) (append-nil path) (above_named path [] top)))

-- a path doesn't lead through itself
pub itself_stays : (path : List ℕ) (base : Image) → with_parents base path path ≡ node_at base path
itself_stays path base = ap (λ b. cond b directory (node_at base path)) (false_from_ne_true (is_above path path) (λ is. let a = above_is path path is in absurd (omega (arith, a.short))))
