-- Leftover files that are removed, and the directory in which they stand.
use Rattle.std.proofs.Common.{◌≡◌, ◌≢◌, ⊎_elim, ℕ, List, [], ◌∷◌, ◌++◌, Bool, true, false, not, ◌&&◌, ◌||◌, ◌<◌, ◌+◌, length, take, get_or, map, Result, Ok, refl, sym, ◌∙◌, ap, subst}
use Rattle.std.specs.Prelude.{bytes_eq, IsPermutation}
use Rattle.std.specs.List.{list_all, list_any}
use Rattle.std.proofs.lemmas.Bool.{false≢true, cases_Bool, or_parts}
use Rattle.std.proofs.lemmas.Slice.Eq.{bytes_eq-Decides}
use Rattle.std.proofs.lemmas.List.{take_more, map-append, get_or-map, length-map}
use Rattle.std.proofs.lemmas.List.Folds.{list_any_at}
use Rattle.std.proofs.lemmas.List.Sorted.{list_any-IsPermutation}
use Rattle.file_model.specs.declared.files.Failed.{Failed}
use Rattle.file_model.specs.Disk.{Disk, seen, seen_names, remove_at, sync_dir, after}
use Rattle.file_model.specs.Histories.{History, Now, Ran, Ended, GoesOn}
use Rattle.file_model.specs.Images.{nothing, node_of, node_at, is_directory, directory_test, names_in}
use Rattle.file_model.specs.Kept.{Keeps, KeepsDirectories, Sees, IsSound}
use Rattle.file_model.specs.Kinds.{IsEmptyDirectory}
use Rattle.file_model.specs.Paths.{parent, is_top}
use Rattle.file_model.proofs.Calls.{ran_keeps, ran_sync_dir, sees_ok_sync_dir}
use Rattle.file_model.proofs.Directories.{ran_remove}
use Rattle.file_model.proofs.Inside.{in_directory}
use Rattle.file_model.proofs.Paths.{parent_apart}
use Rattle.file_model.proofs.FileCalls.{ran_files, remove_keeps}
use Rattle.file_model.proofs.Names.{get-remove_same, get-remove_other}
use Rattle.file_model.proofs.Runs.{now_weaker, now_both, now_all, ended_call, ran_weaker}
use Rattle.any_store.specs.Choice.{has_file}
use Rattle.mail_tree.specs.Deleting.{is_left_file, holds_left_files, is_one_of, Cleared, RemovedDirectory}
use Rattle.mail_tree.proofs.Below.{rooted_seen}
use Rattle.mail_tree.proofs.Joined.{ended_two, ended_gives}
use Rattle.mail_tree.proofs.MadeDir.{any_now}
use Rattle.mail_tree.proofs.Sighted.{file_of}

-- ---- One file

one_is : (path q : List ℕ) → is_one_of (path ∷ []) q ≡ true → q ≡ path
one_is path q is = (bytes_eq-Decides q path).0 (at (bytes_eq q path) is)
  where
    at : (b : Bool) → (b || false) ≡ true → b ≡ true
    at true e = refl
    at false e = e

one_none : (path q : List ℕ) → is_one_of (path ∷ []) q ≡ false → q ≢ path
one_none path q none same = false≢true (sym none ∙ ap (λ b. b || false) ((bytes_eq-Decides q path).1 same))

cleared_after : (path : List ℕ) (d : Disk) → Cleared (path ∷ []) d (after (remove_at path) d)
cleared_after path d = record {
  gone = λ q is was. ap (node_at (seen (after (remove_at path) d))) (one_is path q is) ∙ ap (node_of (seen d).bytes) (get-remove_same (seen_names d) path);
  rest = λ q none. ap (node_of (seen d).bytes) (get-remove_other (seen_names d) path q (one_none path q none));
}

pub removed_cleared : (path : List ℕ) (u : Unit {0}) (old new : History) → GoesOn (remove_at path) (Ok u) old new → Ended (Cleared (path ∷ [])) old new
removed_cleared path u old new on = ended_call (λ d. Unit {0}) (Cleared (path ∷ [])) (remove_at path) (λ d p. cleared_after path d) (Ok u) old new (now_all (λ w. Unit {0}) (λ w. tt) old) on

pub removed_directories : (path : List ℕ) (result : Result (Unit {0}) Failed) (old new : History) → Now old (λ w. IsSound w.disk) → Now old (λ w. has_file (seen w.disk) path ≡ true) → GoesOn (remove_at path) result old new → Ran KeepsDirectories old new
removed_directories path result old new sound is_file on =
    ran_files (λ d. IsSound d × (is_directory (seen d) path ≡ false)) (remove_at path) (λ d is. remove_keeps path d is.0 is.1) result old new
    (now_both _ _ old sound (now_weaker (λ w. has_file (seen w.disk) path ≡ true) (λ w. is_directory (seen w.disk) path ≡ false) (λ w is. ap directory_test (file_of (node_at (seen w.disk) path) is).1) old is_file)) on

-- ---- One after the other

one_of_append : (xs ys : List (List ℕ)) (q : List ℕ) → is_one_of (xs ++ ys) q ≡ (is_one_of xs q || is_one_of ys q)
one_of_append [] ys q = refl
one_of_append (x ∷ xs) ys q = ap (λ b. bytes_eq q x || b) (one_of_append xs ys q) ∙ assoc (bytes_eq q x) (is_one_of xs q) (is_one_of ys q)
  where
    assoc : (a b c : Bool) → (a || (b || c)) ≡ ((a || b) || c)
    assoc true b c = refl
    assoc false b c = refl

cleared_more : (xs : List (List ℕ)) (x : List ℕ) (a b c : Disk) → Cleared xs a b → Cleared (x ∷ []) b c → Cleared (xs ++ x ∷ []) a c
cleared_more xs x a b c one two = record { gone = gone; rest = rest }
  where
    split : (q : List ℕ) → is_one_of (xs ++ x ∷ []) q ≡ (is_one_of xs q || is_one_of (x ∷ []) q)
    split q = one_of_append xs (x ∷ []) q

    was_no_directory : (q : List ℕ) → is_directory (seen a) q ≡ false → is_directory (seen b) q ≡ false
    was_no_directory q none = ⊎_elim (λ among. ap directory_test (one.gone q among none)) (λ apart. ap directory_test (one.rest q apart) ∙ none) (cases_Bool (is_one_of xs q))

    later : (q : List ℕ) → is_one_of xs q ≡ true → is_directory (seen a) q ≡ false → is_one_of (x ∷ []) q ≡ false → node_at (seen c) q ≡ nothing
    later q among none apart = two.rest q apart ∙ one.gone q among none

    gone : (q : List ℕ) → is_one_of (xs ++ x ∷ []) q ≡ true → is_directory (seen a) q ≡ false → node_at (seen c) q ≡ nothing
    gone q is none = ⊎_elim (λ last. two.gone q last (was_no_directory q none)) (λ apart. later q (first apart) none apart) (cases_Bool (is_one_of (x ∷ []) q))
      where
        first : is_one_of (x ∷ []) q ≡ false → is_one_of xs q ≡ true
        first apart = at (is_one_of xs q) (is_one_of (x ∷ []) q) (sym (split q) ∙ is) apart
          where
            at : (m n : Bool) → (m || n) ≡ true → n ≡ false → m ≡ true
            at true n e f = refl
            at false n e f = absurd (false≢true (sym f ∙ e))

    rest : (q : List ℕ) → is_one_of (xs ++ x ∷ []) q ≡ false → node_at (seen c) q ≡ node_at (seen a) q
    rest q none = let both = or_parts (is_one_of xs q) (is_one_of (x ∷ []) q) (sym (split q) ∙ none) in two.rest q both.1 ∙ one.rest q both.0

none_cleared : (a : Disk) → Cleared [] a a
none_cleared a = record { gone = λ q is was. absurd (false≢true is); rest = λ q none. refl }

-- ---- By a list of paths

module _ {A : Type 0} (text : A → List ℕ) (paths : List A) (i : ℕ) (item : A) (short : i < length paths) (is : item ≡ get_or paths i item) where
  taken : map text (take (i + 1) paths) ≡ map text (take i paths) ++ text item ∷ []
  taken = ap (map text) (take_more paths i item short ∙ ap (λ x. take i paths ++ x ∷ []) (sym is)) ∙ map-append text (take i paths) (item ∷ [])

  among : is_one_of (map text paths) (text item) ≡ true
  among = at_map (map text paths) (text item) i (ap text is ∙ sym (get_or-map text paths i item (text item) short)) (subst (λ n. i < n) (sym (length-map paths text)) short)
    where
      at_map : (xs : List (List ℕ)) (x : List ℕ) (i : ℕ) → x ≡ get_or xs i x → i < length xs → is_one_of xs x ≡ true
      at_map xs x i same short = list_any_at (bytes_eq x) xs i x short ((bytes_eq-Decides x (get_or xs i x)).1 same)

  pub more_kept : (old mid new : History) → Ran (Keeps (λ q. is_one_of (map text paths) q ≡ false)) old mid → Ran (Keeps (λ q. q ≢ text item)) mid new → Ran (Keeps (λ q. is_one_of (map text paths) q ≡ false)) old new
  more_kept old mid new one two = ran_keeps (λ q. is_one_of (map text paths) q ≡ false) old mid new one
      (ran_weaker (λ a b keeps. record { each = λ image left. let before = keeps.each image left in (before.0, before.1, λ q none. before.2 q (λ same. false≢true (sym none ∙ ap (is_one_of (map text paths)) same ∙ among))) }) mid new two)

  pub more_cleared : (old mid new : History) → Ended (Cleared (map text (take i paths))) old mid → Ended (Cleared (text item ∷ [])) mid new → Ended (Cleared (map text (take (i + 1) paths))) old new
  more_cleared old mid new one two = subst (λ xs. Ended (Cleared xs) old new) (sym taken)
      (ended_two (λ a. Unit {0}) (λ b. Unit {0}) (Cleared (map text (take i paths))) (Cleared (text item ∷ [])) (Cleared (map text (take i paths) ++ text item ∷ []))
      (λ a b c p q r s. cleared_more (map text (take i paths)) (text item) a b c r s) old mid new (any_now old) (any_now mid) one two)

-- ---- All that stands in a directory

pub all_by_any : {X : Type 0} → (p : X → Bool) (xs : List X) → list_all p xs ≡ not (list_any (λ x. not (p x)) xs)
all_by_any p [] = refl
all_by_any p (x ∷ xs) = at (p x) (all_by_any p xs)
  where
    at : (b : Bool) → list_all p xs ≡ not (list_any (λ x. not (p x)) xs) → (b && list_all p xs) ≡ not (not b || list_any (λ x. not (p x)) xs)
    at true rest = rest
    at false rest = refl

pub all_permuted : {X : Type 0} → (p : X → Bool) (xs ys : List X) → IsPermutation xs ys → list_all p xs ≡ list_all p ys
all_permuted p xs ys same = all_by_any p xs ∙ ap not (list_any-IsPermutation (λ x. not (p x)) xs ys same) ∙ sym (all_by_any p ys)

pub left_known : (dir : List ℕ) (names : List (List ℕ)) (left is : Bool) → left ≡ is → (old : History) → Now old (λ w. IsPermutation names (names_in (seen w.disk) dir))
    → Now old (λ w. left ≡ list_all (is_left_file (seen w.disk) dir) names) → Now old (λ w. is ≡ holds_left_files (seen w.disk) dir)
left_known dir names left is same [] all value = tt
left_known dir names left is same (w ∷ past) all value = sym same ∙ value ∙ all_permuted (is_left_file (seen w.disk) dir) names (names_in (seen w.disk) dir) all

-- ---- The directory itself

gone_after : (path : List ℕ) (d : Disk) → RemovedDirectory path (seen d) (seen (after (remove_at path) d))
gone_after path d = record {
  gone = ap (node_of (seen d).bytes) (get-remove_same (seen_names d) path);
  rest = λ q apart. ap (node_of (seen d).bytes) (get-remove_other (seen_names d) path q apart);
}

module _ (path : List ℕ) (old mid : History) (removed : GoesOn (remove_at path) (Ok tt) old mid) where
  gone_mid : Ended (λ a b. RemovedDirectory path (seen a) (seen b)) old mid
  gone_mid = ended_call (λ d. Unit {0}) (λ a b. RemovedDirectory path (seen a) (seen b)) (remove_at path) (λ d p. gone_after path d) (Ok tt) old mid (any_now old) removed

  -- the directory above still stands
  pub room_left : is_top path ≡ false → Now old (λ w. IsEmptyDirectory (seen w.disk) path) → Now old (λ w. IsSound w.disk) → Now mid (λ w. is_directory (seen w.disk) (parent path) ≡ true)
  room_left below empty sound =
      ended_gives (λ d. IsEmptyDirectory (seen d) path × IsSound d) (λ d. is_directory (seen d) (parent path) ≡ true) (λ a b. RemovedDirectory path (seen a) (seen b))
      (λ a b now gone. ap directory_test (gone.rest (parent path) (parent_apart path (in_directory path below)))
      ∙ (rooted_seen a now.1).above path (λ none. false≢true (sym (ap directory_test none) ∙ now.0.is_there)) below) old mid (now_both _ _ old empty sound) gone_mid

  module _ (new : History) (synced : GoesOn (sync_dir (parent path)) (Ok tt) mid new) (sound : Now mid (λ w. IsSound w.disk)) where
    pub removed_directory : Ended (λ start end. RemovedDirectory path (seen start) (seen end)) old new
    removed_directory =
        ended_two (λ a. Unit {0}) (λ b. Unit {0}) (λ a b. RemovedDirectory path (seen a) (seen b)) (Sees (λ q. Unit {0})) (λ a c. RemovedDirectory path (seen a) (seen c))
        (λ a b c p q one two. record { gone = two.each path tt ∙ one.gone; rest = λ r apart. two.each r tt ∙ one.rest r apart }) old mid new (any_now old) (any_now mid) gone_mid
        (sees_ok_sync_dir (Ok tt) mid new (parent path) (λ q. Unit {0}) sound synced)

pub removed_settled : (path dir : List ℕ) (first second : Result (Unit {0}) Failed) (old mid new : History) → GoesOn (remove_at path) first old mid → GoesOn (sync_dir dir) second mid new → Ran (Keeps (λ q. q ≢ path)) old new
removed_settled path dir first second old mid new one two = ran_keeps (λ q. q ≢ path) old mid new (ran_remove first old mid path one) (ran_sync_dir second mid new dir (λ q. q ≢ path) two)
