-- Which refusal to a renaming is due, and the tree after one.
use Rattle.std.proofs.Common.{◌≡◌, inl, inr, ℕ, ◌≤◌, List, [], ◌∷◌, length, Bool, true, false, cond, not, ◌&&◌, ◌||◌, Option, Some, None, refl, sym, ◌∙◌, ap, arith, length-append, Err, Ok}
use Rattle.std.specs.Prelude.{is_some, is_none, bytes_eq}
use Rattle.std.specs.List.{list_all, list_any}
use Rattle.std.specs.FinMap.{get, insert}
use Rattle.std.proofs.lemmas.Bool.{and_parts, or_parts, or_from, false_from_ne_true, false≢true}
use Rattle.std.proofs.lemmas.Slice.Eq.{bytes_eq-Decides}
use Rattle.file_model.specs.Disk.{Disk, seen}
use Rattle.file_model.specs.Histories.{History, Now}
use Rattle.file_model.specs.Images.{Image, Node, nothing, file, directory, node_at, directory_test}
use Rattle.file_model.specs.Kept.{IsSound, SeesMoved}
use Rattle.file_model.specs.Kinds.{CanMove, CanMakeDirectory}
use Rattle.file_model.specs.Paths.{child, is_inside, is_at_or_inside}
use Rattle.file_model.proofs.Inside.{inside_is, not_both}
use Rattle.any_store.specs.Choice.{Formats, directory_driver}
use Rattle.mail_tree.specs.declared.fault.TreeFault.TheVariants.{There, Absent, Reserved, Selected}
use Rattle.mail_tree.specs.Changes.{empty_directory, put_missing, with_parents, with_nodes, is_selected_below, due_rename, renamed_tree}
use Rattle.mail_tree.specs.Making.{IsReady, MakesParents}
use Rattle.mail_tree.specs.Names.{inbox, prefixes, IsName}
use Rattle.mail_tree.specs.Promises.{AnswersBy, IsMadeAbove, HasRoot}
use Rattle.mail_tree.specs.Renaming.{sees_something, is_taken, CanRename, CanMoveWhole}
use Rattle.mail_tree.specs.Sights.{is_standing, stands_at, sight_of, sight_at, is_plain_sight, sees_at, is_blocked_at}
use Rattle.mail_tree.specs.Trees.{TreeNode, folder, Nodes, Tree, HasTree, is_plain, is_blocked, sees, seen_node}
use Rattle.mail_tree.proofs.Above.{below_no_top}
use Rattle.mail_tree.proofs.Below.{IsRooted, rooted_seen, one_below}
use Rattle.mail_tree.proofs.Creating.{name_path, stands_none, last_free}
use Rattle.mail_tree.proofs.Made.{get_put_other}
use Rattle.mail_tree.proofs.MovedKeys.{Apart}
use Rattle.mail_tree.proofs.Moving.{test_below, tree_moved}
use Rattle.mail_tree.proofs.Nodes.{AreFormats}
use Rattle.mail_tree.proofs.Parents.{node_stands}
use Rattle.mail_tree.proofs.Sighted.{all_same, any_none, sees_same, sees_free, blocked_same}

-- ---- Tests of all that is above a name

all_not : (f : List ℕ → Bool) (xs : List (List ℕ)) → list_all f xs ≡ true → list_any (λ q. not (f q)) xs ≡ false
all_not f [] is = refl
all_not f (x ∷ xs) is = let p = and_parts (f x) (list_all f xs) is in or_from (not (f x)) (list_any (λ q. not (f q)) xs) (ap not p.0) (all_not f xs p.1)

pub all_holds : (f : List ℕ → Bool) (name : List ℕ) → list_all f (prefixes name) ≡ true → (q rest : List ℕ) → name ≡ child q rest → f q ≡ true
all_holds f name all q rest whole = twice (f q) (any_none (λ l. not (f l)) name (all_not f (prefixes name) all) q rest whole)
  where
    twice : (b : Bool) → not b ≡ false → b ≡ true
    twice true h = refl
    twice false h = absurd (cc)

-- ---- Refusals

none_not : (o : Option TreeNode) → is_none o ≡ not (is_some o)
none_not None = refl
none_not (Some n) = refl

-- a test in another order, of which one part counts only where another fails
in_order : (x y b i : Bool) → (b ≡ false → x ≡ y) → ((x || b) || i) ≡ (i || (y || b))
in_order x y false i same = ap (λ z. (z || false) || i) (same refl) ∙ turned y i
  where
    turned : (y i : Bool) → ((y || false) || i) ≡ (i || (y || false))
    turned true true = refl
    turned true false = refl
    turned false true = refl
    turned false false = refl
in_order true true true true same = refl
in_order true true true false same = refl
in_order true false true true same = refl
in_order true false true false same = refl
in_order false true true true same = refl
in_order false true true false same = refl
in_order false false true true same = refl
in_order false false true false same = refl

module _ (formats : Formats) (root from to : List ℕ) (is_from : IsName from) (image : Image) (rooted : IsRooted image) (tree : Tree) (has : HasTree formats root image tree) (selected : Option (List ℕ)) where
  unseen_same : is_none (seen_node tree.nodes from) ≡ not (sees_something root image from)
  unseen_same = at (sees_at root image from) refl
    where
      same : sees tree.nodes from ≡ sees_at root image from
      same = sees_same formats root image tree has from (name_path from is_from)

      at : (b : Bool) → sees_at root image from ≡ b → is_none (seen_node tree.nodes from) ≡ not (sees_something root image from)
      at false e = ap (λ t. is_none (cond t (get tree.nodes from) None)) (same ∙ e) ∙ sym (ap (λ t. not (t && stands_at image (child root from))) e)
      at true e =
          ap (λ t. is_none (cond t (get tree.nodes from) None)) (same ∙ e) ∙ none_not (get tree.nodes from)
          ∙ ap not (node_stands formats root from (name_path from is_from) image rooted tree has (sees_free tree.nodes from (same ∙ e)))
          ∙ sym (ap (λ t. not (t && stands_at image (child root from))) e)

  taken_same : IsName to → ((is_some (get tree.nodes to) || is_blocked tree.nodes to) || is_inside from to) ≡ is_taken root image from to
  taken_same is_to =
      in_order (is_some (get tree.nodes to)) (stands_at image (child root to)) (is_blocked tree.nodes to) (is_inside from to) (node_stands formats root to (name_path to is_to) image rooted tree has)
      ∙ ap (λ b. is_inside from to || (stands_at image (child root to) || b)) (blocked_same formats root image tree has rooted to (name_path to is_to))

  -- the first two tests pass
  module _ (other : bytes_eq from inbox ≡ false) (beside : is_selected_below selected from ≡ false) where
    pub due_absent : sees_something root image from ≡ false → due_rename tree from to selected ≡ Some Absent
    due_absent none = λ i. cond (other i) (Some Reserved) (cond (beside i) (Some Selected) (cond ((unseen_same ∙ ap not none) i) (Some Absent)
        (cond ((is_some (get tree.nodes to) || is_blocked tree.nodes to) || is_inside from to) (Some There) None)))

    pub due_taken : IsName to → sees_something root image from ≡ true → is_taken root image from to ≡ true → due_rename tree from to selected ≡ Some There
    due_taken is_to some taken = λ i. cond (other i) (Some Reserved) (cond (beside i) (Some Selected) (cond ((unseen_same ∙ ap not some) i) (Some Absent)
        (cond ((taken_same is_to ∙ taken) i) (Some There) None)))

    pub due_none : IsName to → CanRename root from to image → due_rename tree from to selected ≡ None
    due_none is_to can = λ i. cond (other i) (Some Reserved) (cond (beside i) (Some Selected) (cond ((unseen_same ∙ ap not can.there) i) (Some Absent)
        (cond ((taken_same is_to ∙ can.free) i) (Some There) None)))

-- ---- On histories

module _ (formats : Formats) (root from to : List ℕ) (is_from : IsName from) (selected : Option (List ℕ)) (other : bytes_eq from inbox ≡ false) (beside : is_selected_below selected from ≡ false) where
  pub absent_due : (T : Type 0) (found : Bool) → found ≡ false → (old : History) → Now old (λ w. found ≡ sees_something root (seen w.disk) from) → Now old (λ w. IsSound w.disk)
      → AnswersBy {T = T} formats root (λ tree. due_rename tree from to selected) (Err Absent) old
  absent_due T found none [] now sound = tt
  absent_due T found none (w ∷ past) now sound = λ tree has. inl (due_absent formats root from to is_from (seen w.disk) (rooted_seen w.disk sound) tree has selected other beside (sym now ∙ none))

  module _ (is_to : IsName to) where
    pub taken_due : (T : Type 0) (found taken : Bool) → found ≡ true → taken ≡ true → (old : History) → Now old (λ w. found ≡ sees_something root (seen w.disk) from) → Now old (λ w. taken ≡ is_taken root (seen w.disk) from to) → Now old (λ w. IsSound w.disk)
        → AnswersBy {T = T} formats root (λ tree. due_rename tree from to selected) (Err There) old
    taken_due T found taken some is [] now then sound = tt
    taken_due T found taken some is (w ∷ past) now then sound = λ tree has. inl (due_taken formats root from to is_from (seen w.disk) (rooted_seen w.disk sound) tree has selected other beside is_to (sym now ∙ some) (sym then ∙ is))

    pub none_due : (T : Type 0) (value : T) (found taken : Bool) → found ≡ true → taken ≡ false → (old : History) → Now old (λ w. found ≡ sees_something root (seen w.disk) from) → Now old (λ w. taken ≡ is_taken root (seen w.disk) from to) → Now old (λ w. IsSound w.disk)
        → AnswersBy formats root (λ tree. due_rename tree from to selected) (Ok value) old
    none_due T value found taken some is [] now then sound = tt
    none_due T value found taken some is (w ∷ past) now then sound = λ tree has.
        due_none formats root from to is_from (seen w.disk) (rooted_seen w.disk sound) tree has selected other beside is_to (record { there = sym now ∙ some; free = sym then ∙ is })

-- ---- What can move

module _ (root from to : List ℕ) (image : Image) (can : CanRename root from to image) where
  pub sees_from : sees_at root image from ≡ true
  sees_from = (and_parts (sees_at root image from) (stands_at image (child root from)) can.there).0

  pub stands_from : stands_at image (child root from) ≡ true
  stands_from = (and_parts (sees_at root image from) (stands_at image (child root from)) can.there).1

  not_inside : is_inside from to ≡ false
  not_inside = (or_parts (is_inside from to) (stands_at image (child root to) || is_blocked_at root image to) can.free).0

  pub none_to : stands_at image (child root to) ≡ false
  none_to = (or_parts (stands_at image (child root to)) (is_blocked_at root image to) (or_parts (is_inside from to) (stands_at image (child root to) || is_blocked_at root image to) can.free).1).0

  pub free_to : is_blocked_at root image to ≡ false
  free_to = (or_parts (stands_at image (child root to)) (is_blocked_at root image to) (or_parts (is_inside from to) (stands_at image (child root to) || is_blocked_at root image to) can.free).1).1

  other_names : from ≡ to → ⊥
  other_names same = not_both (stands_at image (child root from)) stands_from (ap (λ n. stands_at image (child root n)) same ∙ none_to)

  -- nothing isn't above what is seen
  not_above_from : is_inside to from ≡ true → ⊥
  not_above_from is =
      let w = inside_is to from is in
      false≢true (sym (ap (λ n. is_plain_sight (sight_of (directory_driver image (child root to)) n)) (stands_none image (child root to) none_to)) ∙ all_holds (λ front. is_plain_sight (sight_at image (child root front))) from sees_from to w.0 w.1)

  pub names_apart : Apart from to
  names_apart = (
    or_from (bytes_eq from to) (is_inside from to) (false_from_ne_true (bytes_eq from to) (λ same. other_names ((bytes_eq-Decides from to).0 same))) not_inside,
    or_from (bytes_eq to from) (is_inside to from) (false_from_ne_true (bytes_eq to from) (λ same. other_names (sym ((bytes_eq-Decides to from).0 same)))) (false_from_ne_true (is_inside to from) not_above_from),
  )

pub node_stood : (n : Node) → is_standing n ≡ true → n ≡ nothing → ⊥
node_stood n stands none = false≢true (sym (ap is_standing none) ∙ stands)

-- a name isn't above itself
not_above : (root name : List ℕ) (start : Disk) → IsMadeAbove root name start (child root name) → ⊥
not_above root name start m = absurd (omega (arith, ap length m.above, length-append m.front (47 ∷ m.rest), ap length (one_below root name m.front m.whole)))

-- what stood isn't among the directories that are made
pub not_made : (root to : List ℕ) (start : Disk) (path : List ℕ) → stands_at (seen start) path ≡ true → IsMadeAbove root to start path → ⊥
not_made root to start path stands m = node_stood (node_at (seen start) path) stands m.absent

module _ (formats : Formats) (root from to : List ℕ) (is_to : IsName to) (some : 1 ≤ length root) (start mid : Disk) (can : CanRename root from to (seen start)) (sound : IsSound mid) (parents : MakesParents formats root to start mid) where
  same_from : node_at (seen mid) (child root from) ≡ node_at (seen start) (child root from)
  same_from = parents.rest (child root from) (not_made root to start (child root from) (stands_from root from to (seen start) can))

  free_mid : node_at (seen mid) (child root to) ≡ nothing
  free_mid = parents.rest (child root to) (not_above root to start) ∙ stands_none (seen start) (child root to) (none_to root from to (seen start) can)

  stands_mid : is_standing (node_at (seen mid) (child root from)) ≡ true
  stands_mid = ap is_standing same_from ∙ stands_from root from to (seen start) can

  outside : is_at_or_inside (child root from) (child root to) ≡ false
  outside = test_below root from to false (names_apart root from to (seen start) can).0

  can_make : CanMakeDirectory (seen mid) (child root to)
  can_make = record {
    free = record { nothing_there = free_mid; room = parents.room; below = below_no_top root to some };
    name = last_free root to (name_path to is_to);
  }

  can_move : (n : Node) → node_at (seen mid) (child root from) ≡ n → is_standing n ≡ true → CanMove (seen mid) (child root from) (child root to)
  can_move nothing e stands = absurd (cc)
  can_move (file bytes) e stands = inl (record {
    is_file = (bytes, e, omega arith);
    target = λ is. absurd (false≢true (sym (ap directory_test free_mid) ∙ is));
    room = parents.room;
    below = below_no_top root to some;
  })
  can_move directory e stands = inr (record {
    is_there = ap directory_test e;
    target = can_make;
    outside = (or_parts (bytes_eq (child root from) (child root to)) (is_inside (child root from) (child root to)) outside).1;
  })

  pub can_move_whole : CanMoveWhole (child root from) (child root to) (seen mid)
  can_move_whole = record {
    can = can_move (node_at (seen mid) (child root from)) refl stands_mid;
    free = free_mid;
    outside = outside;
    beside = test_below root to from false (names_apart root from to (seen start) can).1;
    room = (rooted_seen mid sound).above (child root from) (λ none. node_stood (node_at (seen mid) (child root from)) stands_mid none) (below_no_top root from some);
  }

-- what can be renamed on a sound disk
abbrev pub IsRenamable : (root from to : List ℕ) → Disk → Type 0
IsRenamable root from to disk = CanRename root from to (seen disk) × IsSound disk

pub ready_to : (root from to : List ℕ) (old : History) → Now old (λ w. CanRename root from to (seen w.disk)) → HasRoot root old → Now old (λ w. IsReady root to (seen w.disk))
ready_to root from to [] can stands = tt
ready_to root from to (w ∷ past) can stands = record { stands = stands; free = free_to root from to (seen w.disk) can }

-- ---- The tree

-- what stands stays where directories are put
put_kept : (xs : List (List ℕ)) (nodes : Nodes) (q : List ℕ) → is_some (get nodes q) ≡ true → get (put_missing xs nodes) q ≡ get nodes q
put_kept [] nodes q some = refl
put_kept (x ∷ xs) nodes q some = at (is_some (get nodes x)) refl (λ ns still. put_kept xs ns q still)
  where
    at : (b : Bool) → is_some (get nodes x) ≡ b → ((ns : Nodes) → is_some (get ns q) ≡ true → get (put_missing xs ns) q ≡ get ns q) → get (put_missing xs (cond b nodes (insert nodes x (folder empty_directory)))) q ≡ get nodes q
    at true e rest = rest nodes some
    at false e rest =
        let stays = get_put_other nodes x (folder empty_directory) q (λ same. not_both (is_some (get nodes q)) some (ap (λ l. is_some (get nodes l)) same ∙ e)) in
        rest (insert nodes x (folder empty_directory)) (ap is_some stays ∙ some) ∙ stays

plain_some : (o : Option TreeNode) → is_plain o ≡ true → is_some o ≡ true
plain_some None is = absurd (cc)
plain_some (Some n) is = refl

-- a name sees the same as before
sees_kept : (nodes : Nodes) (to name : List ℕ) → sees nodes name ≡ true → sees (with_parents to nodes) name ≡ true
sees_kept nodes to name seen =
    all_same (λ q. is_plain (get (with_parents to nodes) q)) (λ q. is_plain (get nodes q)) name
    (λ q rest whole. ap is_plain (put_kept (prefixes to) nodes q (plain_some (get nodes q) (all_holds (λ l. is_plain (get nodes l)) name seen q rest whole)))) ∙ seen

module _ (formats : Formats) (laws : AreFormats formats) (root from to : List ℕ) (is_from : IsName from) (is_to : IsName to) (start mid end : Disk) (sound : IsSound start) (sound_mid : IsSound mid)
    (can : CanRename root from to (seen start)) (parents : MakesParents formats root to start mid) (moved : SeesMoved (child root from) (child root to) mid end) (tree : Tree) (has : HasTree formats root (seen start) tree) where
  free_tree : is_blocked tree.nodes to ≡ false
  free_tree = blocked_same formats root (seen start) tree has (rooted_seen start sound) to (name_path to is_to) ∙ free_to root from to (seen start) can

  sees_tree : sees tree.nodes from ≡ true
  sees_tree = sees_same formats root (seen start) tree has from (name_path from is_from) ∙ sees_from root from to (seen start) can

  pub tree_renamed : HasTree formats root (seen end) (renamed_tree tree from to)
  tree_renamed = tree_moved formats laws root from to (name_path from is_from) (name_path to is_to) (names_apart root from to (seen start) can) (seen mid) (seen end) (rooted_seen mid sound_mid) (record { each = moved.each })
      (with_nodes (with_parents to tree.nodes) tree) (parents.tree tree has free_tree) (sees_kept tree.nodes to from sees_tree) (parents.seen_now tree has free_tree)
