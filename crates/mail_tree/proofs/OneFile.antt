-- A driver of one file writes at a name: the tree has its mailbox there, and no mix mailbox is touched.
use Rattle.std.proofs.Common.{◌≡◌, ◌≢◌, ◌⊎◌, inl, inr, ⊎_elim, ℕ, List, Bool, true, false, not, ◌&&◌, Option, Some, None, refl, sym, ◌∙◌, ap, subst}
use Rattle.std.specs.Prelude.{codes, is_none}
use Rattle.std.specs.FinMap.{get, insert}
use Rattle.std.proofs.lemmas.Bool.{false≢true}
use Rattle.file_model.specs.Disk.{Disk, seen}
use Rattle.file_model.specs.Images.{Image, nothing, node_at, is_directory, directory_test}
use Rattle.file_model.specs.Paths.{child, parent, temporary_of, HasNoSlash}
use Rattle.file_model.proofs.Names.{cases_path}
use Rattle.file_model.proofs.Inside.{not_both}
use Rattle.file_model.proofs.Paths.{child_apart, parent_child}
use Rattle.mail_types.specs.declared.driver.Driver.{Driver}
use Rattle.mail_types.specs.declared.driver.Driver.TheVariants.{Unix, Mmdf, Mbx, Mtx, Tenex, Mh, Mix}
use Rattle.store_trait.specs.OwnPaths.{is_directory_driver, MayChange, MayClear, IsOwn, IsHomeOf}
use Rattle.store_trait.specs.Touching.{AgreesBut, SeesBut}
use Rattle.store_trait.proofs.Touched.{IsBut}
use Rattle.any_store.specs.Choice.{Formats, mh_mark_of}
use Rattle.any_store.proofs.Reopened.{IsStoredAs}
use Rattle.mail_tree.specs.Agreement.{mix_of}
use Rattle.mail_tree.specs.Changes.{with_nodes}
use Rattle.mail_tree.specs.Names.{is_part, is_path}
use Rattle.mail_tree.specs.Promises.{IsMadeAbove}
use Rattle.mail_tree.specs.Sights.{IsAbove}
use Rattle.mail_tree.specs.Trees.{Meaning, TreeNode, unknown_file, file_mailbox, folder, Nodes, Tree, is_blocked, sees, HasTree, IsNodeAt, IsNodeOf, is_message}
use Rattle.mail_tree.proofs.Below.{one_below, special_apart, IsRooted}
use Rattle.mail_tree.proofs.Beside.{IsMixApart, TouchesNone, SameMix}
use Rattle.mail_tree.proofs.ChangedFile.{ChangesFile, placed, parent_new, tree_changed, kept_apart, path_apart}
use Rattle.mail_tree.proofs.Made.{get_put_same, get_put_other}
use Rattle.mail_tree.proofs.MadeDir.{own_no_part}
use Rattle.mail_tree.proofs.Nodes.{AreFormats, meta_plain, sequences_plain}
use Rattle.mail_tree.proofs.Sighted.{blocks, any_none, sees_free, no_message_in, front_path}

-- ---- What a driver of one file may touch

pub may_change : (driver : Driver) (path q : List ℕ) → is_directory_driver driver ≡ false → MayChange driver path q → (q ≡ path) ⊎ (q ≡ temporary_of path)
may_change Unix path q one may = may
may_change Mmdf path q one may = may
may_change Mbx path q one may = may
may_change Mtx path q one may = may
may_change Tenex path q one may = may
may_change Mh path q one may = absurd (false≢true (sym one))
may_change Mix path q one may = absurd (false≢true (sym one))

pub may_clear : (driver : Driver) (path q : List ℕ) → is_directory_driver driver ≡ false → MayClear driver path q → (q ≡ path) ⊎ (q ≡ temporary_of path)
may_clear Unix path q one may = may
may_clear Mmdf path q one may = may
may_clear Mbx path q one may = may
may_clear Mtx path q one may = may
may_clear Tenex path q one may = may
may_clear Mh path q one may = absurd (false≢true (sym one))
may_clear Mix path q one may = absurd (false≢true (sym one))

pub no_home : (driver : Driver) (path q : List ℕ) → is_directory_driver driver ≡ false → IsHomeOf driver path q → ⊥
no_home driver path q one home = false≢true (sym one ∙ home.0)

-- what reads see of it
pub changes_but : (files free : List ℕ → Type 0) (path : List ℕ) (a b : Disk) → ((q : List ℕ) → files q → (q ≡ path) ⊎ (q ≡ temporary_of path)) → ((q : List ℕ) → free q → ⊥) → SeesBut files free a b → ChangesFile path (seen a) (seen b)
changes_but files free path a b to nowhere sees = record {
  rest = λ q no_path no_new. at q no_path no_new (sees.each q);
  beside = new (sees.each (temporary_of path));
}
  where
    at : (q : List ℕ) → q ≢ path → q ≢ temporary_of path → AgreesBut files free q (seen b) (seen a) → node_at (seen b) q ≡ node_at (seen a) q
    at q no_path no_new (inl same) = same
    at q no_path no_new (inr (inl may)) = absurd (⊎_elim no_path no_new (to q may.0))
    at q no_path no_new (inr (inr home)) = absurd (nowhere q home)

    new : AgreesBut files free (temporary_of path) (seen b) (seen a)
        → (node_at (seen b) (temporary_of path) ≡ node_at (seen a) (temporary_of path)) ⊎ ((directory_test (node_at (seen b) (temporary_of path)) ≡ false) × (directory_test (node_at (seen a) (temporary_of path)) ≡ false))
    new (inl same) = inl same
    new (inr (inl may)) = inr (may.1, may.2)
    new (inr (inr home)) = absurd (nowhere (temporary_of path) home)

-- ---- The tree

module _ (formats : Formats) (laws : AreFormats formats) (root m : List ℕ) (is_m : is_path m ≡ true) (start end : Image) (rooted : IsRooted start) (changes : ChangesFile (child root m) start end) where
  mark_same : (dir : List ℕ) → node_at end (mh_mark_of (child root dir)) ≡ node_at start (mh_mark_of (child root dir))
  mark_same dir = changes.rest (mh_mark_of (child root dir)) (special_apart root dir m (codes ".mh_sequences") is_m sequences_plain refl)
      (kept_apart root m (child root dir) (codes ".mh_sequences") sequences_plain refl)

  -- a mailbox of one file stands at a name then
  pub tree_stored : (tree : Tree) → HasTree formats root start tree → sees tree.nodes m ≡ true → (driver : Driver) (meaning : Meaning) → IsStoredAs formats driver (child root m) end meaning
      → HasTree formats root end (with_nodes (insert tree.nodes m (file_mailbox driver meaning)) tree)
  tree_stored tree has seen driver meaning is =
      tree_changed formats laws root m is_m start end changes tree has seen (insert tree.nodes m (file_mailbox driver meaning))
      (subst (IsNodeAt formats root end m) (sym (get_put_same tree.nodes m (file_mailbox driver meaning))) (record {
        is = (no_message_in formats root start tree has rooted end mark_same m is_m (sees_free tree.nodes m seen), (is.bytes, is.here, is.chosen), is.means);
      }))
      (λ q apart. get_put_other tree.nodes m (file_mailbox driver meaning) q apart)

-- ---- The mix mailboxes

no_some : (m : Meaning) → None ≡ Some m → ⊥
no_some m h = cc

-- a node that is a mix mailbox is a directory
mix_stands : (formats : Formats) (path : List ℕ) (image : Image) (message : Bool) (o : Option TreeNode) (meaning : Meaning) → IsNodeOf formats path image message o → mix_of o ≡ Some meaning → is_directory image path ≡ true
mix_stands formats path image message None meaning node is = absurd (no_some meaning is)
mix_stands formats path image message (Some unknown_file) meaning node is = absurd (no_some meaning is)
mix_stands formats path image message (Some (file_mailbox driver other)) meaning node is = absurd (no_some meaning is)
mix_stands formats path image message (Some (folder d)) meaning node is = node.stands

-- and it blocks
mix_blocks : (o : Option TreeNode) (meaning : Meaning) → mix_of o ≡ Some meaning → blocks o ≡ true
mix_blocks None meaning is = absurd (no_some meaning is)
mix_blocks (Some unknown_file) meaning is = refl
mix_blocks (Some (file_mailbox driver other)) meaning is = refl
mix_blocks (Some (folder d)) meaning is = ap (λ mix. not (is_none mix && is_none d.mh)) is

no_meaning : (m : Meaning) → Some m ≡ None → ⊥
no_meaning m h = cc

module _ (formats : Formats) (root m : List ℕ) (is_m : is_path m ≡ true) (a : Disk) (tree : Tree) (has : HasTree formats root (seen a) tree) (free : is_blocked tree.nodes m ≡ false) (no_mix : mix_of (get tree.nodes m) ≡ None)
    (files made : List ℕ → Type 0) (to : (q : List ℕ) → files q → (q ≡ child root m) ⊎ (q ≡ temporary_of (child root m))) (through : (q : List ℕ) → made q → IsMadeAbove root m a q) where
  -- the directory above the name doesn't block
  above_free : (q name : List ℕ) → HasNoSlash name → child (child root q) name ≡ temporary_of (child root m) → blocks (get tree.nodes q) ≡ false
  above_free q name plain same =
      let up : child root q ≡ parent (child root m) = sym (parent_child (child root q) name plain) ∙ ap parent same ∙ parent_new root m in
      ⊎_elim (λ at_root. absurd (child_apart root q (sym (up ∙ at_root))))
      (λ (w : IsAbove root m (parent (child root m))). ap (λ front. blocks (get tree.nodes front)) (one_below root q w.front (up ∙ w.is))
      ∙ any_none (λ l. blocks (get tree.nodes l)) m free w.front w.last w.whole) (placed root m).above

  made_front : (q : List ℕ) → made q → (front : List ℕ) × ((is_path front ≡ true) × ((q ≡ child root front) × (node_at (seen a) q ≡ nothing)))
  made_front q mine = let w = through q mine in (w.front, (front_path formats root (seen a) tree has m w.front w.rest is_m w.above, (w.whole, w.absent)))

  apart : (q : List ℕ) → q ≢ child root m → q ≢ temporary_of (child root m) → (made q → ⊥) → IsBut files made q
  apart q no_path no_new no_made = ((λ may. ⊎_elim no_path no_new (to q may)), no_made)

  -- a name that is no part, in the directory of a mailbox
  special_but : (p name : List ℕ) → HasNoSlash name → is_part name ≡ false → child (child root p) name ≢ temporary_of (child root m) → IsBut files made (child (child root p) name)
  special_but p name plain no_part no_new =
      apart (child (child root p) name) (special_apart root p m name is_m plain no_part) no_new
      (λ mine. let f = made_front (child (child root p) name) mine in special_apart root p f.0 name f.1.0 plain no_part f.1.1.0)

  mix_apart : (p : List ℕ) → is_path p ≡ true → (o : Option Meaning) → mix_of (get tree.nodes p) ≡ o → IsMixApart files made (child root p) o
  mix_apart p is_p None at_p = special_but p (codes ".mixmeta") meta_plain refl (kept_apart root m (child root p) (codes ".mixmeta") meta_plain refl)
  mix_apart p is_p (Some meaning) at_p = at
    where
      stands : is_directory (seen a) (child root p) ≡ true
      stands = mix_stands formats (child root p) (seen a) (is_message root (seen a) p) (get tree.nodes p) meaning (has.nodes p is_p).is at_p

      at : (q : List ℕ) → IsOwn Mix (child root p) q → IsBut files made q
      at q (inl here) = subst (IsBut files made) (sym here) (apart (child root p)
          (λ same. no_meaning meaning (sym at_p ∙ ap (λ z. mix_of (get tree.nodes z)) (one_below root p m same) ∙ no_mix)) (path_apart root m p is_p)
          (λ mine. false≢true (sym (ap directory_test (made_front (child root p) mine).1.1.1) ∙ stands)))
      at q (inr named) = subst (IsBut files made) (sym named.whole) (special_but p named.name named.plain (own_no_part named.name named.is_kind)
          (λ same. not_both (blocks (get tree.nodes p)) (mix_blocks (get tree.nodes p) meaning at_p) (above_free p named.name named.plain same)))

  pub touches_file : TouchesNone files made root tree
  touches_file = record { each = λ p is_p. mix_apart p is_p (mix_of (get tree.nodes p)) refl }

-- a file at a name is no mix mailbox
pub same_stored : (tree : Tree) (m : List ℕ) (nodes : Nodes) → mix_of (get tree.nodes m) ≡ None → ((q : List ℕ) → mix_of (get nodes q) ≡ mix_of (get tree.nodes q)) → (driver : Driver) (meaning : Meaning)
    → SameMix tree (with_nodes (insert nodes m (file_mailbox driver meaning)) tree)
same_stored tree m nodes none same driver meaning = record {
  each = λ p is_p. ⊎_elim
      (λ here. ap (λ z. mix_of (get (insert nodes m (file_mailbox driver meaning)) z)) here ∙ ap mix_of (get_put_same nodes m (file_mailbox driver meaning)) ∙ sym (ap (λ z. mix_of (get tree.nodes z)) here ∙ none))
      (λ other. ap mix_of (get_put_other nodes m (file_mailbox driver meaning) p other) ∙ same p) (cases_path p m);
}
