-- The removal of a mailbox of one file, as its driver tells it, and what it makes of the tree.
use Rattle.std.proofs.Common.{◌≡◌, ◌≢◌, ◌⊎◌, inl, inr, ⊎_elim, ℕ, List, true, false, cond, Option, Some, None, Result, Ok, Err, OnOk, refl, sym, ◌∙◌, ap, subst}
use Rattle.std.specs.Prelude.{codes, is_none}
use Rattle.std.specs.FinMap.{get, remove, get-remove}
use Rattle.std.proofs.lemmas.Bool.{false≢true, and_parts}
use Rattle.std.proofs.lemmas.Cmp.{nat_list_cmp_total}
use Rattle.file_model.specs.Disk.{Disk, seen}
use Rattle.file_model.specs.Histories.{History, Now}
use Rattle.file_model.specs.Images.{Image, nothing, file, node_at, directory_test}
use Rattle.file_model.specs.Kept.{NonePending, IsSound}
use Rattle.file_model.specs.Paths.{child, temporary_of}
use Rattle.file_model.proofs.Names.{cases_path, same_path, other_path}
use Rattle.mail_types.specs.declared.driver.Driver.{Driver}
use Rattle.mail_types.specs.declared.driver.Driver.TheVariants.{Unix, Mmdf, Mbx, Mtx, Tenex, Mh, Mix}
use Rattle.store_trait.specs.Meaning.{IsRemoved}
use Rattle.store_trait.specs.OwnPaths.{is_directory_driver, MayRemove, IsHomeOf, IsOwn}
use Rattle.store_trait.specs.Touching.{AgreesBut, SeesBut}
use Rattle.any_store.specs.Choice.{Formats}
use Rattle.store_trait.specs.Commits.{mark_of}
use Rattle.store_trait.proofs.Touched.{IsBut}
use Rattle.mail_tree.specs.declared.fault.TreeFault.{TreeFault}
use Rattle.mail_tree.specs.Agreement.{mix_of}
use Rattle.mail_tree.specs.Changes.{with_nodes, deleted_nodes, deleted_tree}
use Rattle.mail_tree.specs.Names.{is_path, IsName}
use Rattle.mail_tree.specs.Promises.{IsDeletable, LeavesBut, CommitsTree}
use Rattle.mail_tree.specs.Sights.{sees_at}
use Rattle.mail_tree.specs.Trees.{Meaning, TreeNode, unknown_file, file_mailbox, folder, Nodes, Tree, is_plain, sees, IsNodeOf, HasTree}
use Rattle.mail_tree.proofs.Below.{one_below, special_apart, rooted_seen}
use Rattle.mail_tree.proofs.Beside.{IsMixApart, TouchesNone, SameMix, commits_beside}
use Rattle.mail_tree.proofs.ChangedFile.{ChangesFile, tree_removed, above_plain, kept_apart, path_apart}
use Rattle.mail_tree.proofs.Creating.{name_path}
use Rattle.mail_tree.proofs.MadeDir.{own_no_part}
use Rattle.mail_tree.proofs.Nodes.{AreFormats, meta_plain}
use Rattle.mail_tree.proofs.Refusals.{node_seen}
use Rattle.mail_tree.proofs.Sighted.{sees_same}

-- the paths that a driver of one file may touch
may_touch : (driver : Driver) (path q : List ℕ) → is_directory_driver driver ≡ false → MayRemove driver path q → (q ≡ path) ⊎ (q ≡ temporary_of path)
may_touch Unix path q one may = may
may_touch Mmdf path q one may = may
may_touch Mbx path q one may = may
may_touch Mtx path q one may = may
may_touch Tenex path q one may = may
may_touch Mh path q one may = absurd (false≢true (sym one))
may_touch Mix path q one may = absurd (false≢true (sym one))

pub may_delete : (driver : Driver) (path q : List ℕ) → is_directory_driver driver ≡ false → MayRemove driver path q → IsDeletable path q
may_delete driver path q one may = ⊎_elim (λ here. inl here) (λ beside. inr (inl beside)) (may_touch driver path q one may)

no_home : (driver : Driver) (path q : List ℕ) → is_directory_driver driver ≡ false → IsHomeOf driver path q → ⊥
no_home driver path q one home = false≢true (sym one ∙ home.0)

-- what reads see of it
pub changes_file : (driver : Driver) (path : List ℕ) (a b : Disk) → is_directory_driver driver ≡ false → SeesBut (MayRemove driver path) (IsHomeOf driver path) a b → ChangesFile path (seen a) (seen b)
changes_file driver path a b one sees = record {
  rest = λ q no_path no_new. at q no_path no_new (sees.each q);
  beside = new (sees.each (temporary_of path));
}
  where
    at : (q : List ℕ) → q ≢ path → q ≢ temporary_of path → AgreesBut (MayRemove driver path) (IsHomeOf driver path) q (seen b) (seen a) → node_at (seen b) q ≡ node_at (seen a) q
    at q no_path no_new (inl same) = same
    at q no_path no_new (inr (inl may)) = absurd (⊎_elim no_path no_new (may_touch driver path q one may.0))
    at q no_path no_new (inr (inr home)) = absurd (no_home driver path q one home)

    new : AgreesBut (MayRemove driver path) (IsHomeOf driver path) (temporary_of path) (seen b) (seen a)
        → (node_at (seen b) (temporary_of path) ≡ node_at (seen a) (temporary_of path)) ⊎ ((directory_test (node_at (seen b) (temporary_of path)) ≡ false) × (directory_test (node_at (seen a) (temporary_of path)) ≡ false))
    new (inl same) = inl same
    new (inr (inl may)) = inr (may.1, may.2)
    new (inr (inr home)) = absurd (no_home driver path (temporary_of path) one home)

pub nothing_left : (driver : Driver) (path : List ℕ) (image : Image) → is_directory_driver driver ≡ false → IsRemoved driver path image → node_at image path ≡ nothing
nothing_left driver path image one removed = removed.gone (inl one)

-- ---- The tree

-- a mailbox of one file, which a name sees, whose driver is chosen by its bytes
pub record IsFileMailbox (formats : Formats) (root name : List ℕ) (driver : Driver) (disk : Disk) : Type 0 where
  pub sound : IsSound disk
  pub sees : sees_at root (seen disk) name ≡ true
  pub bytes : List ℕ
  pub here : node_at (seen disk) (child root name) ≡ file bytes
  pub chosen : formats.chosen bytes ≡ Some driver

no_nothing : (bytes : List ℕ) → file bytes ≡ nothing → ⊥
no_nothing bytes h = cc

one_file : (a b : List ℕ) → file a ≡ file b → a ≡ b
one_file a b e = cc

none_some : (d : Driver) → None ≡ Some d → ⊥
none_some d h = cc

-- its node is that of a file
goes : (formats : Formats) (path : List ℕ) (image : Image) (bytes : List ℕ) (driver : Driver) → node_at image path ≡ file bytes → formats.chosen bytes ≡ Some driver
    → (nodes : Nodes) (name : List ℕ) (o : Option TreeNode) → IsNodeOf formats path image false o → (deleted_nodes nodes name o ≡ remove nodes name) × (mix_of o ≡ None)
goes formats path image bytes driver here chosen nodes name None node = absurd (⊎_elim (λ none. no_nothing bytes (sym here ∙ none)) (λ message. false≢true message) node)
goes formats path image bytes driver here chosen nodes name (Some unknown_file) node = absurd (none_some driver (sym node.1.2 ∙ ap formats.chosen (one_file node.1.0 bytes (sym node.1.1 ∙ here)) ∙ chosen))
goes formats path image bytes driver here chosen nodes name (Some (file_mailbox d m)) node = (refl, refl)
goes formats path image bytes driver here chosen nodes name (Some (folder d)) node = absurd (false≢true (sym (ap directory_test here) ∙ node.stands))

plain_no_mix : (o : Option TreeNode) → is_plain o ≡ true → mix_of o ≡ None
plain_no_mix None plain = refl
plain_no_mix (Some unknown_file) plain = refl
plain_no_mix (Some (file_mailbox d m)) plain = refl
plain_no_mix (Some (folder d)) plain = none_is d.mix (and_parts (is_none d.mix) (is_none d.mh) plain).0
  where
    none_is : (o : Option Meaning) → is_none o ≡ true → o ≡ None
    none_is None is = refl
    none_is (Some m) is = absurd (false≢true is)

no_meaning : (m : Meaning) → Some m ≡ None → ⊥
no_meaning m h = cc

module _ (formats : Formats) (laws : AreFormats formats) (root name : List ℕ) (is : IsName name) (driver : Driver) (one : is_directory_driver driver ≡ false) where
  abbrev place : List ℕ
  place = child root name

  module _ (tree : Tree) (a : Disk) (known : IsFileMailbox formats root name driver a) (has : HasTree formats root (seen a) tree) where
    is_m : is_path name ≡ true
    is_m = name_path name is

    seen_tree : sees tree.nodes name ≡ true
    seen_tree = sees_same formats root (seen a) tree has name is_m ∙ known.sees

    node : (deleted_nodes tree.nodes name (get tree.nodes name) ≡ remove tree.nodes name) × (mix_of (get tree.nodes name) ≡ None)
    node = goes formats place (seen a) known.bytes driver known.here known.chosen tree.nodes name (get tree.nodes name)
        (node_seen formats laws.reads root (seen a) tree has name is (rooted_seen a known.sound) known.sees)

    -- once the file is gone reads see the tree without it
    pub file_deleted : (b : Disk) → SeesBut (MayRemove driver place) (IsHomeOf driver place) a b → IsRemoved driver place (seen b) → HasTree formats root (seen b) (deleted_tree tree name)
    file_deleted b sees removed =
        subst (λ nodes. HasTree formats root (seen b) (with_nodes nodes tree)) (sym node.0)
        (tree_removed formats laws root name is_m (seen a) (seen b) (changes_file driver place a b one sees) tree has seen_tree (nothing_left driver place (seen b) one removed))

    -- no mix mailbox rests on what the driver may touch
    apart : (q : List ℕ) → q ≢ place → q ≢ temporary_of place → IsBut (MayRemove driver place) (IsHomeOf driver place) q
    apart q no_path no_new = ((λ may. ⊎_elim no_path no_new (may_touch driver place q one may)), no_home driver place q one)

    mix_apart : (p : List ℕ) → is_path p ≡ true → (o : Option Meaning) → mix_of (get tree.nodes p) ≡ o → IsMixApart (MayRemove driver place) (IsHomeOf driver place) (child root p) o
    mix_apart p is_p None at_p = apart (mark_of (child root p)) (special_apart root p name (codes ".mixmeta") is_m meta_plain refl) (kept_apart root name (child root p) (codes ".mixmeta") meta_plain refl)
    mix_apart p is_p (Some meaning) at_p = at
      where
        at : (q : List ℕ) → IsOwn Mix (child root p) q → IsBut (MayRemove driver place) (IsHomeOf driver place) q
        at q (inl here) = subst (IsBut (MayRemove driver place) (IsHomeOf driver place)) (sym here) (apart (child root p)
            (λ same. no_meaning meaning (sym at_p ∙ ap (λ z. mix_of (get tree.nodes z)) (one_below root p name same) ∙ node.1)) (path_apart root name p is_p))
        at q (inr named) = subst (IsBut (MayRemove driver place) (IsHomeOf driver place)) (sym named.whole) (apart (child (child root p) named.name)
            (special_apart root p name named.name is_m named.plain (own_no_part named.name named.is_kind))
            (λ same. no_meaning meaning (sym at_p ∙ plain_no_mix (get tree.nodes p) (above_plain root name tree.nodes seen_tree p named.name named.plain same))))

    touches_none : TouchesNone (MayRemove driver place) (IsHomeOf driver place) root tree
    touches_none = record { each = λ p is_p. mix_apart p is_p (mix_of (get tree.nodes p)) refl }

    same_mix : SameMix tree (deleted_tree tree name)
    same_mix = record { each = λ p is_p. ap (λ nodes. mix_of (get nodes p)) node.0 ∙ at p (cases_path p name) }
      where
        at : (p : List ℕ) → (p ≡ name) ⊎ (p ≢ name) → mix_of (get (remove tree.nodes name) p) ≡ mix_of (get tree.nodes p)
        at p (inl same) = ap (λ z. mix_of (get (remove tree.nodes name) z)) same
            ∙ ap mix_of (get-remove nat_list_cmp_total tree.nodes name name ∙ ap (λ b. cond b None (get tree.nodes name)) (same_path name)) ∙ sym (ap (λ z. mix_of (get tree.nodes z)) same ∙ node.1)
        at p (inr other) = ap mix_of (get-remove nat_list_cmp_total tree.nodes name p ∙ ap (λ b. cond b None (get tree.nodes p)) (other_path name p other))

  -- the crash half
  pub file_commits : (result : Result (Unit {0}) TreeFault) (old new : History) → Now old (λ w. IsFileMailbox formats root name driver w.disk) → Now new (λ w. IsSound w.disk)
      → LeavesBut (MayRemove driver place) (λ start. IsHomeOf driver place) result old new → (Now old (λ w. NonePending w.disk) → OnOk result (Now new (λ w. NonePending w.disk)))
      → CommitsTree formats root (λ tree. deleted_tree tree name) result old new
  file_commits result old new known sound leaves pending =
      commits_beside formats laws root (λ tree. deleted_tree tree name) result (MayRemove driver place) (λ start. IsHomeOf driver place) (IsFileMailbox formats root name driver) old new known sound
      (λ tree a at_start has. touches_none tree a at_start has)
      (λ tree a at_start has. on_ok result (same_mix tree a at_start has)) leaves pending
    where
      on_ok : {T E P : Type 0} → (r : Result T E) → P → OnOk r P
      on_ok (Ok v) p = p
      on_ok (Err e) p = tt
