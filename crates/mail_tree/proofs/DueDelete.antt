-- Which refusal is due to who deletes what stands at a name.
use Rattle.std.proofs.Common.{◌≡◌, ◌⊎◌, inl, inr, ⊎_elim, ℕ, List, [], ◌∷◌, Bool, true, false, cond, Option, Some, None, refl, sym, ◌∙◌, ap}
use Rattle.std.specs.Prelude.{is_some}
use Rattle.std.specs.FinMap.{get}
use Rattle.std.proofs.lemmas.Bool.{false≢true}
use Rattle.file_model.specs.Disk.{seen}
use Rattle.file_model.specs.Histories.{History, Now}
use Rattle.file_model.specs.Images.{Image, Node, nothing, file, directory, node_at, is_directory, directory_test}
use Rattle.file_model.specs.Kept.{IsSound}
use Rattle.file_model.specs.Paths.{child}
use Rattle.mail_types.specs.declared.driver.Driver.{Driver}
use Rattle.mail_types.specs.declared.driver.Driver.TheVariants.{Mh, Mix}
use Rattle.store_trait.specs.Commits.{mark_of}
use Rattle.store_trait.specs.Forms.{Forms}
use Rattle.store_trait.specs.Laws.{IsReading}
use Rattle.store_trait.specs.Meaning.{Stands}
use Rattle.any_store.specs.Choice.{formats_of, chosen, driver_at, driver_of_node, directory_driver, has_file, mh_mark_of}
use Rattle.any_store.specs.Stores.{is_known}
use Rattle.mail_tree.specs.declared.fault.TreeFault.{TreeFault}
use Rattle.mail_tree.specs.declared.fault.TreeFault.TheVariants.{BadName, There, Absent, NotStore, HasChildren, Reserved, Selected, Open, Store, Failed, Memory}
use Rattle.mail_tree.specs.Changes.{breaks_tree, delete_refusal}
use Rattle.mail_tree.specs.Deleting.{RefusesDoomed}
use Rattle.mail_tree.specs.Names.{IsName}
use Rattle.mail_tree.specs.Promises.{RefusesBy}
use Rattle.mail_tree.specs.Sights.{sees_at}
use Rattle.mail_tree.specs.Trees.{Meaning, TreeNode, unknown_file, file_mailbox, folder, Nodes, Tree, HasMeaning, HasTree, IsNodeOf, seen_node}
use Rattle.mail_tree.proofs.Below.{rooted_seen}
use Rattle.mail_tree.proofs.Creating.{name_path}
use Rattle.mail_tree.proofs.Refusals.{node_seen}
use Rattle.mail_tree.proofs.Sighted.{directory_of, sees_same}

none_some : (driver : Driver) → None ≡ Some driver → ⊥
none_some driver h = cc

one_driver : (d e : Driver) → Some d ≡ Some e → d ≡ e
one_driver d e h = cc

file_apart : (bytes : List ℕ) → file bytes ≡ nothing → ⊥
file_apart bytes h = cc

-- a mailbox is deleted where its driver stands
abbrev pub by_driver : Driver → Option TreeFault
by_driver driver = cond (is_known driver) None (Some NotStore)

module _ (forms : Forms) (path : List ℕ) (image : Image) (nodes : Nodes) (name : List ℕ) where
  driver_is : (n : Node) → node_at image path ≡ n → driver_at chosen image path ≡ driver_of_node chosen (directory_driver image path) n
  driver_is n e = ap (driver_of_node chosen (directory_driver image path)) e

  -- of a directory with these mailboxes
  abbrev by_marks : (mix mh : Option Meaning) → Option TreeFault → Option TreeFault
  by_marks mix mh other = cond (is_some mix) (by_driver Mix) (cond (is_some mh) (by_driver Mh) other)

  abbrev marked : Bool → Bool → Option Driver
  marked a b = cond a (Some Mix) (cond b (Some Mh) None)

  folder_by : (mix mh : Option Meaning) (other : Option TreeFault) → HasMeaning (formats_of forms chosen) Mix (mark_of path) path image mix → HasMeaning (formats_of forms chosen) Mh (mh_mark_of path) path image mh
      → (driver : Driver) → marked (has_file image (mark_of path)) (has_file image (mh_mark_of path)) ≡ Some driver → by_marks mix mh other ≡ by_driver driver
  folder_by (Some m) mh other one two driver is = ap by_driver (one_driver Mix driver (sym (ap (λ a. marked a (has_file image (mh_mark_of path))) one.0) ∙ is))
  folder_by None (Some m) other one two driver is = ap by_driver (one_driver Mh driver (sym (ap (λ a. marked a (has_file image (mh_mark_of path))) one ∙ ap (λ b. marked false b) two.0) ∙ is))
  folder_by None None other one two driver is = absurd (none_some driver (sym (ap (λ a. marked a (has_file image (mh_mark_of path))) one ∙ ap (λ b. marked false b) two) ∙ is))

  pub refusal_by : (o : Option TreeNode) → IsNodeOf (formats_of forms chosen) path image false o → (driver : Driver) → driver_at chosen image path ≡ Some driver → delete_refusal nodes name o ≡ by_driver driver
  refusal_by None (inl none) driver is = absurd (none_some driver (sym (driver_is nothing none) ∙ is))
  refusal_by None (inr message) driver is = absurd (false≢true message)
  refusal_by (Some unknown_file) node driver is = absurd (none_some driver (sym node.1.2 ∙ sym (driver_is (file node.1.0) node.1.1) ∙ is))
  refusal_by (Some (file_mailbox d m)) node driver is = ap by_driver (one_driver d driver (sym node.1.2 ∙ sym (driver_is (file node.1.0) node.1.1) ∙ is))
  refusal_by (Some (folder d)) node driver is = folder_by d.mix d.mh _ node.mix node.mh driver (sym (driver_is directory (directory_of (node_at image path) node.stands)) ∙ is)

  pub refusal_nothing : (o : Option TreeNode) → IsNodeOf (formats_of forms chosen) path image false o → node_at image path ≡ nothing → delete_refusal nodes name o ≡ Some Absent
  refusal_nothing None node none = refl
  refusal_nothing (Some unknown_file) node none = absurd (file_apart node.1.0 (sym node.1.1 ∙ none))
  refusal_nothing (Some (file_mailbox d m)) node none = absurd (file_apart node.1.0 (sym node.1.1 ∙ none))
  refusal_nothing (Some (folder d)) node none = absurd (false≢true (sym (ap directory_test none) ∙ node.stands))

  pub refusal_unknown : (o : Option TreeNode) → IsNodeOf (formats_of forms chosen) path image false o → Stands path image → is_directory image path ≡ false → driver_at chosen image path ≡ None → delete_refusal nodes name o ≡ Some NotStore
  refusal_unknown None (inl none) stands no_dir is = absurd (stands none)
  refusal_unknown None (inr message) stands no_dir is = absurd (false≢true message)
  refusal_unknown (Some unknown_file) node stands no_dir is = refl
  refusal_unknown (Some (file_mailbox d m)) node stands no_dir is = absurd (none_some d (sym is ∙ driver_is (file node.1.0) node.1.1 ∙ node.1.2))
  refusal_unknown (Some (folder d)) node stands no_dir is = absurd (false≢true (sym no_dir ∙ node.stands))

  pub refusal_is : (o : Option TreeNode) → IsNodeOf (formats_of forms chosen) path image false o → (fault : TreeFault) → RefusesDoomed fault path image → (delete_refusal nodes name o ≡ Some fault) ⊎ (breaks_tree fault ≡ true)
  refusal_is o node Absent none = inl (refusal_nothing o node none)
  refusal_is o node NotStore refuses = inl (⊎_elim
      (λ unknown. refusal_by o node unknown.0 unknown.1 ∙ ap (λ b. cond b None (Some NotStore)) unknown.2)
      (λ none. refusal_unknown o node none.0 none.1 none.2) refuses)
  refusal_is o node Failed refuses = inr refl
  refusal_is o node Memory refuses = inr refl
  refusal_is o node BadName refuses = absurd refuses
  refusal_is o node There refuses = absurd refuses
  refusal_is o node HasChildren refuses = absurd refuses
  refusal_is o node Reserved refuses = absurd refuses
  refusal_is o node Selected refuses = absurd refuses
  refusal_is o node (Open fault) refuses = absurd refuses
  refusal_is o node (Store fault) refuses = absurd refuses

-- ---- By the tree

module _ (forms : Forms) (reads : (driver : Driver) → IsReading driver forms) (root name : List ℕ) (is : IsName name) (image : Image) (tree : Tree) (has : HasTree (formats_of forms chosen) root image tree) where
  pub seen_is : sees_at root image name ≡ true → seen_node tree.nodes name ≡ get tree.nodes name
  seen_is seen = ap (λ b. cond b (get tree.nodes name) None) (sees_same (formats_of forms chosen) root image tree has name (name_path name is) ∙ seen)

  pub seen_none : sees_at root image name ≡ false → seen_node tree.nodes name ≡ None
  seen_none unseen = ap (λ b. cond b (get tree.nodes name) None) (sees_same (formats_of forms chosen) root image tree has name (name_path name is) ∙ unseen)

-- what isn't seen isn't there
pub unseen_refused : (forms : Forms) → ((driver : Driver) → IsReading driver forms) → (root name : List ℕ) → IsName name → (due : Tree → Option TreeFault) → ((tree : Tree) → due tree ≡ delete_refusal tree.nodes name (seen_node tree.nodes name))
    → (old : History) → Now old (λ w. sees_at root (seen w.disk) name ≡ false) → RefusesBy (formats_of forms chosen) root due Absent old
unseen_refused forms reads root name is due is_due [] now = tt
unseen_refused forms reads root name is due is_due (w ∷ past) now = λ tree has.
    inl (is_due tree ∙ ap (delete_refusal tree.nodes name) (seen_none forms reads root name is (seen w.disk) tree has now))

-- every refusal of what stands there is the one that is due
pub doomed_refused : (forms : Forms) → ((driver : Driver) → IsReading driver forms) → (root name : List ℕ) → IsName name → (due : Tree → Option TreeFault) → ((tree : Tree) → due tree ≡ delete_refusal tree.nodes name (seen_node tree.nodes name))
    → (fault : TreeFault) (old : History) → Now old (λ w. sees_at root (seen w.disk) name ≡ true) → Now old (λ w. IsSound w.disk) → Now old (λ w. RefusesDoomed fault (child root name) (seen w.disk))
    → RefusesBy (formats_of forms chosen) root due fault old
doomed_refused forms reads root name is due is_due fault [] seen_now sound refuses = tt
doomed_refused forms reads root name is due is_due fault (w ∷ past) seen_now sound refuses = λ tree has.
    ⊎_elim (λ same. inl (is_due tree ∙ ap (delete_refusal tree.nodes name) (seen_is forms reads root name is (seen w.disk) tree has seen_now) ∙ same)) (λ breaks. inr breaks)
    (refusal_is forms (child root name) (seen w.disk) tree.nodes name (get tree.nodes name) (node_seen (formats_of forms chosen) reads root (seen w.disk) tree has name is (rooted_seen w.disk sound) seen_now) fault refuses)
