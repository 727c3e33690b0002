-- Which refusal a node gives to who opens it.
use Rattle.store_trait.specs.Forms.{grammar_of}
use Rattle.std.proofs.Common.{◌≡◌, inl, inr, ℕ, List, [], ◌∷◌, true, false, cond, not, ◌&&◌, nat_le, length, Option, Some, None, refl, sym, ◌∙◌, ap, subst, Ok, Err}
use Rattle.std.specs.FinMap.{get}
use Rattle.std.proofs.lemmas.Bool.{and_parts}
use Rattle.file_model.specs.Images.{Image, Node, nothing, file, directory, node_at, directory_test}
use Rattle.file_model.specs.Disk.{seen}
use Rattle.file_model.specs.Histories.{History, Now}
use Rattle.file_model.specs.Kept.{IsSound}
use Rattle.file_model.specs.Paths.{child}
use Rattle.mail_types.specs.declared.driver.Driver.{Driver}
use Rattle.mail_types.specs.declared.driver.Driver.TheVariants.{Mh, Mix}
use Rattle.store_trait.specs.declared.faults.OpenFault.{OpenFault}
use Rattle.store_trait.specs.declared.faults.OpenFault.TheVariants.{Absent as OpenAbsent, Failed as OpenFailed, Memory as OpenMemory, IllFormed, TooLarge}
use Rattle.store_trait.specs.Commits.{mark_of}
use Rattle.store_trait.specs.Laws.{IsReading}
use Rattle.store_trait.specs.Meaning.{Means, Stands}
use Rattle.any_store.specs.Choice.{Formats, has_file, mh_mark_of, directory_driver, driver_of_node, driver_at}
use Rattle.any_store.specs.Promises.{RefusesAny, IsNoMailbox, OpensAny}
use Rattle.store_trait.specs.Views.{View}
use Rattle.store_trait.proofs.OneMeaning.{one_meaning}
use Rattle.mail_tree.specs.declared.fault.TreeFault.TheVariants.{Absent, NotStore}
use Rattle.mail_tree.specs.Changes.{meaning_refusal, directory_refusal, open_refusal, due_open}
use Rattle.mail_tree.specs.Trees.{Tree, HasTree, Meaning, TreeNode, unknown_file, file_mailbox, folder, HasMeaning, IsNodeOf}
use Rattle.mail_tree.specs.Names.{is_path, begins_badly, IsName}
use Rattle.mail_tree.specs.Promises.{AnswersBy, opening_fault}
use Rattle.mail_tree.specs.Sights.{sees_at}
use Rattle.mail_tree.proofs.Below.{IsRooted, rooted_seen}
use Rattle.mail_tree.proofs.Sighted.{directory_of, sees_same, sees_free, no_message}

none_some : (driver : Driver) → None ≡ Some driver → ⊥
none_some driver h = cc

one_driver : (d e : Driver) → Some d ≡ Some e → d ≡ e
one_driver d e h = cc

false_true : false ≡ true → ⊥
false_true h = cc

module _ (formats : Formats) (grammars : (driver : Driver) → IsReading driver formats.forms) (path : List ℕ) (image : Image) where
  driver_is : (n : Node) → node_at image path ≡ n → driver_at formats.chosen image path ≡ driver_of_node formats.chosen (directory_driver image path) n
  driver_is n e = ap (driver_of_node formats.chosen (directory_driver image path)) e

  same_meaning : (d e : Driver) → d ≡ e → (a b : Meaning) → Means (grammar_of formats.forms d path) d path image a → Means (grammar_of formats.forms e path) e path image b → a ≡ b
  same_meaning d e same a b m n = one_meaning formats.forms e path (grammars e) image a b (subst (λ x. Means (grammar_of formats.forms x path) x path image a) same m) n

  -- the mailbox that is chosen means what the node says
  pub open_by : (o : Option TreeNode) → IsNodeOf formats path image false o → (driver : Driver) → driver_at formats.chosen image path ≡ Some driver → (meaning : Meaning) → Means (grammar_of formats.forms driver path) driver path image meaning
      → open_refusal o ≡ meaning_refusal meaning
  open_by None (inl none) driver is meaning means = absurd (none_some driver (sym (driver_is nothing none) ∙ is))
  open_by None (inr message) driver is meaning means = absurd (false_true message)
  open_by (Some unknown_file) node driver is meaning means = absurd (none_some driver (sym node.1.2 ∙ sym (driver_is (file node.1.0) node.1.1) ∙ is))
  open_by (Some (file_mailbox d m)) node driver is meaning means =
      ap meaning_refusal (same_meaning d driver (one_driver d driver (sym node.1.2 ∙ sym (driver_is (file node.1.0) node.1.1) ∙ is)) m meaning node.2 means)
  open_by (Some (folder d)) node driver is meaning means = at d.mix d.mh node.mix node.mh (sym (driver_is directory (directory_of (node_at image path) node.stands)) ∙ is)
    where
      at : (mix mh : Option Meaning) → HasMeaning formats Mix (mark_of path) path image mix → HasMeaning formats Mh (mh_mark_of path) path image mh
          → cond (has_file image (mark_of path)) (Some Mix) (cond (has_file image (mh_mark_of path)) (Some Mh) None) ≡ Some driver → directory_refusal mix mh ≡ meaning_refusal meaning
      at (Some m) mh one other chosen = ap meaning_refusal (same_meaning Mix driver (one_driver Mix driver (sym (ap (λ b. cond b (Some Mix) (cond (has_file image (mh_mark_of path)) (Some Mh) None)) one.0) ∙ chosen)) m meaning one.1 means)
      at None (Some m) one other chosen = ap meaning_refusal (same_meaning Mh driver (one_driver Mh driver (sym (ap (λ b. cond b (Some Mix) (cond (has_file image (mh_mark_of path)) (Some Mh) None)) one ∙ ap (λ b. cond b (Some Mh) None) other.0) ∙ chosen)) m meaning other.1 means)
      at None None one other chosen = absurd (none_some driver (sym (ap (λ b. cond b (Some Mix) (cond (has_file image (mh_mark_of path)) (Some Mh) None)) one ∙ ap (λ b. cond b (Some Mh) None) other) ∙ chosen))

  -- something stands that is no mailbox
  pub open_none : (o : Option TreeNode) → IsNodeOf formats path image false o → Stands path image → driver_at formats.chosen image path ≡ None → open_refusal o ≡ Some NotStore
  open_none None (inl none) stands is = absurd (stands none)
  open_none None (inr message) stands is = absurd (false_true message)
  open_none (Some unknown_file) node stands is = refl
  open_none (Some (file_mailbox d m)) node stands is = absurd (none_some d (sym is ∙ driver_is (file node.1.0) node.1.1 ∙ node.1.2))
  open_none (Some (folder d)) node stands is = at d.mix d.mh node.mix node.mh (sym (driver_is directory (directory_of (node_at image path) node.stands)) ∙ is)
    where
      at : (mix mh : Option Meaning) → HasMeaning formats Mix (mark_of path) path image mix → HasMeaning formats Mh (mh_mark_of path) path image mh
          → cond (has_file image (mark_of path)) (Some Mix) (cond (has_file image (mh_mark_of path)) (Some Mh) None) ≡ None → directory_refusal mix mh ≡ Some NotStore
      at (Some m) mh one other chosen = absurd (none_some Mix (sym chosen ∙ ap (λ b. cond b (Some Mix) (cond (has_file image (mh_mark_of path)) (Some Mh) None)) one.0))
      at None (Some m) one other chosen = absurd (none_some Mh (sym chosen ∙ ap (λ b. cond b (Some Mix) (cond (has_file image (mh_mark_of path)) (Some Mh) None)) one ∙ ap (λ b. cond b (Some Mh) None) other.0))
      at None None one other chosen = refl

  -- nothing stands
  pub open_nothing : (o : Option TreeNode) → IsNodeOf formats path image false o → node_at image path ≡ nothing → open_refusal o ≡ Some Absent
  open_nothing None node none = refl
  open_nothing (Some unknown_file) node none = absurd (apart node.1.0 (sym node.1.1 ∙ none))
    where
      apart : (bytes : List ℕ) → file bytes ≡ nothing → ⊥
      apart bytes h = cc
  open_nothing (Some (file_mailbox d m)) node none = absurd (apart node.1.0 (sym node.1.1 ∙ none))
    where
      apart : (bytes : List ℕ) → file bytes ≡ nothing → ⊥
      apart bytes h = cc
  open_nothing (Some (folder d)) node none = absurd (false_true (sym (ap directory_test none) ∙ node.stands))

-- ---- By the tree

module _ (formats : Formats) (grammars : (driver : Driver) → IsReading driver formats.forms) (root : List ℕ) (image : Image) (tree : Tree) (has : HasTree formats root image tree) (name : List ℕ) (is : IsName name) where
  pub path_is : is_path name ≡ true
  path_is = (and_parts (not (begins_badly name) && nat_le (length name) 255) (is_path name) is.may_be).1

  pub due_unseen : sees_at root image name ≡ false → due_open tree name ≡ Some Absent
  due_unseen unseen = ap (λ b. open_refusal (cond b (get tree.nodes name) None)) (sees_same formats root image tree has name path_is ∙ unseen)

  due_seen : sees_at root image name ≡ true → due_open tree name ≡ open_refusal (get tree.nodes name)
  due_seen seen = ap (λ b. open_refusal (cond b (get tree.nodes name) None)) (sees_same formats root image tree has name path_is ∙ seen)

  pub node_seen : IsRooted image → sees_at root image name ≡ true → IsNodeOf formats (child root name) image false (get tree.nodes name)
  node_seen rooted seen = subst (λ b. IsNodeOf formats (child root name) image b (get tree.nodes name))
      (no_message formats root image tree has rooted name path_is (sees_free tree.nodes name (sees_same formats root image tree has name path_is ∙ seen))) (has.nodes name path_is).is

  pub due_meaning : IsRooted image → sees_at root image name ≡ true → (driver : Driver) → driver_at formats.chosen image (child root name) ≡ Some driver
      → (meaning : Meaning) → Means (grammar_of formats.forms driver (child root name)) driver (child root name) image meaning → due_open tree name ≡ meaning_refusal meaning
  due_meaning rooted seen driver chosen meaning means = due_seen seen ∙ open_by formats grammars (child root name) image (get tree.nodes name) (node_seen rooted seen) driver chosen meaning means

  pub due_none : IsRooted image → sees_at root image name ≡ true → Stands (child root name) image → driver_at formats.chosen image (child root name) ≡ None → due_open tree name ≡ Some NotStore
  due_none rooted seen stands none = due_seen seen ∙ open_none formats grammars (child root name) image (get tree.nodes name) (node_seen rooted seen) stands none

  pub due_nothing : IsRooted image → sees_at root image name ≡ true → node_at image (child root name) ≡ nothing → due_open tree name ≡ Some Absent
  due_nothing rooted seen none = due_seen seen ∙ open_nothing formats grammars (child root name) image (get tree.nodes name) (node_seen rooted seen) none

-- every refusal to open is the one that is due
pub refuses_due : (formats : Formats) → ((driver : Driver) → IsReading driver formats.forms) → (root name : List ℕ) → IsName name → (T : Type 0) → (fault : OpenFault) (old : History)
    → Now old (λ w. (sees_at root (seen w.disk) name ≡ true) × IsSound w.disk) → RefusesAny formats (child root name) fault old → AnswersBy {T = T} formats root (λ tree. due_open tree name) (Err (opening_fault fault)) old
refuses_due formats grammars root name is T OpenFailed [] now refuses = tt
refuses_due formats grammars root name is T OpenFailed (w ∷ past) now refuses = λ tree has. inr refl
refuses_due formats grammars root name is T OpenMemory [] now refuses = tt
refuses_due formats grammars root name is T OpenMemory (w ∷ past) now refuses = λ tree has. inr refl
refuses_due formats grammars root name is T OpenAbsent [] now refuses = tt
refuses_due formats grammars root name is T OpenAbsent (w ∷ past) now refuses = λ tree has. inl (due_nothing formats grammars root (seen w.disk) tree has name is (rooted_seen w.disk now.1) now.0 refuses)
refuses_due formats grammars root name is T (IllFormed d n) [] now refuses = tt
refuses_due formats grammars root name is T (IllFormed d n) (w ∷ past) now refuses = λ tree has. inl (due_meaning formats grammars root (seen w.disk) tree has name is (rooted_seen w.disk now.1) now.0 refuses.0 refuses.1 (Err (IllFormed d n)) refuses.2)
refuses_due formats grammars root name is T (TooLarge l) [] now refuses = tt
refuses_due formats grammars root name is T (TooLarge l) (w ∷ past) now refuses = λ tree has. inl (due_meaning formats grammars root (seen w.disk) tree has name is (rooted_seen w.disk now.1) now.0 refuses.0 refuses.1 (Err (TooLarge l)) refuses.2)

module _ (formats : Formats) (grammars : (driver : Driver) → IsReading driver formats.forms) (root name : List ℕ) (is : IsName name) where
  pub unseen_due : (T : Type 0) → (old : History) → Now old (λ w. sees_at root (seen w.disk) name ≡ false) → AnswersBy {T = T} formats root (λ tree. due_open tree name) (Err Absent) old
  unseen_due T [] now = tt
  unseen_due T (w ∷ past) now = λ tree has. inl (due_unseen formats grammars root (seen w.disk) tree has name is now)

  pub none_due : (T : Type 0) → (old : History) → Now old (λ w. (sees_at root (seen w.disk) name ≡ true) × IsSound w.disk) → IsNoMailbox formats (child root name) old → AnswersBy {T = T} formats root (λ tree. due_open tree name) (Err NotStore) old
  none_due T [] now none = tt
  none_due T (w ∷ past) now none = λ tree has. inl (due_none formats grammars root (seen w.disk) tree has name is (rooted_seen w.disk now.1) now.0 none.0 none.1)

  pub opens_due : {T : Type 0} → (store : T) (view : View) (fresh : ℕ) (old : History) → Now old (λ w. (sees_at root (seen w.disk) name ≡ true) × IsSound w.disk) → OpensAny formats (child root name) view fresh old
      → AnswersBy formats root (λ tree. due_open tree name) (Ok store) old
  opens_due store view fresh [] now opens = tt
  opens_due store view fresh (w ∷ past) now opens = λ tree has. due_meaning formats grammars root (seen w.disk) tree has name is (rooted_seen w.disk now.1) now.0 view.driver opens.chosen (Ok opens.opens.0) opens.opens.1
