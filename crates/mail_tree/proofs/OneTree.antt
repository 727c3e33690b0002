-- An image has one tree at most.
use Rattle.store_trait.specs.Forms.{grammar_of}
use Rattle.std.proofs.Common.{◌≡◌, ◌⊎◌, inl, inr, ⊎_elim, ℕ, List, Bool, true, false, Option, Some, None, refl, sym, ◌∙◌, ap, subst}
use Rattle.std.specs.Prelude.{IsTrue, ◌↔◌}
use Rattle.std.specs.FinMap.{get, same_map, slice_cmp-IsAntisymmetric, nat_cmp-IsAntisymmetric}
use Rattle.std.proofs.lemmas.Cmp.{nat_list_cmp_total}
use Rattle.std.proofs.lemmas.Bool.{cases_Bool}
use Rattle.file_model.specs.Images.{Image, nothing, file, directory, node_at}
use Rattle.file_model.specs.Paths.{child}
use Rattle.mail_types.specs.declared.driver.Driver.{Driver}
use Rattle.mail_types.specs.declared.driver.Driver.TheVariants.{Mh, Mix}
use Rattle.store_trait.specs.Commits.{mark_of}
use Rattle.store_trait.specs.Laws.{IsReading}
use Rattle.store_trait.specs.Meaning.{Means}
use Rattle.any_store.specs.Choice.{Formats, has_file, mh_mark_of}
use Rattle.store_trait.proofs.OneMeaning.{one_meaning}
use Rattle.mail_tree.specs.Names.{is_path}
use Rattle.mail_tree.specs.Trees.{Meaning, Directory, TreeNode, unknown_file, file_mailbox, folder, Tree, HasOther, HasLeftover, HasMeaning, IsFolder, IsNodeOf, HasTree, is_message}
use Rattle.mail_tree.proofs.Sighted.{directory_of, message_file}
use Rattle.file_model.proofs.Inside.{not_both}

module _ (formats : Formats) (grammars : (driver : Driver) → IsReading driver formats.forms) (image : Image) where
  one_marked : (driver : Driver) (mark path : List ℕ) (a b : Option Meaning) → HasMeaning formats driver mark path image a → HasMeaning formats driver mark path image b → a ≡ b
  one_marked driver mark path None None m n = refl
  one_marked driver mark path None (Some b) m n = absurd (not_both (has_file image mark) n.0 m)
  one_marked driver mark path (Some a) None m n = absurd (not_both (has_file image mark) m.0 n)
  one_marked driver mark path (Some a) (Some b) m n = ap Some (one_meaning formats.forms driver path (grammars driver) image a b m.1 n.1)

  one_test : (a b : Bool) (P : Type 0) → (IsTrue a ↔ P) → (IsTrue b ↔ P) → a ≡ b
  one_test true true P m n = refl
  one_test false false P m n = refl
  one_test true false P m n = absurd (no (n.1 (m.0 yes_is)))
    where
      yes_is : IsTrue true
      yes_is = refl

      no : IsTrue false → ⊥
      no h = cc
  one_test false true P m n = absurd (no (m.1 (n.0 yes_is)))
    where
      yes_is : IsTrue true
      yes_is = refl

      no : IsTrue false → ⊥
      no h = cc

  one_folder : (path : List ℕ) (c d : Directory) → IsFolder formats path image c → IsFolder formats path image d → c ≡ d
  one_folder path c d m n = λ i. record {
    mix = one_marked Mix (mark_of path) path c.mix d.mix m.mix n.mix i;
    mh = one_marked Mh (mh_mark_of path) path c.mh d.mh m.mh n.mh i;
    other = one_test c.other d.other (HasOther path image) m.other n.other i;
    leftover = one_test c.leftover d.leftover (HasLeftover path image) m.leftover n.leftover i;
  }

  one_file : (a b : List ℕ) → file a ≡ file b → a ≡ b
  one_file a b e = cc

  one_driver : (d e : Driver) → Some d ≡ Some e → d ≡ e
  one_driver d e h = cc

  none_some : (d : Driver) → None ≡ Some d → ⊥
  none_some d h = cc

  bytes_apart : (bytes : List ℕ) → file bytes ≡ nothing → ⊥
  bytes_apart bytes h = cc

  file_apart : (bytes : List ℕ) → file bytes ≡ directory → ⊥
  file_apart bytes h = cc

  directory_apart : directory ≡ nothing → ⊥
  directory_apart h = cc

  false_true : false ≡ true → ⊥
  false_true h = cc

  -- a node that stands is no message and not nothing
  never_none : (path : List ℕ) (message : Bool) → (message ≡ true → (bytes : List ℕ) × (node_at image path ≡ file bytes)) → (n : TreeNode) → IsNodeOf formats path image message (Some n) → ((node_at image path ≡ nothing) ⊎ (message ≡ true)) → ⊥
  never_none path message shown unknown_file m (inl none) = bytes_apart m.1.0 (sym m.1.1 ∙ none)
  never_none path message shown unknown_file m (inr is) = not_both message is m.0
  never_none path message shown (file_mailbox d a) m (inl none) = bytes_apart m.1.0 (sym m.1.1 ∙ none)
  never_none path message shown (file_mailbox d a) m (inr is) = not_both message is m.0
  never_none path message shown (folder c) m (inl none) = directory_apart (sym (directory_of (node_at image path) m.stands) ∙ none)
  never_none path message shown (folder c) m (inr is) = let f = shown is in file_apart f.0 (sym f.1 ∙ directory_of (node_at image path) m.stands)

  one_node : (path : List ℕ) (message : Bool) → (message ≡ true → (bytes : List ℕ) × (node_at image path ≡ file bytes)) → (a b : Option TreeNode) → IsNodeOf formats path image message a → IsNodeOf formats path image message b → a ≡ b
  one_node path message shown None None m n = refl
  one_node path message shown None (Some b) m n = absurd (never_none path message shown b n m)
  one_node path message shown (Some a) None m n = absurd (never_none path message shown a m n)
  one_node path message shown (Some unknown_file) (Some unknown_file) m n = refl
  one_node path message shown (Some unknown_file) (Some (file_mailbox d b)) m n = absurd (none_some d (sym m.1.2 ∙ ap formats.chosen (one_file m.1.0 n.1.0 (sym m.1.1 ∙ n.1.1)) ∙ n.1.2))
  one_node path message shown (Some unknown_file) (Some (folder d)) m n = absurd (file_apart m.1.0 (sym m.1.1 ∙ directory_of (node_at image path) n.stands))
  one_node path message shown (Some (file_mailbox d a)) (Some unknown_file) m n = absurd (none_some d (sym n.1.2 ∙ ap formats.chosen (one_file n.1.0 m.1.0 (sym n.1.1 ∙ m.1.1)) ∙ m.1.2))
  one_node path message shown (Some (file_mailbox d a)) (Some (file_mailbox e b)) m n = both (one_driver d e (sym m.1.2 ∙ ap formats.chosen (one_file m.1.0 n.1.0 (sym m.1.1 ∙ n.1.1)) ∙ n.1.2))
    where
      both : d ≡ e → Some (file_mailbox d a) ≡ Some (file_mailbox e b)
      both same = λ i. Some (file_mailbox (same i) (one_meaning formats.forms e path (grammars e) image a b (subst (λ x. Means (grammar_of formats.forms x path) x path image a) same m.2) n.2 i))
  one_node path message shown (Some (file_mailbox d a)) (Some (folder c)) m n = absurd (file_apart m.1.0 (sym m.1.1 ∙ directory_of (node_at image path) n.stands))
  one_node path message shown (Some (folder c)) (Some unknown_file) m n = absurd (file_apart n.1.0 (sym n.1.1 ∙ directory_of (node_at image path) m.stands))
  one_node path message shown (Some (folder c)) (Some (file_mailbox d b)) m n = absurd (file_apart n.1.0 (sym n.1.1 ∙ directory_of (node_at image path) m.stands))
  one_node path message shown (Some (folder c)) (Some (folder d)) m n = ap (λ x. Some (folder x)) (one_folder path c d m n)

  pub one_tree : (root : List ℕ) (s t : Tree) → HasTree formats root image s → HasTree formats root image t → s ≡ t
  one_tree root s t m n = λ i. record { nodes = nodes i; subscribed = (m.subscribed ∙ sym n.subscribed) i }
    where
      at : (q : List ℕ) → get s.nodes q ≡ get t.nodes q
      at q = ⊎_elim
          (λ is. one_node (child root q) (is_message root image q) (message_file root image q) (get s.nodes q) (get t.nodes q) (m.nodes q is).is (n.nodes q is).is)
          (λ fails. m.keys q fails ∙ sym (n.keys q fails))
          (cases_Bool (is_path q))

      nodes : s.nodes ≡ t.nodes
      nodes = same_map nat_list_cmp_total (slice_cmp-IsAntisymmetric nat_cmp-IsAntisymmetric) s.nodes t.nodes at
