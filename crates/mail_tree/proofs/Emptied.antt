-- A plain directory is deleted with the leftover files in it.
use Rattle.std.proofs.Common.{◌≡◌, ◌≢◌, ◌⊎◌, inl, inr, ⊎_elim, ℕ, List, [], ◌∷◌, Bool, true, false, cond, ◌&&◌, ◌||◌, map, Option, Some, None, Result, Ok, Err, OnOk, IsErr, refl, sym, ◌∙◌, ap, subst, arith}
use Rattle.std.specs.Prelude.{Contains, IsErrOf, codes, bytes_eq, is_some, is_none, unwrap_or}
use Rattle.std.specs.List.{list_any}
use Rattle.std.specs.FinMap.{get, remove, get-remove}
use Rattle.std.proofs.lemmas.Bool.{false≢true, cases_Bool, and_parts}
use Rattle.std.proofs.lemmas.Cmp.{nat_list_cmp_total}
use Rattle.std.proofs.lemmas.List.Sorted.{list_any-IsPermutation}
use Rattle.std.proofs.lemmas.Slice.Eq.{bytes_eq-Decides}
use Rattle.file_model.specs.Disk.{Disk, seen}
use Rattle.file_model.specs.Histories.{History, Now, Ran, Ended}
use Rattle.file_model.specs.Images.{Image, nothing, node_at, bytes_of, is_directory, directory_test, names_in, Agree}
use Rattle.file_model.specs.Kept.{Keeps, KeepsDirectories, NonePending, IsSound}
use Rattle.file_model.specs.Kinds.{IsEmptyDirectory}
use Rattle.file_model.specs.Paths.{child, parent, last_part, HasNoSlash}
use Rattle.file_model.specs.Reserved.{is_leftover}
use Rattle.file_model.proofs.Names.{cases_path, same_path, other_path}
use Rattle.file_model.proofs.NamesIn.{plain_is}
use Rattle.file_model.proofs.Paths.{child_apart, parent_child, last_part_child}
use Rattle.file_model.proofs.Runs.{ran_then}
use Rattle.mail_types.specs.declared.driver.Driver.TheVariants.{Mh, Mix}
use Rattle.store_trait.specs.Commits.{mark_of}
use Rattle.store_trait.specs.Forms.{Forms}
use Rattle.store_trait.specs.Meaning.{Stands}
use Rattle.store_trait.specs.OwnPaths.{IsNamed, IsNoPath, IsOwn, is_mailbox_name}
use Rattle.store_trait.specs.Promises.{RanOnFiles}
use Rattle.store_trait.specs.Touching.{KeepsBut, SeesBut}
use Rattle.store_trait.proofs.FileCalls.{keeps_files}
use Rattle.store_trait.proofs.Replacing.{ran_both}
use Rattle.store_trait.proofs.Touched.{IsBut, but_wider, sees_wider, keeps_but_none, keeps_but_then}
use Rattle.any_store.specs.Choice.{formats_of, chosen, driver_at, driver_of_node, directory_driver, has_file, mh_mark_of}
use Rattle.any_store.proofs.Lengths.{witness, none_passes}
use Rattle.mail_tree.specs.declared.deleting.Doomed.TheVariants.{Directory as DirectoryDoomed}
use Rattle.mail_tree.specs.declared.fault.TreeFault.{TreeFault}
use Rattle.mail_tree.specs.declared.fault.TreeFault.TheVariants.{HasChildren, NotStore, Failed}
use Rattle.mail_tree.specs.Agreement.{mix_of}
use Rattle.mail_tree.specs.Changes.{breaks_tree, with_nodes, delete_refusal, delete_directory_refusal, deleted_tree, deleted_nodes, left_behind, without_mailbox}
use Rattle.mail_tree.specs.Deleting.{SeesDoomed, is_left_file, holds_left_files, ArePathsIn, is_one_of, Cleared, RemovedDirectory}
use Rattle.mail_tree.specs.Names.{is_path, IsName}
use Rattle.mail_tree.specs.Promises.{BreaksTree, ChangesTree, CommitsTree, IsDeletable, LeavesBut}
use Rattle.mail_tree.specs.Subscriptions.{subscribed_in}
use Rattle.mail_tree.specs.Trees.{Meaning, Directory, TreeNode, unknown_file, file_mailbox, folder, Nodes, Tree, HasTree, IsNodeAt, IsNodeOf, is_free, is_plain, is_plain_directory, sees, seen_node, list_of}
use Rattle.mail_tree.proofs.Below.{one_below, child_below, special_apart, rooted_seen}
use Rattle.mail_tree.proofs.Beside.{IsMixApart, TouchesNone, SameMix, commits_beside}
use Rattle.mail_tree.proofs.Creating.{name_path}
use Rattle.mail_tree.proofs.DueDelete.{seen_is}
use Rattle.mail_tree.proofs.FreeDirectory.{all_has, standing, is_standing, free_same}
use Rattle.mail_tree.proofs.Joined.{ended_two, ended_gives, ended_weaker}
use Rattle.mail_tree.proofs.Made.{sees_child, list_apart, message_same}
use Rattle.mail_tree.proofs.MadeDir.{any_now, own_no_part}
use Rattle.mail_tree.proofs.Nodes.{AreFormats, IsCopied, node_copied, meta_plain, sequences_plain}
use Rattle.mail_tree.proofs.Refusals.{node_seen}
use Rattle.mail_tree.proofs.ReservedNames.{leftover_no_part}
use Rattle.mail_tree.proofs.Sighted.{folder_driver, directory_of, sees_same, file_of}

-- ---- Names in a directory

any_mapped : {X Y : Type 0} → (p : X → Bool) (f : Y → X) (ys : List Y) → list_any p (map f ys) ≡ list_any (λ y. p (f y)) ys
any_mapped p f [] = refl
any_mapped p f (y ∷ ys) = ap (λ b. p (f y) || b) (any_mapped p f ys)

one_dir : (a b x y : List ℕ) → HasNoSlash x → HasNoSlash y → child a x ≡ child b y → a ≡ b
one_dir a b x y px py same = sym (parent_child a x px) ∙ ap parent same ∙ parent_child b y py

one_name : (a b x y : List ℕ) → HasNoSlash x → HasNoSlash y → child a x ≡ child b y → x ≡ y
one_name a b x y px py same = sym (last_part_child a x px) ∙ ap last_part same ∙ last_part_child b y py

-- a name that is no leftover one is none of these files
kept_name : (place dir name : List ℕ) → HasNoSlash name → is_leftover name ≡ false → IsNamed place is_leftover (child dir name) → ⊥
kept_name place dir name plain kept named = false≢true (sym kept ∙ ap is_leftover (one_name dir place name named.name plain named.plain named.whole) ∙ named.is_kind)

-- ---- The tree without the directory

module _ (forms : Forms) (laws : AreFormats (formats_of forms chosen)) (root m : List ℕ) (is_m : is_path m ≡ true) (start end : Image) (gone : node_at end (child root m) ≡ nothing)
    (rest : (q : List ℕ) → q ≢ child root m → (IsNamed (child root m) is_leftover q → ⊥) → Agree q end start) where
  -- a path of a name is none of them
  path_kept : (q : List ℕ) → is_path q ≡ true → IsNamed (child root m) is_leftover (child root q) → ⊥
  path_kept q is_q named = special_apart root m q named.name is_q named.plain (leftover_no_part named.name named.is_kind) (sym named.whole)

  -- nor is what stands in another directory
  other_kept : (q name : List ℕ) → q ≢ m → HasNoSlash name → IsNamed (child root m) is_leftover (child (child root q) name) → ⊥
  other_kept q name apart plain named = apart (one_below root q m (one_dir (child root q) (child root m) name named.name plain named.plain named.whole))

  name_plain : (nodes : Nodes) → sees nodes m ≡ true → (q name : List ℕ) → HasNoSlash name → child (child root q) name ≡ child root m → is_plain (get nodes q) ≡ true
  name_plain nodes seen q name plain same =
      (and_parts (sees nodes q) (is_plain (get nodes q)) (sym (sees_child nodes q name plain) ∙ ap (sees nodes) (one_below root (child q name) m (sym (child_below root q name) ∙ same)) ∙ seen)).1

  copied : (nodes : Nodes) → sees nodes m ≡ true → (q : List ℕ) → is_path q ≡ true → q ≢ m → IsCopied start end (child root q) (child root q) (get nodes q)
  copied nodes seen q is_q apart = record {
    here = rest (child root q) (λ same. apart (one_below root q m same)) (path_kept q is_q);
    special = λ name plain no_part. inl (rest (child (child root q) name) (special_apart root q m name is_m plain no_part) (other_kept q name apart plain));
    inside = ⊎_elim (λ yes. inl yes)
        (λ no. inr (λ name plain. rest (child (child root q) name) (λ same. false≢true (sym no ∙ name_plain nodes seen q name plain same)) (other_kept q name apart plain)))
        (cases_Bool (is_plain (get nodes q)));
  }

  mark : (q : List ℕ) → node_at end (mh_mark_of (child root q)) ≡ node_at start (mh_mark_of (child root q))
  mark q = rest (mh_mark_of (child root q)) (special_apart root q m (codes ".mh_sequences") is_m sequences_plain refl) (kept_name (child root m) (child root q) (codes ".mh_sequences") sequences_plain refl)

  gone_get : (nodes : Nodes) → get (remove nodes m) m ≡ None
  gone_get nodes = get-remove nat_list_cmp_total nodes m m ∙ ap (λ b. cond b None (get nodes m)) (same_path m)

  other_get : (nodes : Nodes) (q : List ℕ) → q ≢ m → get (remove nodes m) q ≡ get nodes q
  other_get nodes q apart = get-remove nat_list_cmp_total nodes m q ∙ ap (λ b. cond b None (get nodes q)) (other_path m q apart)

  list_plain : HasNoSlash (codes ".mailboxlist")
  list_plain = plain_is (codes ".mailboxlist") refl

  pub tree_emptied : (tree : Tree) → HasTree (formats_of forms chosen) root start tree → sees tree.nodes m ≡ true → HasTree (formats_of forms chosen) root end (with_nodes (remove tree.nodes m) tree)
  tree_emptied tree has seen = record {
    nodes = λ q is_q. at q is_q (cases_path q m);
    keys = λ q none. other_get tree.nodes q (λ same. false≢true (sym none ∙ ap is_path same ∙ is_m)) ∙ has.keys q none;
    subscribed = has.subscribed ∙ ap (λ n. subscribed_in (unwrap_or (bytes_of n) [])) (sym (rest (list_of root) (list_apart root m is_m) (kept_name (child root m) root (codes ".mailboxlist") list_plain refl)));
  }
    where
      at : (q : List ℕ) → is_path q ≡ true → (q ≡ m) ⊎ (q ≢ m) → IsNodeAt (formats_of forms chosen) root end q (get (remove tree.nodes m) q)
      at q is_q (inl same) = subst (λ z. IsNodeAt (formats_of forms chosen) root end z (get (remove tree.nodes m) z)) (sym same)
          (subst (IsNodeAt (formats_of forms chosen) root end m) (sym (gone_get tree.nodes)) (record { is = inl gone }))
      at q is_q (inr apart) = subst (IsNodeAt (formats_of forms chosen) root end q) (sym (other_get tree.nodes q apart))
          (node_copied (formats_of forms chosen) laws root start end q q (get tree.nodes q) (copied tree.nodes seen q is_q apart)
          (message_same root start end q (rest (child root q) (λ same. apart (one_below root q m same)) (path_kept q is_q)) (mark (parent q))) (has.nodes q is_q))

-- ---- What is known at the start

-- the plain directory that a name sees, with the paths of all that stands in it, which are those of leftover files
pub record IsLeftDirectory (root name : List ℕ) (paths : List (List ℕ)) (d : Disk) : Type 0 where
  pub sound : IsSound d
  pub found : SeesDoomed root name DirectoryDoomed (seen d)
  pub left : true ≡ holds_left_files (seen d) (child root name)
  pub paths_are : ArePathsIn (child root name) paths (seen d)

pub left_directories : (root name : List ℕ) (paths : List (List ℕ)) (old : History) → Now old (λ w. IsSound w.disk) → Now old (λ w. SeesDoomed root name DirectoryDoomed (seen w.disk))
    → Now old (λ w. true ≡ holds_left_files (seen w.disk) (child root name)) → Now old (λ w. ArePathsIn (child root name) paths (seen w.disk)) → Now old (λ w. IsLeftDirectory root name paths w.disk)
left_directories root name paths [] sound found left are = tt
left_directories root name paths (w ∷ past) sound found left are = record { sound = sound; found = found; left = left; paths_are = are }

-- of a plain directory its node is a folder
pub record IsPlainNode (node : Option TreeNode) : Type 0 where
  pub d : Directory
  pub is : node ≡ Some (folder d)
  pub plain : is_plain_directory d ≡ true

pub plain_node : (forms : Forms) (path : List ℕ) (image : Image) (o : Option TreeNode) → IsNodeOf (formats_of forms chosen) path image false o → is_directory image path ≡ true → driver_at chosen image path ≡ None → IsPlainNode o
plain_node forms path image None node there none = absurd (⊎_elim (λ is. false≢true (sym (ap directory_test is) ∙ there)) (λ message. false≢true message) node)
plain_node forms path image (Some unknown_file) node there none = absurd (false≢true (sym (ap directory_test node.1.1) ∙ there))
plain_node forms path image (Some (file_mailbox driver meaning)) node there none = absurd (false≢true (sym (ap directory_test node.1.1) ∙ there))
plain_node forms path image (Some (folder d)) node there none = record {
  d = d;
  is = refl;
  plain = sym (folder_driver (formats_of forms chosen) path image d node)
      ∙ ap is_none (sym (ap (driver_of_node chosen (directory_driver image path)) (directory_of (node_at image path) there)) ∙ none);
}

-- its refusal
pub plain_refusal : (nodes : Nodes) (name : List ℕ) (d : Directory) → is_plain_directory d ≡ true → delete_directory_refusal nodes name d ≡ cond (is_free nodes name d) None (Some HasChildren)
plain_refusal nodes name d plain = at (Some NotStore) (Some NotStore) (cond (is_free nodes name d) None (Some HasChildren)) d.mix d.mh plain
  where
    at : (x y z : Option TreeFault) (mix mh : Option Meaning) → (is_none mix && is_none mh) ≡ true → cond (is_some mix) x (cond (is_some mh) y z) ≡ z
    at x y z None None e = refl
    at x y z None (Some m) e = absurd (false≢true e)
    at x y z (Some m) mh e = absurd (false≢true e)

module _ (forms : Forms) (laws : AreFormats (formats_of forms chosen)) (root name : List ℕ) (is : IsName name) where
  abbrev place : List ℕ
  place = child root name

  module _ (d : Disk) (sound : IsSound d) (found : SeesDoomed root name DirectoryDoomed (seen d)) (tree : Tree) (has : HasTree (formats_of forms chosen) root (seen d) tree) where
    node_is : IsNodeOf (formats_of forms chosen) place (seen d) false (get tree.nodes name)
    node_is = node_seen (formats_of forms chosen) laws.reads root (seen d) tree has name is (rooted_seen d sound) found.sees

    a_plain : IsPlainNode (get tree.nodes name)
    a_plain = plain_node forms place (seen d) (get tree.nodes name) node_is found.stands.0 found.stands.1

    seen_tree : sees tree.nodes name ≡ true
    seen_tree = sees_same (formats_of forms chosen) root (seen d) tree has name (name_path name is) ∙ found.sees

    -- what is due is told by what stands in it
    directory_due : delete_refusal tree.nodes name (seen_node tree.nodes name) ≡ cond (holds_left_files (seen d) place) None (Some HasChildren)
    directory_due =
        ap (delete_refusal tree.nodes name) (seen_is forms laws.reads root name is (seen d) tree has found.sees ∙ a_plain.is)
        ∙ plain_refusal tree.nodes name a_plain.d a_plain.plain
        ∙ ap (λ b. cond b None (Some HasChildren)) (free_same (formats_of forms chosen) root name (name_path name is) (seen d) (rooted_seen d sound) tree has a_plain.d
        (subst (IsNodeOf (formats_of forms chosen) place (seen d) false) a_plain.is node_is) a_plain.plain)

    no_mix : mix_of (get tree.nodes name) ≡ None
    no_mix = ap mix_of a_plain.is ∙ none_is a_plain.d.mix (and_parts (is_none a_plain.d.mix) (is_none a_plain.d.mh) a_plain.plain).0
      where
        none_is : (o : Option Meaning) → is_none o ≡ true → o ≡ None
        none_is None e = refl
        none_is (Some m) e = absurd (false≢true e)

    gone_is : deleted_tree tree name ≡ with_nodes (remove tree.nodes name) tree
    gone_is = ap (λ o. with_nodes (deleted_nodes tree.nodes name o) tree) a_plain.is ∙ ap (λ b. with_nodes (cond b (remove tree.nodes name) (left_behind tree.nodes name a_plain.d.leftover (without_mailbox a_plain.d))) tree) a_plain.plain

  -- HasChildren, where something else stands in it
  pub children_due : (old : History) → Now old (λ w. IsSound w.disk) → Now old (λ w. SeesDoomed root name DirectoryDoomed (seen w.disk)) → Now old (λ w. false ≡ holds_left_files (seen w.disk) place)
      → Now old (λ w. (tree : Tree) → HasTree (formats_of forms chosen) root (seen w.disk) tree → delete_refusal tree.nodes name (seen_node tree.nodes name) ≡ Some HasChildren)
  children_due [] sound found kept = tt
  children_due (w ∷ past) sound found kept = λ tree has. directory_due w.disk sound found tree has ∙ ap (λ b. cond b None (Some HasChildren)) (sym kept)

  module _ (paths : List (List ℕ)) where
    abbrev Known : Disk → Type 0
    Known d = IsLeftDirectory root name paths d

    pub nothing_due : (old : History) → Now old (λ w. IsLeftDirectory root name paths w.disk) → Now old (λ w. (tree : Tree) → HasTree (formats_of forms chosen) root (seen w.disk) tree → delete_refusal tree.nodes name (seen_node tree.nodes name) ≡ None)
    nothing_due [] known = tt
    nothing_due (w ∷ past) known = λ tree has. directory_due w.disk known.sound known.found tree has ∙ ap (λ b. cond b None (Some HasChildren)) (sym known.left)

    abbrev Files : List ℕ → Type 0
    Files q = is_one_of paths q ≡ true

    module _ (a : Disk) (known : IsLeftDirectory root name paths a) where
      paths_test : (q : List ℕ) → is_one_of paths q ≡ list_any (λ n. bytes_eq q (child place n)) (names_in (seen a) place)
      paths_test q = ap (list_any (bytes_eq q)) known.paths_are.whole ∙ any_mapped (bytes_eq q) (child place) known.paths_are.names
          ∙ list_any-IsPermutation (λ n. bytes_eq q (child place n)) known.paths_are.names (names_in (seen a) place) known.paths_are.all

      named_left : (q : List ℕ) → is_one_of paths q ≡ true → IsNamed place is_leftover q × (has_file (seen a) q ≡ true)
      named_left q one =
          let w = witness (λ n. bytes_eq q (child place n)) (names_in (seen a) place) (sym (paths_test q) ∙ one) in
          let same : q ≡ child place w.0 = (bytes_eq-Decides q (child place w.0)).0 w.2 in
          let both = and_parts (is_leftover w.0) (has_file (seen a) (child place w.0)) (all_has (is_left_file (seen a) place) (names_in (seen a) place) w.0 (sym known.left) w.1) in
          (record { name = w.0; whole = same; plain = (standing (seen a) place w.0 w.1).0; is_kind = both.0 }, ap (has_file (seen a)) same ∙ both.1)

      among : (n : List ℕ) → HasNoSlash n → Stands (child place n) (seen a) → is_one_of paths (child place n) ≡ true
      among n plain stands = ⊎_elim (λ yes. yes)
          (λ no. absurd (none_passes (λ x. bytes_eq (child place n) (child place x)) (names_in (seen a) place) n (sym (paths_test (child place n)) ∙ no) (is_standing (seen a) place n plain stands)
          ((bytes_eq-Decides (child place n) (child place n)).1 refl))) (cases_Bool (is_one_of paths (child place n)))

      no_directory : (q : List ℕ) → is_one_of paths q ≡ true → is_directory (seen a) q ≡ false
      no_directory q one = ap directory_test (file_of (node_at (seen a) q) (named_left q one).1).1

      not_itself : is_one_of paths place ≡ false
      not_itself = ⊎_elim (λ yes. absurd (child_apart place (named_left place yes).0.name (named_left place yes).0.whole)) (λ no. no) (cases_Bool (is_one_of paths place))

      empty_mid : (b : Disk) → Cleared paths a b → IsEmptyDirectory (seen b) place
      empty_mid b cleared = record {
        is_there = ap directory_test (cleared.rest place not_itself) ∙ known.found.stands.0;
        empty = no_names (names_in (seen b) place) (λ n has. let it = standing (seen b) place n has in
            ⊎_elim (λ one. it.1 (cleared.gone (child place n) one (no_directory (child place n) one)))
            (λ none. false≢true (sym none ∙ among n it.0 (λ nothing_there. it.1 (cleared.rest (child place n) none ∙ nothing_there)))) (cases_Bool (is_one_of paths (child place n))));
      }
        where
          no_names : (xs : List (List ℕ)) → ((n : List ℕ) → Contains xs n → ⊥) → xs ≡ []
          no_names [] none = refl
          no_names (x ∷ xs) none = absurd (none x (0, omega arith, refl))

      -- the mix mailboxes rest on nothing of it
      module _ (tree : Tree) (has : HasTree (formats_of forms chosen) root (seen a) tree) where
        apart : (q : List ℕ) → (IsNamed place is_leftover q → ⊥) → q ≢ place → IsBut Files (λ q. q ≡ place) q
        apart q no_named no_place = ((λ one. no_named (named_left q one).0), no_place)

        mix_apart : (p : List ℕ) → is_path p ≡ true → (o : Option Meaning) → mix_of (get tree.nodes p) ≡ o → IsMixApart Files (λ q. q ≡ place) (child root p) o
        mix_apart p is_p None at_p = apart (mark_of (child root p)) (kept_name place (child root p) (codes ".mixmeta") meta_plain refl) (special_apart root p name (codes ".mixmeta") (name_path name is) meta_plain refl)
        mix_apart p is_p (Some meaning) at_p = at
          where
            no_meaning : (m : Meaning) → Some m ≡ None → ⊥
            no_meaning m h = cc

            other : p ≢ name
            other same = no_meaning meaning (sym at_p ∙ ap (λ z. mix_of (get tree.nodes z)) same ∙ no_mix a known.sound known.found tree has)

            at : (q : List ℕ) → IsOwn Mix (child root p) q → IsBut Files (λ q. q ≡ place) q
            at q (inl here) = subst (IsBut Files (λ q. q ≡ place)) (sym here) (apart (child root p)
                (λ named. special_apart root name p named.name is_p named.plain (leftover_no_part named.name named.is_kind) (sym named.whole)) (λ same. other (one_below root p name same)))
            at q (inr own) = subst (IsBut Files (λ q. q ≡ place)) (sym own.whole) (apart (child (child root p) own.name)
                (λ named. other (one_below root p name (one_dir (child root p) place own.name named.name own.plain named.plain named.whole)))
                (special_apart root p name own.name (name_path name is) own.plain (own_no_part own.name own.is_kind)))

        touches_none : TouchesNone Files (λ q. q ≡ place) root tree
        touches_none = record { each = λ p is_p. mix_apart p is_p (mix_of (get tree.nodes p)) refl }

        same_mix : SameMix tree (deleted_tree tree name)
        same_mix = subst (SameMix tree) (sym (gone_is a known.sound known.found tree has)) (record {
          each = λ p is_p. ⊎_elim
              (λ here. ap (λ z. mix_of (get (remove tree.nodes name) z)) here ∙ ap mix_of (get-remove nat_list_cmp_total tree.nodes name name ∙ ap (λ b. cond b None (get tree.nodes name)) (same_path name))
              ∙ sym (ap (λ z. mix_of (get tree.nodes z)) here ∙ no_mix a known.sound known.found tree has))
              (λ away. ap mix_of (get-remove nat_list_cmp_total tree.nodes name p ∙ ap (λ b. cond b None (get tree.nodes p)) (other_path name p away))) (cases_path p name);
        })

    -- ---- The run

    pub emptied_mid : (old mid : History) → Now old (λ w. IsLeftDirectory root name paths w.disk) → Ended (Cleared paths) old mid → Now mid (λ w. IsEmptyDirectory (seen w.disk) place)
    emptied_mid old mid known cleared = ended_gives Known (λ d. IsEmptyDirectory (seen d) place) (Cleared paths) (λ a b at did. empty_mid a at b did) old mid known cleared

    -- the directory and its files are gone
    pub record Emptied (a c : Disk) : Type 0 where
      pub gone : node_at (seen c) place ≡ nothing
      pub left : (q : List ℕ) → is_one_of paths q ≡ true → node_at (seen c) q ≡ nothing
      pub rest : (q : List ℕ) → q ≢ place → is_one_of paths q ≡ false → Agree q (seen c) (seen a)

    pub emptied : (old mid new : History) → Now old (λ w. IsLeftDirectory root name paths w.disk) → Ended (Cleared paths) old mid → Ended (λ b c. RemovedDirectory place (seen b) (seen c)) mid new → Ended Emptied old new
    emptied old mid new known cleared removed =
        ended_two Known (λ b. Unit {0}) (Cleared paths) (λ b c. RemovedDirectory place (seen b) (seen c)) Emptied
        (λ a b c at u one two. record {
          gone = two.gone;
          left = λ q among_paths. two.rest q (λ same. false≢true (sym (not_itself a at) ∙ ap (is_one_of paths) (sym same) ∙ among_paths)) ∙ one.gone q among_paths (no_directory a at q among_paths);
          rest = λ q no_place none. two.rest q no_place ∙ one.rest q none;
        }) old mid new known (any_now mid) cleared removed

    pub emptied_done : (old new : History) → Now old (λ w. IsLeftDirectory root name paths w.disk) → Ended Emptied old new
        → Ended (λ start end. (tree : Tree) → HasTree (formats_of forms chosen) root (seen start) tree → HasTree (formats_of forms chosen) root (seen end) (deleted_tree tree name)) old new
    emptied_done old new known did =
        ended_weaker Known Emptied (λ start end. (tree : Tree) → HasTree (formats_of forms chosen) root (seen start) tree → HasTree (formats_of forms chosen) root (seen end) (deleted_tree tree name))
        (λ a c at e tree has. subst (HasTree (formats_of forms chosen) root (seen c)) (sym (gone_is a at.sound at.found tree has))
        (tree_emptied forms laws root name (name_path name is) (seen a) (seen c) e.gone
        (λ q no_place no_named. e.rest q no_place (⊎_elim (λ one. absurd (no_named (named_left a at q one).0)) (λ none. none) (cases_Bool (is_one_of paths q)))) tree has (seen_tree a at.sound at.found tree has))) old new known did

    -- at each instant all else stands as before
    first_kept : (old mid : History) → Ran KeepsDirectories old mid → Ran (Keeps (λ q. is_one_of paths q ≡ false)) old mid → Now old (λ w. NonePending w.disk) → Ran (KeepsBut Files IsNoPath) old mid
    first_kept old mid directories keeps none =
        ran_both NonePending KeepsDirectories (Keeps (λ q. is_one_of paths q ≡ false)) (KeepsBut Files IsNoPath)
        (λ a b settled dirs same. keeps_files Files known_one a b settled dirs (record {
          each = λ image left. let before = same.each image left in (before.0, before.1, λ q no_one. before.2 q (⊎_elim (λ one. absurd (no_one one)) (λ none. none) (cases_Bool (is_one_of paths q))));
        })) old mid none directories keeps
      where
        known_one : (q : List ℕ) → Files q ⊎ (Files q → ⊥)
        known_one q = ⊎_elim (λ one. inl one) (λ none. inr (λ one. false≢true (sym none ∙ one))) (cases_Bool (is_one_of paths q))

    place_kept : (a b : Disk) → Keeps (λ q. q ≢ place) a b → KeepsBut Files (λ q. q ≡ place) a b
    place_kept a b keeps = record { each = λ image left. let before = keeps.each image left in (before.0, before.1, λ q. ⊎_elim (λ here. inr (inr here)) (λ away. inl (before.2 q away)) (cases_path q place)) }

    sees_emptied : (a c : Disk) → IsLeftDirectory root name paths a → Emptied a c → SeesBut Files (λ q. q ≡ place) a c
    sees_emptied a c at did = record {
      each = λ q. ⊎_elim (λ here. inr (inr here))
          (λ away. ⊎_elim (λ one. inr (inl (one, ap directory_test (did.left q one), no_directory a at q one))) (λ none. inl (did.rest q away none)) (cases_Bool (is_one_of paths q))) (cases_path q place);
    }

    module _ {T : Type 0} (result : Result T TreeFault) (old mid new : History) (known : Now old (λ w. IsLeftDirectory root name paths w.disk)) (failed : IsErr result → IsErrOf result Failed)
        (directories : Ran KeepsDirectories old mid) (kept : Ran (Keeps (λ q. is_one_of paths q ≡ false)) old mid) (settled : Ran (Keeps (λ q. q ≢ place)) mid new) (did : OnOk result (Ended Emptied old new)) where
      leaves_own : LeavesBut Files (λ start q. q ≡ place) result old new
      leaves_own = record {
        instants = λ none. ran_then {R = KeepsBut Files IsNoPath} {S = Keeps (λ q. q ≢ place)} {T = KeepsBut Files (λ q. q ≡ place)} (λ a. keeps_but_none Files IsNoPath a)
            (λ a b r. but_wider Files IsNoPath Files (λ q. q ≡ place) (λ q one. one) (λ q never. absurd never) a b r)
            (λ a b c r s. keeps_but_then Files (λ q. q ≡ place) a b c (but_wider Files IsNoPath Files (λ q. q ≡ place) (λ q one. one) (λ q never. absurd never) a b r) (place_kept b c s)) old mid new
            (first_kept old mid directories kept none) settled;
        sees = at result failed did;
      }
        where
          at : (r : Result T TreeFault) → (IsErr r → IsErrOf r Failed) → OnOk r (Ended Emptied old new) → (IsErrOf r Failed → ⊥) → Ended (λ start end. SeesBut Files (λ q. q ≡ place) start end) old new
          at (Err fault) fails none not_failed = absurd (not_failed (fails refl))
          at (Ok value) fails emptied_now not_failed = ended_weaker Known Emptied (SeesBut Files (λ q. q ≡ place)) (λ a c at_a e. sees_emptied a c at_a e) old new known emptied_now

      -- all of it is what a deletion may take away
      to_deletable : (a : Disk) → IsLeftDirectory root name paths a → (q : List ℕ) → Files q → IsDeletable place q
      to_deletable a at q one = let named = (named_left a at q one).0 in inr (inr (record { name = named.name; whole = named.whole; plain = named.plain; is_kind = left_kind named.name named.is_kind }))
        where
          left_kind : (n : List ℕ) → is_leftover n ≡ true → (is_mailbox_name Mh n || is_mailbox_name Mix n || is_leftover n) ≡ true
          left_kind n left = any_left (is_mailbox_name Mh n) (is_mailbox_name Mix n) (is_leftover n) left
            where
              any_left : (x y z : Bool) → z ≡ true → (x || y || z) ≡ true
              any_left true true z e = refl
              any_left true false z e = refl
              any_left false true z e = refl
              any_left false false z e = e

      pub leaves_emptied : LeavesBut (IsDeletable place) (λ start q. q ≡ place) result old new
      leaves_emptied = record {
        instants = λ none. let own = leaves_own.instants none in ran_both Known (KeepsBut Files (λ q. q ≡ place)) (KeepsBut Files (λ q. q ≡ place)) (KeepsBut (IsDeletable place) (λ q. q ≡ place))
            (λ a b at r s. but_wider Files (λ q. q ≡ place) (IsDeletable place) (λ q. q ≡ place) (to_deletable a at) (λ q here. here) a b r) old new known own own;
        sees = λ not_failed. ended_weaker Known (SeesBut Files (λ q. q ≡ place)) (SeesBut (IsDeletable place) (λ q. q ≡ place))
            (λ a b at r. sees_wider Files (λ q. q ≡ place) (IsDeletable place) (λ q. q ≡ place) (to_deletable a at) (λ q here. here) a b r) old new known (leaves_own.sees not_failed);
      }

      pub commits_emptied : Now new (λ w. IsSound w.disk) → (Now old (λ w. NonePending w.disk) → OnOk result (Now new (λ w. NonePending w.disk))) → CommitsTree (formats_of forms chosen) root (λ tree. deleted_tree tree name) result old new
      commits_emptied sound pending =
          commits_beside (formats_of forms chosen) laws root (λ tree. deleted_tree tree name) result Files (λ start q. q ≡ place) Known old new known sound
          (λ tree a at has. touches_none a at tree has) (λ tree a at has. on_ok result (same_mix a at tree has)) leaves_own pending
        where
          on_ok : {U E P : Type 0} → (r : Result U E) → P → OnOk r P
          on_ok (Ok v) p = p
          on_ok (Err e) p = tt

-- ---- Of a call that fails only where a call on the files failed

abbrev fault_of : {T : Type 0} → Result T TreeFault → TreeFault
fault_of (Ok value) = Failed
fault_of (Err fault) = fault

pub failed_breaks : {T : Type 0} (result : Result T TreeFault) → (IsErr result → IsErrOf result Failed) → IsErr result → BreaksTree result
failed_breaks (Ok value) fails is = absurd (cc)
failed_breaks (Err fault) fails is = ap (λ r. breaks_tree (fault_of r)) (fails is)

-- what failed changed no tree
pub failed_changes : {T : Type 0} (forms : Forms) (root : List ℕ) (change : Tree → Tree) (result : Result T TreeFault) (old new : History) → IsErrOf result Failed → RanOnFiles old new → ChangesTree (formats_of forms chosen) root change result old new
failed_changes forms root change result old new is files = subst (λ r. ChangesTree (formats_of forms chosen) root change r old new) (sym is)
    (record { done = tt; refused = λ refuses. absurd (false≢true (sym refuses)); none_pending = λ none. tt; files = files })
