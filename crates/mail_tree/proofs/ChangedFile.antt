-- The tree after what stands at one name has changed: all else stands as before, but for the temporary file beside it.
use Rattle.std.proofs.Common.{◌≡◌, ◌≢◌, ◌⊎◌, inl, inr, ⊎_elim, ℕ, List, [], ◌++◌, Bool, true, false, cond, Option, Some, None, refl, sym, ◌∙◌, ap, subst}
use Rattle.std.specs.Prelude.{codes, unwrap_or}
use Rattle.std.specs.FinMap.{get, remove, get-remove}
use Rattle.std.proofs.lemmas.Bool.{false≢true, and_parts}
use Rattle.std.proofs.lemmas.Cmp.{nat_list_cmp_total}
use Rattle.file_model.specs.Images.{Image, nothing, node_at, bytes_of, directory_test, Agree}
use Rattle.file_model.specs.Paths.{child, split_path, parent, last_part, front_of, back_of, temporary_of, HasNoSlash}
use Rattle.file_model.specs.Reserved.{is_leftover}
use Rattle.file_model.proofs.Names.{cases_path, same_path, other_path}
use Rattle.file_model.proofs.NamesIn.{plain_is}
use Rattle.file_model.proofs.Paths.{child_apart, parent_child, last_part_child}
use Rattle.any_store.specs.Choice.{Formats, mh_mark_of}
use Rattle.mail_tree.specs.Changes.{with_nodes}
use Rattle.mail_tree.specs.Names.{is_part, is_path}
use Rattle.mail_tree.specs.Sights.{IsAbove}
use Rattle.mail_tree.specs.Subscriptions.{subscribed_in}
use Rattle.mail_tree.specs.Trees.{Nodes, Tree, is_plain, sees, IsNodeAt, HasTree, list_of}
use Rattle.mail_tree.proofs.Above.{never_whole, split_at, split_below}
use Rattle.mail_tree.proofs.Below.{one_below, child_below, special_apart}
use Rattle.mail_tree.proofs.Made.{sees_child, list_apart, message_same}
use Rattle.mail_tree.proofs.Nodes.{AreFormats, IsCopied, SameSpecial, node_copied, sequences_plain}
use Rattle.mail_tree.proofs.ReservedNames.{no_leftover}
use Rattle.mail_tree.proofs.Creating.{last_free}

-- reads see all but two paths as before, and at one of them the same too, or no directory
pub record ChangesFile (path : List ℕ) (start end : Image) : Type 0 where
  pub rest : (q : List ℕ) → q ≢ path → q ≢ temporary_of path → Agree q end start
  pub beside : Agree (temporary_of path) end start ⊎ ((directory_test (node_at end (temporary_of path)) ≡ false) × (directory_test (node_at start (temporary_of path)) ≡ false))

-- where a path below a root stands
pub record Placed (root m : List ℕ) : Type 0 where
  pub plain : HasNoSlash (last_part (child root m))
  pub above : (parent (child root m) ≡ root) ⊎ IsAbove root m (parent (child root m))

pub placed : (root m : List ℕ) → Placed root m
placed root m = at (split_path (child root m)) refl
  where
    at : (s : Option (List ℕ × List ℕ)) → split_path (child root m) ≡ s → Placed root m
    at None e = absurd (never_whole root m e)
    at (Some p) e =
        let w = split_at (child root m) p e in
        record {
          plain = subst HasNoSlash (sym (ap (back_of (child root m)) e)) w.plain;
          above = subst (λ dir. (dir ≡ root) ⊎ IsAbove root m dir) (sym (ap front_of e)) (⊎_elim (λ here. inl here.0) (λ a. inr a) (split_below root m p.0 p.1 w.whole w.plain));
        }

new_left : (last : List ℕ) → is_leftover (codes ".new" ++ last) ≡ true
new_left last = refl

list_plain : HasNoSlash (codes ".mailboxlist")
list_plain = plain_is (codes ".mailboxlist") refl

new_plain : (last : List ℕ) → HasNoSlash last → HasNoSlash (codes ".new" ++ last)
new_plain last plain = (refl, (refl, (refl, (refl, plain))))

module _ (root m : List ℕ) where
  abbrev path : List ℕ
  path = child root m

  last_new : last_part (temporary_of path) ≡ codes ".new" ++ last_part path
  last_new = last_part_child (parent path) (codes ".new" ++ last_part path) (new_plain (last_part path) (placed root m).plain)

  pub parent_new : parent (temporary_of path) ≡ parent path
  parent_new = parent_child (parent path) (codes ".new" ++ last_part path) (new_plain (last_part path) (placed root m).plain)

  -- a name in a directory that is the temporary file's is a leftover one
  name_left : (dir name : List ℕ) → HasNoSlash name → child dir name ≡ temporary_of path → is_leftover name ≡ true
  name_left dir name plain same =
      ap is_leftover (sym (last_part_child dir name plain) ∙ ap last_part same ∙ last_new) ∙ new_left (last_part path)

  pub kept_apart : (dir name : List ℕ) → HasNoSlash name → is_leftover name ≡ false → child dir name ≢ temporary_of path
  kept_apart dir name plain kept same = false≢true (sym kept ∙ name_left dir name plain same)

  -- no path of a name is
  pub path_apart : (q : List ℕ) → is_path q ≡ true → child root q ≢ temporary_of path
  path_apart q is same = false≢true (sym (no_leftover (last_part (child root q)) (last_free root q is)) ∙ ap is_leftover (ap last_part same ∙ last_new) ∙ new_left (last_part path))

  -- the directory above the name is plain
  pub above_plain : (nodes : Nodes) → sees nodes m ≡ true → (q name : List ℕ) → HasNoSlash name → child (child root q) name ≡ temporary_of (child root m) → is_plain (get nodes q) ≡ true
  above_plain nodes seen q name plain same =
      let up : child root q ≡ parent (child root m) = sym (parent_child (child root q) name plain) ∙ ap parent same ∙ parent_new in
      ⊎_elim (λ at_root. absurd (child_apart root q (sym (up ∙ at_root))))
      (λ (a : IsAbove root m (parent (child root m))). ap (λ front. is_plain (get nodes front)) (one_below root q a.front (up ∙ a.is))
      ∙ (and_parts (sees nodes a.front) (is_plain (get nodes a.front)) (sym (sees_child nodes a.front a.last a.plain) ∙ ap (sees nodes) (sym a.whole) ∙ seen)).1) (placed root m).above

module _ (formats : Formats) (laws : AreFormats formats) (root m : List ℕ) (is_m : is_path m ≡ true) (start end : Image) (changes : ChangesFile (child root m) start end) where
  special_copied : (q name : List ℕ) → HasNoSlash name → is_part name ≡ false → SameSpecial name (node_at start (child (child root q) name)) (node_at end (child (child root q) name))
  special_copied q name plain no_part = ⊎_elim
      (λ same. ⊎_elim (λ agree. inl (ap (node_at end) same ∙ agree ∙ sym (ap (node_at start) same)))
      (λ none. inr (name_left root m (child root q) name plain same, ap (λ p. directory_test (node_at end p)) same ∙ none.0, ap (λ p. directory_test (node_at start p)) same ∙ none.1)) changes.beside)
      (λ apart. inl (changes.rest (child (child root q) name) (special_apart root q m name is_m plain no_part) apart)) (cases_path (child (child root q) name) (temporary_of (child root m)))

  name_plain : (nodes : Nodes) → sees nodes m ≡ true → (q name : List ℕ) → HasNoSlash name → child (child root q) name ≡ child root m → is_plain (get nodes q) ≡ true
  name_plain nodes seen q name plain same =
      (and_parts (sees nodes q) (is_plain (get nodes q)) (sym (sees_child nodes q name plain) ∙ ap (sees nodes) (one_below root (child q name) m (sym (child_below root q name) ∙ same)) ∙ seen)).1

  -- what stands at another path is as before
  copied : (nodes : Nodes) → sees nodes m ≡ true → (q : List ℕ) → is_path q ≡ true → q ≢ m → IsCopied start end (child root q) (child root q) (get nodes q)
  copied nodes seen q is_q apart = record {
    here = changes.rest (child root q) (λ same. apart (one_below root q m same)) (path_apart root m q is_q);
    special = special_copied q;
    inside = inside (is_plain (get nodes q)) refl;
  }
    where
      inside : (b : Bool) → is_plain (get nodes q) ≡ b → (is_plain (get nodes q) ≡ true) ⊎ ((name : List ℕ) → HasNoSlash name → node_at end (child (child root q) name) ≡ node_at start (child (child root q) name))
      inside true e = inl e
      inside false e = inr (λ name plain. changes.rest (child (child root q) name)
          (λ same. false≢true (sym e ∙ name_plain nodes seen q name plain same)) (λ same. false≢true (sym e ∙ above_plain root m nodes seen q name plain same)))

  -- The tree has a new node at the name, and all others.
  pub tree_changed : (tree : Tree) → HasTree formats root start tree → sees tree.nodes m ≡ true → (nodes : Nodes) → IsNodeAt formats root end m (get nodes m) → ((q : List ℕ) → q ≢ m → get nodes q ≡ get tree.nodes q)
      → HasTree formats root end (with_nodes nodes tree)
  tree_changed tree has seen nodes node others = record {
    nodes = λ q is_q. at q is_q (cases_path q m);
    keys = λ q none. others q (λ same. false≢true (sym none ∙ ap is_path same ∙ is_m)) ∙ has.keys q none;
    subscribed = has.subscribed ∙ ap (λ n. subscribed_in (unwrap_or (bytes_of n) [])) (sym (changes.rest (list_of root) (list_apart root m is_m) (kept_apart root m root (codes ".mailboxlist") list_plain refl)));
  }
    where
      mark : (q : List ℕ) → node_at end (mh_mark_of (child root (parent q))) ≡ node_at start (mh_mark_of (child root (parent q)))
      mark q = changes.rest (mh_mark_of (child root (parent q))) (special_apart root (parent q) m (codes ".mh_sequences") is_m sequences_plain refl)
          (kept_apart root m (child root (parent q)) (codes ".mh_sequences") sequences_plain refl)

      at : (q : List ℕ) → is_path q ≡ true → (q ≡ m) ⊎ (q ≢ m) → IsNodeAt formats root end q (get nodes q)
      at q is_q (inl same) = subst (λ z. IsNodeAt formats root end z (get nodes z)) (sym same) node
      at q is_q (inr apart) = subst (IsNodeAt formats root end q) (sym (others q apart))
          (node_copied formats laws root start end q q (get tree.nodes q) (copied tree.nodes seen q is_q apart)
          (message_same root start end q (changes.rest (child root q) (λ same. apart (one_below root q m same)) (path_apart root m q is_q)) (mark q)) (has.nodes q is_q))

  -- where nothing stands there now, the node goes
  pub tree_removed : (tree : Tree) → HasTree formats root start tree → sees tree.nodes m ≡ true → node_at end (child root m) ≡ nothing → HasTree formats root end (with_nodes (remove tree.nodes m) tree)
  tree_removed tree has seen none =
      tree_changed tree has seen (remove tree.nodes m) (subst (IsNodeAt formats root end m) (sym gone) (record { is = inl none }))
      (λ q apart. get-remove nat_list_cmp_total tree.nodes m q ∙ ap (λ b. cond b None (get tree.nodes q)) (other_path m q apart))
    where
      gone : get (remove tree.nodes m) m ≡ None
      gone = get-remove nat_list_cmp_total tree.nodes m m ∙ ap (λ b. cond b None (get tree.nodes m)) (same_path m)
