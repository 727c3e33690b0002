-- The tree after a directory was made.
use Rattle.std.proofs.Common.{◌≡◌, ◌≢◌, ◌⊎◌, inl, inr, ℕ, List, [], ◌∷◌, ◌++◌, Bool, true, false, cond, ◌&&◌, Some, refl, sym, ◌∙◌, ap, subst}
use Rattle.std.specs.Prelude.{codes, is_some, unwrap_or}
use Rattle.std.specs.List.{list_all}
use Rattle.std.specs.FinMap.{get, insert, get-insert}
use Rattle.std.proofs.lemmas.Bool.{false≢true, and_parts}
use Rattle.std.proofs.lemmas.Cmp.{nat_list_cmp_total}
use Rattle.file_model.specs.Images.{Image, Node, node_at, bytes_of, directory_test}
use Rattle.file_model.specs.Paths.{child, HasNoSlash, split_path, parent, last_part}
use Rattle.file_model.proofs.Names.{cases_path, same_path, other_path}
use Rattle.file_model.proofs.Paths.{child_apart}
use Rattle.store_trait.specs.OwnPaths.{is_message_number}
use Rattle.any_store.specs.Choice.{Formats, has_file, mh_mark_of}
use Rattle.mail_tree.specs.Changes.{empty_directory, with_nodes}
use Rattle.mail_tree.specs.Making.{MadeDirectory}
use Rattle.mail_tree.specs.Names.{is_path, prefixes}
use Rattle.mail_tree.specs.Subscriptions.{subscribed_in}
use Rattle.mail_tree.specs.Trees.{TreeNode, folder, Nodes, Tree, is_plain, sees, is_message, IsFolder, IsNodeAt, HasTree, list_of}
use Rattle.mail_tree.proofs.Below.{one_below, child_below, special_apart, IsRooted, none_inside, no_file_inside}
use Rattle.mail_tree.proofs.Nodes.{AreFormats, IsCopied, node_copied, meta_plain, sequences_plain}
use Rattle.mail_tree.proofs.PathParts.{prefixes_child}

-- ---- Maps of nodes

pub get_put_same : (nodes : Nodes) (p : List ℕ) (n : TreeNode) → get (insert nodes p n) p ≡ Some n
get_put_same nodes p n = get-insert nat_list_cmp_total nodes p n p ∙ ap (λ b. cond b (Some n) (get nodes p)) (same_path p)

pub get_put_other : (nodes : Nodes) (p : List ℕ) (n : TreeNode) (q : List ℕ) → q ≢ p → get (insert nodes p n) q ≡ get nodes q
get_put_other nodes p n q apart = get-insert nat_list_cmp_total nodes p n q ∙ ap (λ b. cond b (Some n) (get nodes q)) (other_path p q apart)

-- ---- What is above a path that is seen

all_last : (test : List ℕ → Bool) (xs : List (List ℕ)) (y : List ℕ) → list_all test (xs ++ y ∷ []) ≡ (list_all test xs && test y)
all_last test [] y = at (test y)
  where
    at : (b : Bool) → (b && true) ≡ b
    at true = refl
    at false = refl
all_last test (x ∷ xs) y = at (test x) (all_last test xs y)
  where
    at : (b : Bool) → list_all test (xs ++ y ∷ []) ≡ (list_all test xs && test y) → (b && list_all test (xs ++ y ∷ [])) ≡ ((b && list_all test xs) && test y)
    at true rest = rest
    at false rest = refl

pub sees_child : (nodes : Nodes) (dir name : List ℕ) → HasNoSlash name → sees nodes (child dir name) ≡ (sees nodes dir && is_plain (get nodes dir))
sees_child nodes dir name plain = ap (list_all (λ front. is_plain (get nodes front))) (prefixes_child dir name plain) ∙ all_last (λ front. is_plain (get nodes front)) (prefixes dir) dir

-- ---- A directory is made

pub list_no_path : is_path (codes ".mailboxlist") ≡ true → ⊥
unfolding is_path
list_no_path h = cc

-- the file of the subscribed names is no path of a mailbox
pub list_apart : (root m : List ℕ) → is_path m ≡ true → list_of root ≢ child root m
list_apart root m is same = list_no_path (subst (λ z. is_path z ≡ true) (sym (one_below root (codes ".mailboxlist") m same)) is)

-- only a file that stands, in a directory with a mark, is a message
pub message_same : (root : List ℕ) (one other : Image) (q : List ℕ) → node_at other (child root q) ≡ node_at one (child root q)
    → node_at other (mh_mark_of (child root (parent q))) ≡ node_at one (mh_mark_of (child root (parent q))) → is_message root other q ≡ is_message root one q
message_same root one other q here mark =
    ap (λ n. is_some (split_path q) && is_message_number (last_part q) && is_some (bytes_of n) && has_file other (mh_mark_of (child root (parent q)))) here
    ∙ ap (λ n. is_some (split_path q) && is_message_number (last_part q) && has_file one (child root q) && is_some (bytes_of n)) mark

module _ (formats : Formats) (laws : AreFormats formats) (root m : List ℕ) (is_m : is_path m ≡ true) (start end : Image) (rooted : IsRooted start) (made : MadeDirectory (child root m) start end) where
  elsewhere : (q : List ℕ) → q ≢ child root m → node_at end q ≡ node_at start q
  elsewhere q apart = made.rest q apart

  empty_there : IsFolder formats (child root m) end empty_directory
  empty_there = record {
    stands = ap directory_test made.is;
    mix = no_mark (codes ".mixmeta") meta_plain;
    mh = no_mark (codes ".mh_sequences") sequences_plain;
    other = (
      (λ so. absurd (cc)),
      (λ has. absurd (none_inside start rooted root m has.name has.plain made.was
          (λ none. has.stands (elsewhere (child (child root m) has.name) (λ same. child_apart (child root m) has.name (sym same)) ∙ none)))),
    );
    leftover = (
      (λ so. absurd (cc)),
      (λ has. absurd (false≢true (sym (no_mark has.name has.plain) ∙ has.stands))),
    );
  }
    where
      no_mark : (mark : List ℕ) → HasNoSlash mark → has_file end (child (child root m) mark) ≡ false
      no_mark mark plain = ap (λ n. is_some (bytes_of n)) (elsewhere (child (child root m) mark) (λ same. child_apart (child root m) mark (sym same))) ∙ no_file_inside start rooted root m mark plain made.was

  -- what stands at another path is as before
  copied : (nodes : Nodes) → sees nodes m ≡ true → (q : List ℕ) → q ≢ m → IsCopied start end (child root q) (child root q) (get nodes q)
  copied nodes seen q apart = record {
    here = elsewhere (child root q) (λ same. apart (one_below root q m same));
    special = λ name plain no_part. inl (elsewhere (child (child root q) name) (special_apart root q m name is_m plain no_part));
    inside = inside;
  }
    where
      inside : (is_plain (get nodes q) ≡ true) ⊎ ((name : List ℕ) → HasNoSlash name → node_at end (child (child root q) name) ≡ node_at start (child (child root q) name))
      inside = at (is_plain (get nodes q)) refl
        where
          at : (b : Bool) → is_plain (get nodes q) ≡ b → (is_plain (get nodes q) ≡ true) ⊎ ((name : List ℕ) → HasNoSlash name → node_at end (child (child root q) name) ≡ node_at start (child (child root q) name))
          at true e = inl e
          at false e = inr (λ name plain. elsewhere (child (child root q) name) (λ same.
              not_plain e (and_parts (sees nodes q) (is_plain (get nodes q)) (sym (sees_child nodes q name plain) ∙ ap (sees nodes) (one_below root (child q name) m (sym (child_below root q name) ∙ same)) ∙ seen)).1))
            where
              not_plain : is_plain (get nodes q) ≡ false → is_plain (get nodes q) ≡ true → ⊥
              not_plain fails holds = absurd (both (sym holds ∙ fails))
                where
                  both : true ≡ false → ⊥
                  both h = cc

  mark_same : (q : List ℕ) → node_at end (mh_mark_of (child root q)) ≡ node_at start (mh_mark_of (child root q))
  mark_same q = elsewhere (mh_mark_of (child root q)) (special_apart root q m (codes ".mh_sequences") is_m sequences_plain refl)

  pub tree_made : (tree : Tree) → HasTree formats root start tree → sees tree.nodes m ≡ true → HasTree formats root end (with_nodes (insert tree.nodes m (folder empty_directory)) tree)
  tree_made tree has seen = record {
    nodes = λ q is_q. at q is_q (cases_path q m);
    keys = λ q none. get_put_other tree.nodes m (folder empty_directory) q (λ same. other_test q none same) ∙ has.keys q none;
    subscribed = has.subscribed ∙ ap (λ n. subscribed_of n) (sym (elsewhere (list_of root) (list_apart root m is_m)));
  }
    where
      subscribed_of : Node → List (List ℕ)
      subscribed_of n = subscribed_in (unwrap_or (bytes_of n) [])

      other_test : (q : List ℕ) → is_path q ≡ false → q ≡ m → ⊥
      other_test q none same = absurd (both (sym is_m ∙ ap is_path (sym same) ∙ none))
        where
          both : true ≡ false → ⊥
          both h = cc

      at : (q : List ℕ) → is_path q ≡ true → (q ≡ m) ⊎ (q ≢ m) → IsNodeAt formats root end q (get (insert tree.nodes m (folder empty_directory)) q)
      at q is_q (inl same) = subst (λ z. IsNodeAt formats root end z (get (insert tree.nodes m (folder empty_directory)) z)) (sym same)
          (subst (IsNodeAt formats root end m) (sym (get_put_same tree.nodes m (folder empty_directory))) (record { is = empty_there }))
      at q is_q (inr apart) = subst (IsNodeAt formats root end q) (sym (get_put_other tree.nodes m (folder empty_directory) q apart))
          (node_copied formats laws root start end q q (get tree.nodes q) (copied tree.nodes seen q apart)
          (message_same root start end q (elsewhere (child root q) (λ same. apart (one_below root q m same))) (mark_same (parent q))) (has.nodes q is_q))
