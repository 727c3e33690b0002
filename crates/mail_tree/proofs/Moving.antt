-- The tree after all that stands at one path was moved to another.
use Rattle.std.proofs.Common.{◌≡◌, ◌⊎◌, inl, inr, ⊎_elim, ℕ, List, [], ◌∷◌, ◌++◌, drop, length, Bool, true, false, cond, ◌&&◌, Option, Some, None, refl, sym, ◌∙◌, ap, subst, append_assoc, append-nil, length-append, arith}
use Rattle.std.specs.Prelude.{codes, is_some, is_none, IsSome, unwrap_or}
use Rattle.std.specs.FinMap.{get}
use Rattle.std.proofs.lemmas.Bool.{and_parts, and_right, false_from_ne_true}
use Rattle.file_model.specs.Images.{Image, nothing, node_at, bytes_of}
use Rattle.file_model.specs.Kept.{moved_node}
use Rattle.file_model.specs.Paths.{child, split_path, with_front, front_of, back_of, parent, last_part, is_at_or_inside, HasNoSlash}
use Rattle.file_model.proofs.NamesIn.{plain_is}
use Rattle.mail_types.specs.declared.driver.Driver.TheVariants.{Mh}
use Rattle.file_model.proofs.Inside.{Slash, Under, under_is, under_test, drop_dir, not_both, same_up}
use Rattle.store_trait.specs.OwnPaths.{is_message_number}
use Rattle.any_store.specs.Choice.{Formats, has_file, mh_mark_of}
use Rattle.mail_tree.specs.Changes.{moved_nodes, with_nodes}
use Rattle.mail_tree.specs.Names.{is_part, is_path}
use Rattle.mail_tree.specs.Sights.{IsAbove}
use Rattle.mail_tree.specs.Subscriptions.{subscribed_in}
use Rattle.mail_tree.specs.Trees.{Meaning, TreeNode, unknown_file, file_mailbox, folder, Nodes, Tree, is_plain, sees, is_message, HasMeaning, IsNodeOf, IsNodeAt, HasTree, list_of}
use Rattle.mail_tree.proofs.Above.{split_at, split_below, slash_in, some_split}
use Rattle.mail_tree.proofs.Below.{one_below, child_below, no_path, IsRooted}
use Rattle.mail_tree.proofs.Made.{sees_child, message_same, list_no_path}
use Rattle.mail_tree.proofs.MovedKeys.{Apart, get_moved}
use Rattle.mail_tree.proofs.Nodes.{AreFormats, IsCopied, node_copied, sequences_plain, special_same}
use Rattle.mail_tree.proofs.PathParts.{path_child}
use Rattle.mail_tree.proofs.Sighted.{sees_free, no_message}

-- ---- Paths under a directory, below a root

pub under_below : (root d q : List ℕ) → Under d q → Under (child root d) (child root q)
under_below root d q u = record { rest = u.rest; whole = ap (child root) u.whole ∙ sym (append_assoc root (47 ∷ d) u.rest); slash = u.slash }

below_under : (root d q : List ℕ) → Under (child root d) (child root q) → Under d q
below_under root d q u = record { rest = u.rest; whole = one_below root q (d ++ u.rest) (u.whole ∙ append_assoc root (47 ∷ d) u.rest); slash = u.slash }

pub test_below : (root d q : List ℕ) (b : Bool) → is_at_or_inside d q ≡ b → is_at_or_inside (child root d) (child root q) ≡ b
test_below root d q true is = under_test (child root d) (child root q) (under_below root d q (under_is d q is))
test_below root d q false is = false_from_ne_true (is_at_or_inside (child root d) (child root q)) (λ holds. not_both (is_at_or_inside d q) (under_test d q (below_under root d q (under_is (child root d) (child root q) holds))) is)

-- a name in a directory is under what the directory is under, or is it
pub name_under : (d q name : List ℕ) → HasNoSlash name → is_at_or_inside d (child q name) ≡ true → (is_at_or_inside d q ≡ true) ⊎ (child q name ≡ d)
name_under d q name plain is = at (under_is d (child q name) is)
  where
    at : Under d (child q name) → (is_at_or_inside d q ≡ true) ⊎ (child q name ≡ d)
    at u = by u.slash
      where
        by : Slash u.rest → (is_at_or_inside d q ≡ true) ⊎ (child q name ≡ d)
        by (inl none) = inr (u.whole ∙ ap (λ r. d ++ r) none ∙ append-nil d)
        by (inr more) = inl (⊎_elim
            (λ here. under_test d q (record { rest = []; whole = here.0 ∙ sym (append-nil d); slash = inl refl }))
            (λ (w : IsAbove d more.0 q). under_test d q (record { rest = 47 ∷ w.front; whole = w.is; slash = inr (w.front, refl) }))
            (split_below d more.0 q name (sym (u.whole ∙ ap (λ r. d ++ r) more.1)) plain))

no_empty : is_path [] ≡ true → ⊥
unfolding is_path
no_empty h = cc

-- what may follow a path, and more
pub longer : (r : List ℕ) → Slash r → (name : List ℕ) → Slash (r ++ 47 ∷ name)
longer r (inl none) name = inr (name, ap (λ l. l ++ 47 ∷ name) none)
longer r (inr more) name = inr (more.0 ++ 47 ∷ name, ap (λ l. l ++ 47 ∷ name) more.1)

-- what isn't under a path has its directory beside it; a path without a directory has the empty one
up_outside : (d : List ℕ) → is_path d ≡ true → (q : List ℕ) → is_at_or_inside d q ≡ false → is_at_or_inside d (parent q) ≡ false
up_outside d is q outside = at (split_path q) refl
  where
    empty_no_path : is_path [] ≡ true → ⊥
    empty_no_path h = no_empty h

    at : (s : Option (List ℕ × List ℕ)) → split_path q ≡ s → is_at_or_inside d (front_of s) ≡ false
    at None e = false_from_ne_true (is_at_or_inside d []) (λ holds. let u = under_is d [] holds in empty_no_path (ap is_path (sym (first d u.rest (sym u.whole))) ∙ is))
      where
        first : (l m : List ℕ) → l ++ m ≡ [] → l ≡ []
        first [] m e = refl
        first (x ∷ l) m e = absurd (cc)
    at (Some p) e =
        let w = split_at q p e in
        false_from_ne_true (is_at_or_inside d p.0) (λ holds. let u = under_is d p.0 holds in not_both (is_at_or_inside d q) (under_test d q (record {
          rest = u.rest ++ 47 ∷ p.1;
          whole = w.whole ∙ ap (λ z. child z p.1) u.whole ∙ append_assoc d u.rest (47 ∷ p.1);
          slash = longer u.rest u.slash p.1;
        })) outside)

-- ---- A move

pub record Moved (from to : List ℕ) (start end : Image) : Type 0 where
  pub each : (path : List ℕ) → node_at end path ≡ moved_node from to start path

module _ (formats : Formats) (laws : AreFormats formats) (root from to : List ℕ) (is_from : is_path from ≡ true) (is_to : is_path to ≡ true) (apart : Apart from to)
    (start end : Image) (rooted : IsRooted start) (moved : Moved (child root from) (child root to) start end) where
  -- what stands under the new path
  under_to : (rest : List ℕ) → Slash rest → node_at end (child root to ++ rest) ≡ node_at start (child root from ++ rest)
  under_to rest slash = moved.each (child root to ++ rest)
      ∙ ap (λ b. cond b (node_at start (child root from ++ drop (length (child root to)) (child root to ++ rest))) (cond (is_at_or_inside (child root from) (child root to ++ rest)) nothing (node_at start (child root to ++ rest))))
      (under_test (child root to) (child root to ++ rest) (record { rest = rest; whole = refl; slash = slash }))
      ∙ ap (λ r. node_at start (child root from ++ r)) (drop_dir (child root to) rest)

  -- elsewhere
  beside : (q : List ℕ) → is_at_or_inside (child root to) q ≡ false → is_at_or_inside (child root from) q ≡ false → node_at end q ≡ node_at start q
  beside q one two = moved.each q
      ∙ ap (λ b. cond b (node_at start (child root from ++ drop (length (child root to)) q)) (cond (is_at_or_inside (child root from) q) nothing (node_at start q))) one
      ∙ ap (λ b. cond b nothing (node_at start q)) two

  gone : (q : List ℕ) → is_at_or_inside (child root to) q ≡ false → is_at_or_inside (child root from) q ≡ true → node_at end q ≡ nothing
  gone q one two = moved.each q
      ∙ ap (λ b. cond b (node_at start (child root from ++ drop (length (child root to)) q)) (cond (is_at_or_inside (child root from) q) nothing (node_at start q))) one
      ∙ ap (λ b. cond b nothing (node_at start q)) two

  -- a name that is no part, in a directory beside
  special_beside : (d : List ℕ) → is_path d ≡ true → (q name : List ℕ) → HasNoSlash name → is_part name ≡ false → is_at_or_inside d q ≡ false → is_at_or_inside (child root d) (child (child root q) name) ≡ false
  special_beside d is q name plain no_part outside = subst (λ p. is_at_or_inside (child root d) p ≡ false) (sym (child_below root q name)) (test_below root d (child q name) false
      (false_from_ne_true (is_at_or_inside d (child q name)) (λ holds. ⊎_elim
      (λ inside. not_both (is_at_or_inside d q) inside outside)
      (λ same. no_path q name plain no_part (ap is_path same ∙ is))
      (name_under d q name plain holds))))

  -- any name, in a directory beside that isn't plain
  name_beside : (nodes : Nodes) (d : List ℕ) → sees nodes d ≡ true → (q name : List ℕ) → HasNoSlash name → is_plain (get nodes q) ≡ false → is_at_or_inside d q ≡ false → is_at_or_inside (child root d) (child (child root q) name) ≡ false
  name_beside nodes d seen q name plain not_plain outside = subst (λ p. is_at_or_inside (child root d) p ≡ false) (sym (child_below root q name)) (test_below root d (child q name) false
      (false_from_ne_true (is_at_or_inside d (child q name)) (λ holds. ⊎_elim
      (λ inside. not_both (is_at_or_inside d q) inside outside)
      (λ same. not_both (is_plain (get nodes q)) (and_parts (sees nodes q) (is_plain (get nodes q)) (sym (sees_child nodes q name plain) ∙ ap (sees nodes) same ∙ seen)).1 not_plain)
      (name_under d q name plain holds))))

  -- a node beside stays
  copied_beside : (nodes : Nodes) → sees nodes from ≡ true → sees nodes to ≡ true → (q : List ℕ) → is_at_or_inside to q ≡ false → is_at_or_inside from q ≡ false → IsCopied start end (child root q) (child root q) (get nodes q)
  copied_beside nodes sees_from sees_to q one two = record {
    here = beside (child root q) (test_below root to q false one) (test_below root from q false two);
    special = λ name plain no_part. inl (beside (child (child root q) name) (special_beside to is_to q name plain no_part one) (special_beside from is_from q name plain no_part two));
    inside = at (is_plain (get nodes q)) refl;
  }
    where
      at : (b : Bool) → is_plain (get nodes q) ≡ b → (is_plain (get nodes q) ≡ true) ⊎ ((name : List ℕ) → HasNoSlash name → node_at end (child (child root q) name) ≡ node_at start (child (child root q) name))
      at true e = inl e
      at false e = inr (λ name plain. beside (child (child root q) name) (name_beside nodes to sees_to q name plain e one) (name_beside nodes from sees_from q name plain e two))

  -- a node under the old path is the same under the new
  copied_under : (rest : List ℕ) → Slash rest → (o : Option TreeNode) → IsCopied start end (child root (from ++ rest)) (child root (to ++ rest)) o
  copied_under rest slash o = record {
    here = at_both rest slash;
    special = λ name plain no_part. inl (in_both name);
    inside = inr (λ name plain. in_both name);
  }
    where
      at_both : (r : List ℕ) → Slash r → node_at end (child root (to ++ r)) ≡ node_at start (child root (from ++ r))
      at_both r s = ap (node_at end) (sym (append_assoc root (47 ∷ to) r)) ∙ under_to r s ∙ ap (node_at start) (append_assoc root (47 ∷ from) r)

      in_both : (name : List ℕ) → node_at end (child (child root (to ++ rest)) name) ≡ node_at start (child (child root (from ++ rest)) name)
      in_both name = ap (node_at end) (child_below root (to ++ rest) name ∙ ap (child root) (append_assoc to rest (47 ∷ name)))
          ∙ at_both (rest ++ 47 ∷ name) (longer rest slash name)
          ∙ ap (node_at start) (sym (child_below root (from ++ rest) name ∙ ap (child root) (append_assoc from rest (47 ∷ name))))

  -- ---- Messages

  split_front : (d l : List ℕ) (p : List ℕ × List ℕ) → split_path l ≡ Some p → split_path (d ++ l) ≡ Some (d ++ p.0, p.1)
  unfolding split_path
  split_front [] l p e = e
  split_front (b ∷ d) l p e = ap (with_front b (d ++ l)) (split_front d l p e)

  same_last : (more : List ℕ) → last_part (child to more) ≡ last_part (child from more)
  same_last more = at (split_path (47 ∷ more)) refl (some_split [] more)
    where
      at : (s : Option (List ℕ × List ℕ)) → split_path (47 ∷ more) ≡ s → IsSome s → last_part (child to more) ≡ last_part (child from more)
      at None e some = absurd (cc)
      at (Some p) e some = ap (back_of (child to more)) (split_front to (47 ∷ more) p e) ∙ sym (ap (back_of (child from more)) (split_front from (47 ∷ more) p e))

  -- what moved in a directory is a message where it was one
  message_inside : (more : List ℕ) → is_message root end (child to more) ≡ is_message root start (child from more)
  message_inside more =
      let s = same_up more in
      (λ i. some i && is_message_number (same_last more i) && here i && mark s.up s.slash (s.is to) (s.is from) i)
    where
      some : is_some (split_path (child to more)) ≡ is_some (split_path (child from more))
      some = some_split to more ∙ sym (some_split from more)

      here : has_file end (child root (child to more)) ≡ has_file start (child root (child from more))
      here = ap (λ n. is_some (bytes_of n)) (copied_under (47 ∷ more) (inr (more, refl)) None).here

      mark : (up : List ℕ) → Slash up → parent (child to more) ≡ to ++ up → parent (child from more) ≡ from ++ up → has_file end (mh_mark_of (child root (parent (child to more)))) ≡ has_file start (mh_mark_of (child root (parent (child from more))))
      mark up slash one other = ap (λ p. has_file end (mh_mark_of (child root p))) one
          ∙ ap (λ n. is_some (bytes_of n)) (special_same (codes ".mh_sequences") (node_at start (child (child root (from ++ up)) (codes ".mh_sequences"))) (node_at end (child (child root (to ++ up)) (codes ".mh_sequences"))) refl ((copied_under up slash None).special (codes ".mh_sequences") sequences_plain refl))
          ∙ ap (λ p. has_file start (mh_mark_of (child root p))) (sym other)

  -- a plain directory has no mark
  plain_unmarked : (path : List ℕ) (message : Bool) (o : Option TreeNode) → is_plain o ≡ true → IsNodeOf formats path start message o → has_file start (mh_mark_of path) ≡ false
  plain_unmarked path message None plain node = absurd (cc)
  plain_unmarked path message (Some unknown_file) plain node = absurd (cc)
  plain_unmarked path message (Some (file_mailbox d m)) plain node = absurd (cc)
  plain_unmarked path message (Some (folder d)) plain node = at d.mix d.mh plain node.mh
    where
      at : (mix mh : Option Meaning) → (is_none mix && is_none mh) ≡ true → HasMeaning formats Mh (mh_mark_of path) path start mh → has_file start (mh_mark_of path) ≡ false
      at mix None plain is = is
      at None (Some m) plain is = absurd (cc)
      at (Some n) (Some m) plain is = absurd (cc)

  module _ (tree : Tree) (has : HasTree formats root start tree) (sees_from : sees tree.nodes from ≡ true) (sees_to : sees tree.nodes to ≡ true) where
    -- what moved itself is none
    no_message_there : is_message root end to ≡ false
    no_message_there = at (split_path to) refl
      where
        at : (s : Option (List ℕ × List ℕ)) → split_path to ≡ s → is_message root end to ≡ false
        at None e = ap (λ s. is_some s && is_message_number (last_part to) && has_file end (child root to) && has_file end (mh_mark_of (child root (parent to)))) e
        at (Some p) e =
            let w = split_at to p e in
            and_right (is_some (split_path to) && is_message_number (last_part to) && has_file end (child root to)) (has_file end (mh_mark_of (child root (parent to))))
            (ap (λ s. has_file end (mh_mark_of (child root (front_of s)))) e
            ∙ ap (λ n. is_some (bytes_of n)) (beside (mh_mark_of (child root p.0)) (special_beside to is_to p.0 (codes ".mh_sequences") sequences_plain refl (above_outside w.whole)) (special_beside from is_from p.0 (codes ".mh_sequences") sequences_plain refl (other_outside w.whole w.plain)))
            ∙ plain_unmarked (child root p.0) (is_message root start p.0) (get tree.nodes p.0)
            (and_parts (sees tree.nodes p.0) (is_plain (get tree.nodes p.0)) (sym (sees_child tree.nodes p.0 p.1 w.plain) ∙ ap (sees tree.nodes) (sym w.whole) ∙ sees_to)).1
            (has.nodes p.0 (and_parts (is_path p.0) (is_path p.1) (sym (path_child p.0 p.1) ∙ ap is_path (sym w.whole) ∙ is_to)).0).is)
          where
            above_outside : to ≡ child p.0 p.1 → is_at_or_inside to p.0 ≡ false
            above_outside whole = false_from_ne_true (is_at_or_inside to p.0) (λ is. let u = under_is to p.0 is in
                absurd (omega (arith, ap length whole, length-append p.0 (47 ∷ p.1), ap length u.whole, length-append to u.rest)))

            other_outside : to ≡ child p.0 p.1 → HasNoSlash p.1 → is_at_or_inside from p.0 ≡ false
            other_outside whole plain = false_from_ne_true (is_at_or_inside from p.0) (λ is. not_both (is_at_or_inside from to) (let u = under_is from p.0 is in under_test from to (record {
              rest = u.rest ++ 47 ∷ p.1;
              whole = whole ∙ ap (λ d. child d p.1) u.whole ∙ append_assoc from u.rest (47 ∷ p.1);
              slash = longer u.rest u.slash p.1;
            })) apart.0)

    message_moved : (rest : List ℕ) → Slash rest → is_message root end (to ++ rest) ≡ is_message root start (from ++ rest)
    message_moved rest (inl none) = ap (λ r. is_message root end (to ++ r)) none ∙ ap (is_message root end) (append-nil to) ∙ no_message_there
        ∙ sym (ap (λ r. is_message root start (from ++ r)) none ∙ ap (is_message root start) (append-nil from) ∙ no_message formats root start tree has rooted from is_from (sees_free tree.nodes from sees_from))
    message_moved rest (inr more) = ap (λ r. is_message root end (to ++ r)) more.1 ∙ message_inside more.0 ∙ ap (λ r. is_message root start (from ++ r)) (sym more.1)

    -- the path from which what stands under the new path came
    path_moved : (rest : List ℕ) → Slash rest → is_path (from ++ rest) ≡ is_path (to ++ rest)
    path_moved rest (inl none) = ap (λ r. is_path (from ++ r)) none ∙ ap is_path (append-nil from) ∙ is_from ∙ sym (ap (λ r. is_path (to ++ r)) none ∙ ap is_path (append-nil to) ∙ is_to)
    path_moved rest (inr more) = ap (λ r. is_path (from ++ r)) more.1 ∙ path_child from more.0 ∙ ap (λ b. b && is_path more.0) (is_from ∙ sym is_to) ∙ sym (path_child to more.0) ∙ ap (λ r. is_path (to ++ r)) (sym more.1)

    got : (q : List ℕ) (b c : Bool) → is_at_or_inside to q ≡ b → is_at_or_inside from q ≡ c → get (moved_nodes from to tree.nodes) q ≡ cond b (get tree.nodes (from ++ drop (length to) q)) (cond c None (get tree.nodes q))
    got q b c one two = get_moved from to apart tree.nodes q ∙ (λ i. cond (one i) (get tree.nodes (from ++ drop (length to) q)) (cond (two i) None (get tree.nodes q)))

    came : (q : List ℕ) (u : Under to q) → from ++ drop (length to) q ≡ from ++ u.rest
    came q u = ap (λ z. from ++ drop (length to) z) u.whole ∙ ap (λ r. from ++ r) (drop_dir to u.rest)

    node_at_end : (q : List ℕ) → is_path q ≡ true → IsNodeAt formats root end q (get (moved_nodes from to tree.nodes) q)
    node_at_end q is = at (is_at_or_inside to q) (is_at_or_inside from q) refl refl
      where
        at : (b c : Bool) → is_at_or_inside to q ≡ b → is_at_or_inside from q ≡ c → IsNodeAt formats root end q (get (moved_nodes from to tree.nodes) q)
        at true c one two =
            let u = under_is to q one in
            subst (IsNodeAt formats root end q) (sym (got q true c one two ∙ ap (get tree.nodes) (came q u)))
            (subst (λ z. IsNodeAt formats root end z (get tree.nodes (from ++ u.rest))) (sym u.whole)
            (node_copied formats laws root start end (from ++ u.rest) (to ++ u.rest) (get tree.nodes (from ++ u.rest)) (copied_under u.rest u.slash (get tree.nodes (from ++ u.rest)))
            (message_moved u.rest u.slash) (has.nodes (from ++ u.rest) (path_moved u.rest u.slash ∙ ap is_path (sym u.whole) ∙ is))))
        at false true one two = subst (IsNodeAt formats root end q) (sym (got q false true one two))
            (record { is = inl (gone (child root q) (test_below root to q false one) (test_below root from q true two)) })
        at false false one two = subst (IsNodeAt formats root end q) (sym (got q false false one two))
            (node_copied formats laws root start end q q (get tree.nodes q) (copied_beside tree.nodes sees_from sees_to q one two)
            (message_same root start end q (beside (child root q) (test_below root to q false one) (test_below root from q false two)) (mark_beside q one two)) (has.nodes q is))
          where
            -- the mark in the directory above stays
            mark_beside : (q : List ℕ) → is_at_or_inside to q ≡ false → is_at_or_inside from q ≡ false → node_at end (mh_mark_of (child root (parent q))) ≡ node_at start (mh_mark_of (child root (parent q)))
            mark_beside q one two = beside (mh_mark_of (child root (parent q)))
                (special_beside to is_to (parent q) (codes ".mh_sequences") sequences_plain refl (up_outside to is_to q one))
                (special_beside from is_from (parent q) (codes ".mh_sequences") sequences_plain refl (up_outside from is_from q two))

    pub tree_moved : HasTree formats root end (with_nodes (moved_nodes from to tree.nodes) tree)
    tree_moved = record {
      nodes = node_at_end;
      keys = λ q none. key q (is_at_or_inside to q) (is_at_or_inside from q) refl refl none;
      subscribed = has.subscribed ∙ ap (λ n. subscribed_in (unwrap_or (bytes_of n) [])) (sym (beside (list_of root) (list_outside to is_to) (list_outside from is_from)));
    }
      where
        key : (q : List ℕ) (b c : Bool) → is_at_or_inside to q ≡ b → is_at_or_inside from q ≡ c → is_path q ≡ false → get (moved_nodes from to tree.nodes) q ≡ None
        key q true c one two none =
            let u = under_is to q one in
            got q true c one two ∙ ap (get tree.nodes) (came q u) ∙ has.keys (from ++ u.rest) (path_moved u.rest u.slash ∙ ap is_path (sym u.whole) ∙ none)
        key q false true one two none = got q false true one two
        key q false false one two none = got q false false one two ∙ has.keys q none

        list_outside : (d : List ℕ) → is_path d ≡ true → is_at_or_inside (child root d) (list_of root) ≡ false
        list_outside d is = test_below root d (codes ".mailboxlist") false (false_from_ne_true (is_at_or_inside d (codes ".mailboxlist")) (λ holds. at (under_is d (codes ".mailboxlist") holds)))
          where
            at : Under d (codes ".mailboxlist") → ⊥
            at u = by u.slash
              where
                by : Slash u.rest → ⊥
                by (inl none) = list_no_path (ap is_path (u.whole ∙ ap (λ r. d ++ r) none ∙ append-nil d) ∙ is)
                by (inr more) = slash_in d more.0 (codes ".mailboxlist") (u.whole ∙ ap (λ r. d ++ r) more.1) (plain_is (codes ".mailboxlist") refl)
