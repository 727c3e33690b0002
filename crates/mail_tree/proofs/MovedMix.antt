-- The crash half of a renaming: its mix mailboxes move whole, or stay.
use Rattle.std.proofs.Common.{◌≡◌, ◌⊎◌, inl, inr, ⊎_elim, ℕ, List, [], ◌∷◌, ◌++◌, drop, length, Bool, true, false, cond, ◌&&◌, Option, Some, None, Result, Ok, Err, OnOk, refl, sym, ◌∙◌, ap, subst, append_assoc, append-nil}
use Rattle.std.specs.Prelude.{codes}
use Rattle.std.specs.FinMap.{get}
use Rattle.std.proofs.lemmas.Bool.{and_parts, false_from_ne_true, false≢true}
use Rattle.file_model.specs.Disk.{Disk, MayStand, MayLeave, seen, seen_names, all_done}
use Rattle.file_model.specs.Histories.{History, Now, Ran, Ended}
use Rattle.file_model.specs.Images.{Image, nothing, node_at, node_of, bytes_of, directory_test}
use Rattle.file_model.specs.Kept.{NonePending, Leaves, moved_node}
use Rattle.file_model.specs.Paths.{child, is_at_or_inside, HasNoSlash}
use Rattle.file_model.proofs.Inside.{Slash, under_is, under_test, drop_dir, not_both}
use Rattle.file_model.proofs.Leaving.{ended_ran, ended_with, ended_reaches, ran_from}
use Rattle.file_model.proofs.Paths.{child_apart}
use Rattle.file_model.proofs.Runs.{now_both}
use Rattle.file_model.proofs.Sound.{no_entry}
use Rattle.mail_types.specs.declared.driver.Driver.TheVariants.{Mix}
use Rattle.store_trait.specs.Commits.{mark_of}
use Rattle.store_trait.specs.Forms.{grammar_of}
use Rattle.store_trait.specs.Meaning.{Means}
use Rattle.store_trait.specs.OwnPaths.{IsOwn, is_content_name}
use Rattle.store_trait.proofs.MovedMeaning.{means_moves, rests_own}
use Rattle.any_store.specs.Choice.{Formats}
use Rattle.mail_tree.specs.declared.fault.TreeFault.{TreeFault}
use Rattle.mail_tree.specs.Agreement.{mix_of, HasMix, HasMixMailboxes, IsMixAlike, IsTreeAlike}
use Rattle.mail_tree.specs.Changes.{with_parents, renamed_tree}
use Rattle.mail_tree.specs.Names.{is_part, is_path, prefixes, IsName}
use Rattle.mail_tree.specs.Promises.{IsMadeAbove, IsMovedOrNot, MayMove, CommitsTree}
use Rattle.mail_tree.specs.Renaming.{CanRename}
use Rattle.mail_tree.specs.Trees.{Meaning, TreeNode, unknown_file, file_mailbox, folder, Tree, HasTree, IsNodeOf, is_message}
use Rattle.mail_tree.proofs.Agreed.{agreed}
use Rattle.mail_tree.proofs.Below.{one_below, child_below, no_path, special_apart}
use Rattle.mail_tree.proofs.Creating.{name_path}
use Rattle.mail_tree.proofs.MadeDir.{own_no_part, with_missing}
use Rattle.mail_tree.proofs.MovedImages.{HasMoved, EndsMoved, made_shorter}
use Rattle.mail_tree.proofs.MovedKeys.{Apart, get_moved}
use Rattle.mail_tree.proofs.Moving.{name_under, longer, test_below}
use Rattle.mail_tree.proofs.Nodes.{AreFormats, meta_plain}
use Rattle.mail_tree.proofs.PathParts.{path_child}
use Rattle.mail_tree.proofs.RenamedTree.{names_apart, stands_from, node_stood, not_made}

-- ---- A mix mailbox at another path

-- the names with content are no parts
content_no_part : (name : List ℕ) → HasNoSlash name → is_content_name Mix name ≡ true → is_part name ≡ false
content_no_part name plain kind = at (rests_own Mix [] (child [] name) (inr (record { name = name; whole = refl; plain = plain; is_kind = kind })))
  where
    at : IsOwn Mix [] (child [] name) → is_part name ≡ false
    at (inl same) = absurd (child_apart [] name (sym same))
    at (inr n) = ap is_part (one_below [] name n.name n.whole) ∙ own_no_part n.name n.is_kind

module _ (formats : Formats) (laws : AreFormats formats) (path source : List ℕ) (image before : Image)
    (inside : (name : List ℕ) → HasNoSlash name → is_part name ≡ false → node_at image (child path name) ≡ node_at before (child source name)) where
  means_from : node_at image path ≡ node_at before source → (meaning : Meaning) → Means (grammar_of formats.forms Mix source) Mix source before meaning → Means (grammar_of formats.forms Mix path) Mix path image meaning
  means_from here meaning means = means_moves formats.forms Mix (laws.reads Mix) source path before image (record { here = here; inside = λ name plain kind. inside name plain (content_no_part name plain kind) }) meaning means

  mix_from : (o : Option Meaning) → ((meaning : Meaning) → o ≡ Some meaning → node_at image path ≡ node_at before source) → HasMix formats source before o → HasMix formats path image o
  mix_from None here has = ap bytes_of (inside (codes ".mixmeta") meta_plain refl) ∙ has
  mix_from (Some (Err fault)) here has = means_from (here (Err fault) refl) (Err fault) has
  mix_from (Some (Ok known)) here has = (has.0, means_from (here (Ok known) refl) (Ok has.0) has.1, has.2)

-- ---- What nothing pending leaves

module _ (disk : Disk) (none : NonePending disk) (image : Image) (left : MayLeave disk image) where
  settled_names : image.names ≡ seen_names disk
  settled_names = subst (λ p. MayStand disk.durable p image.names) none.none_pending left.names ∙ sym (ap (λ p. all_done p disk.durable) none.none_pending)

  settled_nothing : (q : List ℕ) → node_at (seen disk) q ≡ nothing → node_at image q ≡ nothing
  settled_nothing q is = ap (node_of image.bytes) (ap (λ m. get m q) settled_names ∙ no_entry (seen disk).bytes (get (seen_names disk) q) is)

  nothing_settled : (q : List ℕ) → node_at image q ≡ nothing → node_at (seen disk) q ≡ nothing
  nothing_settled q is = ap (node_of (seen disk).bytes) (ap (λ m. get m q) (sym settled_names) ∙ no_entry image.bytes (get image.names q) is)

module _ (formats : Formats) (laws : AreFormats formats) (root from to : List ℕ) (is_from : IsName from) (is_to : IsName to) (a : Disk) (can : CanRename root from to (seen a))
    (tree : Tree) (has : HasTree formats root (seen a) tree) where
  apart : Apart from to
  apart = names_apart root from to (seen a) can

  abbrev source_path : List ℕ
  source_path = child root from

  abbrev target_path : List ℕ
  target_path = child root to

  -- ---- Directories that are made

  special_free : (p name : List ℕ) → HasNoSlash name → is_part name ≡ false → IsMadeAbove root to a (child (child root p) name) → ⊥
  special_free p name plain no_part m = special_apart root p m.front name (and_parts (is_path m.front) (is_path m.rest) (sym (path_child m.front m.rest) ∙ ap is_path (sym m.above) ∙ name_path to is_to)).0 plain no_part m.whole

  folder_stood : (p : List ℕ) (message : Bool) (o : Option TreeNode) (meaning : Meaning) → IsNodeOf formats (child root p) (seen a) message o → mix_of o ≡ Some meaning → node_at (seen a) (child root p) ≡ nothing → ⊥
  folder_stood p message None meaning node is none = absurd (cc)
  folder_stood p message (Some unknown_file) meaning node is none = absurd (cc)
  folder_stood p message (Some (file_mailbox driver m)) meaning node is none = absurd (cc)
  folder_stood p message (Some (folder d)) meaning node is none = false≢true (sym (ap directory_test none) ∙ node.stands)

  mix_free : (p : List ℕ) → is_path p ≡ true → (meaning : Meaning) → mix_of (get tree.nodes p) ≡ Some meaning → IsMadeAbove root to a (child root p) → ⊥
  mix_free p is meaning some m = folder_stood p (is_message root (seen a) p) (get tree.nodes p) meaning (has.nodes p is).is some m.absent

  -- ---- An image where nothing moved

  stays_mix : (image before : Image) → ((q : List ℕ) → (IsMadeAbove root to a q → ⊥) → node_at image q ≡ node_at before q) → HasMixMailboxes formats root tree before → HasMixMailboxes formats root tree image
  stays_mix image before agree mix = record {
    each = λ p is. mix_from formats laws (child root p) (child root p) image before (λ name plain no_part. agree (child (child root p) name) (special_free p name plain no_part)) (mix_of (get tree.nodes p))
        (λ meaning some. agree (child root p) (mix_free p is meaning some)) (mix.each p is);
  }

  -- ---- Where a path's mailbox comes from

  pub record IsFrom (path source : List ℕ) : Type 0 where
    pub is : is_path source ≡ true
    pub mix : mix_of (get (renamed_tree tree from to).nodes path) ≡ mix_of (get tree.nodes source)
    pub here : (image : Image) → moved_node source_path target_path image (child root path) ≡ node_at image (child root source)
    pub free : (meaning : Meaning) → mix_of (get tree.nodes source) ≡ Some meaning → IsMadeAbove root to a (child root path) → ⊥
    pub inside : (name : List ℕ) → HasNoSlash name → is_part name ≡ false → (image : Image) → moved_node source_path target_path image (child (child root path) name) ≡ node_at image (child (child root source) name)

  -- or nothing is left there
  pub record IsLeft (path : List ℕ) : Type 0 where
    pub mix : mix_of (get (renamed_tree tree from to).nodes path) ≡ None
    pub gone : (image : Image) → moved_node source_path target_path image (mark_of (child root path)) ≡ nothing

  moved_beside : (image : Image) (q : List ℕ) → is_at_or_inside target_path q ≡ false → is_at_or_inside source_path q ≡ false → moved_node source_path target_path image q ≡ node_at image q
  moved_beside image q one two =
      ap (λ b. cond b (node_at image (source_path ++ drop (length target_path) q)) (cond (is_at_or_inside source_path q) nothing (node_at image q))) one ∙ ap (λ b. cond b nothing (node_at image q)) two

  moved_gone : (image : Image) (q : List ℕ) → is_at_or_inside target_path q ≡ false → is_at_or_inside source_path q ≡ true → moved_node source_path target_path image q ≡ nothing
  moved_gone image q one two =
      ap (λ b. cond b (node_at image (source_path ++ drop (length target_path) q)) (cond (is_at_or_inside source_path q) nothing (node_at image q))) one ∙ ap (λ b. cond b nothing (node_at image q)) two

  moved_under : (image : Image) (rest : List ℕ) → Slash rest → moved_node source_path target_path image (child root (to ++ rest)) ≡ node_at image (child root (from ++ rest))
  moved_under image rest slash =
      ap (moved_node source_path target_path image) (sym (append_assoc root (47 ∷ to) rest))
      ∙ ap (λ b. cond b (node_at image (source_path ++ drop (length target_path) (target_path ++ rest))) (cond (is_at_or_inside source_path (target_path ++ rest)) nothing (node_at image (target_path ++ rest))))
      (under_test target_path (target_path ++ rest) (record { rest = rest; whole = refl; slash = slash }))
      ∙ ap (λ r. node_at image (source_path ++ r)) (drop_dir target_path rest)
      ∙ ap (node_at image) (append_assoc root (47 ∷ from) rest)

  -- a name that is no part, in a directory that isn't under a path of names
  special_outside : (d : List ℕ) → is_path d ≡ true → (p name : List ℕ) → HasNoSlash name → is_part name ≡ false → is_at_or_inside d p ≡ false → is_at_or_inside (child root d) (child (child root p) name) ≡ false
  special_outside d is p name plain no_part outside = subst (λ q. is_at_or_inside (child root d) q ≡ false) (sym (child_below root p name)) (test_below root d (child p name) false
      (false_from_ne_true (is_at_or_inside d (child p name)) (λ holds. ⊎_elim
      (λ inside. not_both (is_at_or_inside d p) inside outside)
      (λ same. no_path p name plain no_part (ap is_path same ∙ is))
      (name_under d p name plain holds))))

  got : (p : List ℕ) (b c : Bool) → is_at_or_inside to p ≡ b → is_at_or_inside from p ≡ c
      → get (renamed_tree tree from to).nodes p ≡ cond b (get (with_parents to tree.nodes) (from ++ drop (length to) p)) (cond c None (get (with_parents to tree.nodes) p))
  got p b c one two = get_moved from to apart (with_parents to tree.nodes) p ∙ (λ i. cond (one i) (get (with_parents to tree.nodes) (from ++ drop (length to) p)) (cond (two i) None (get (with_parents to tree.nodes) p)))

  source_is : (rest : List ℕ) → Slash rest → is_path (to ++ rest) ≡ true → is_path (from ++ rest) ≡ true
  source_is rest (inl none) is = ap (λ r. is_path (from ++ r)) none ∙ ap is_path (append-nil from) ∙ name_path from is_from
  source_is rest (inr more) is = ap (λ r. is_path (from ++ r)) more.1 ∙ path_child from more.0
      ∙ ap (λ b. b && is_path more.0) (name_path from is_from)
      ∙ (and_parts (is_path to) (is_path more.0) (sym (path_child to more.0) ∙ ap (λ r. is_path (to ++ r)) (sym more.1) ∙ is)).1

  from_under : (rest : List ℕ) → Slash rest → is_path (to ++ rest) ≡ true → IsFrom (to ++ rest) (from ++ rest)
  from_under rest slash is = record {
    is = source_is rest slash is;
    mix = ap mix_of (got (to ++ rest) true (is_at_or_inside from (to ++ rest)) (under_test to (to ++ rest) (record { rest = rest; whole = refl; slash = slash })) refl
        ∙ ap (λ r. get (with_parents to tree.nodes) (from ++ r)) (drop_dir to rest)) ∙ with_missing (prefixes to) tree.nodes (from ++ rest);
    here = λ image. moved_under image rest slash;
    free = λ meaning some m. made_shorter root from to apart a rest m;
    inside = λ name plain no_part image.
        ap (moved_node source_path target_path image) (child_below root (to ++ rest) name ∙ ap (child root) (append_assoc to rest (47 ∷ name)))
        ∙ moved_under image (rest ++ 47 ∷ name) (longer rest slash name)
        ∙ ap (node_at image) (sym (child_below root (from ++ rest) name ∙ ap (child root) (append_assoc from rest (47 ∷ name))));
  }

  from_beside : (p : List ℕ) → is_path p ≡ true → is_at_or_inside to p ≡ false → is_at_or_inside from p ≡ false → IsFrom p p
  from_beside p is one two = record {
    is = is;
    mix = ap mix_of (got p false false one two) ∙ with_missing (prefixes to) tree.nodes p;
    here = λ image. moved_beside image (child root p) (test_below root to p false one) (test_below root from p false two);
    free = mix_free p is;
    inside = λ name plain no_part image. moved_beside image (child (child root p) name) (special_outside to (name_path to is_to) p name plain no_part one) (special_outside from (name_path from is_from) p name plain no_part two);
  }

  left_under : (p : List ℕ) → is_at_or_inside to p ≡ false → is_at_or_inside from p ≡ true → IsLeft p
  left_under p one two = record {
    mix = ap mix_of (got p false true one two);
    gone = λ image. moved_gone image (mark_of (child root p)) (special_outside to (name_path to is_to) p (codes ".mixmeta") meta_plain refl one) marked;
  }
    where
      marked : is_at_or_inside source_path (mark_of (child root p)) ≡ true
      marked = let u = under_is from p two in under_test source_path (mark_of (child root p)) (record {
        rest = u.rest ++ 47 ∷ codes ".mixmeta";
        whole = child_below root p (codes ".mixmeta") ∙ ap (λ l. child root (child l (codes ".mixmeta"))) u.whole ∙ ap (child root) (append_assoc from u.rest (47 ∷ codes ".mixmeta")) ∙ sym (append_assoc root (47 ∷ from) (u.rest ++ 47 ∷ codes ".mixmeta"));
        slash = longer u.rest u.slash (codes ".mixmeta");
      })

  place : (p : List ℕ) → is_path p ≡ true → ((source : List ℕ) × IsFrom p source) ⊎ IsLeft p
  place p is = at (is_at_or_inside to p) (is_at_or_inside from p) refl refl
    where
      at : (b c : Bool) → is_at_or_inside to p ≡ b → is_at_or_inside from p ≡ c → ((source : List ℕ) × IsFrom p source) ⊎ IsLeft p
      at true c one two =
          let u = under_is to p one in
          inl (from ++ u.rest, subst (λ z. IsFrom z (from ++ u.rest)) (sym u.whole) (from_under u.rest u.slash (ap is_path (sym u.whole) ∙ is)))
      at false true one two = inr (left_under p one two)
      at false false one two = inl (p, from_beside p is one two)

  -- ---- An image where all moved

  moves_mix : (image before : Image) → HasMoved root from to a before image → HasMixMailboxes formats root tree before → HasMixMailboxes formats root (renamed_tree tree from to) image
  moves_mix image before moved mix = record { each = λ p is. ⊎_elim (come p is) (stay p) (place p is) }
    where
      come : (p : List ℕ) → is_path p ≡ true → (source : List ℕ) × IsFrom p source → HasMix formats (child root p) image (mix_of (get (renamed_tree tree from to).nodes p))
      come p is f = subst (HasMix formats (child root p) image) (sym f.1.mix)
          (mix_from formats laws (child root p) (child root f.0) image before
          (λ name plain no_part. moved.each (child (child root p) name) (special_free p name plain no_part) ∙ f.1.inside name plain no_part before)
          (mix_of (get tree.nodes f.0)) (λ meaning some. moved.each (child root p) (f.1.free meaning some) ∙ f.1.here before) (mix.each f.0 f.1.is))

      stay : (p : List ℕ) → IsLeft p → HasMix formats (child root p) image (mix_of (get (renamed_tree tree from to).nodes p))
      stay p l = subst (HasMix formats (child root p) image) (sym l.mix) (ap bytes_of (moved.each (mark_of (child root p)) (special_free p (codes ".mixmeta") meta_plain refl) ∙ l.gone before))

  module _ (alike : IsTreeAlike formats root tree a) where
    either_mix : (image before : Image) → MayLeave a before → IsMovedOrNot root from to a before image → HasMixMailboxes formats root tree image ⊎ HasMixMailboxes formats root (renamed_tree tree from to) image
    either_mix image before left is =
        ⊎_elim (λ same. inl (stays_mix image before same (agreed formats laws a before left root tree alike)))
        (λ moved. inr (moves_mix image before (record { each = moved }) (agreed formats laws a before left root tree alike))) is.each

    pub leaves_either : (b : Disk) → MayMove root from to a b → Leaves (λ image. HasMixMailboxes formats root tree image ⊎ HasMixMailboxes formats root (renamed_tree tree from to) image) b
    leaves_either b may = record { each = λ image left. let before = may.each image left in either_mix image before.0 before.1 before.2 }

    module _ (b : Disk) (may : MayMove root from to a b) (ends : EndsMoved root from to a b) (none : NonePending b) where
      -- nothing stands at the old path any more
      old_gone : (image : Image) → moved_node source_path target_path image source_path ≡ nothing
      old_gone image = moved_gone image source_path (test_below root to from false apart.1) (under_test source_path source_path (record { rest = []; whole = sym (append-nil source_path); slash = inl refl }))

      all_moved : (image : Image) → MayLeave b image → (before : Image) × MayLeave a before × HasMoved root from to a before image
      all_moved image left =
          let before = may.each image left in
          (before.0, before.1, ⊎_elim (λ same. absurd (never before.0 before.1 (same source_path old_free))) (λ moved. record { each = moved }) before.2.each)
        where
          old_free : IsMadeAbove root to a source_path → ⊥
          old_free = not_made root to a source_path (stands_from root from to (seen a) can)

          never : (before : Image) → MayLeave a before → node_at image source_path ≡ node_at before source_path → ⊥
          never before was same = node_stood (node_at (seen a) source_path) (stands_from root from to (seen a) can)
              (nothing_settled a alike.none_pending before was source_path (sym same ∙ settled_nothing b none image left source_path (ends.each source_path old_free ∙ old_gone (seen a))))

      -- what comes to a path is alike where it was alike at the path that it comes from
      own_moved : (p source : List ℕ) → IsFrom p source → (o : Option Meaning) → ((meaning : Meaning) → o ≡ Some meaning → IsMadeAbove root to a (child root p) → ⊥) → IsMixAlike (child root source) a o → IsMixAlike (child root p) b o
      own_moved p source f None free was = record {
        each = λ image left.
            let before = all_moved image left in
            ap bytes_of (before.2.each (mark_of (child root p)) (special_free p (codes ".mixmeta") meta_plain refl) ∙ f.inside (codes ".mixmeta") meta_plain refl before.0) ∙ was.each before.0 before.1;
      }
      own_moved p source f (Some meaning) free was = record { each = λ image left q own. at image (all_moved image left) q own }
        where
          at : (image : Image) → (before : Image) × MayLeave a before × HasMoved root from to a before image → (q : List ℕ) → IsOwn Mix (child root p) q → node_at image q ≡ node_at (seen b) q
          at image before q (inl here) =
              ap (node_at image) here ∙ before.2.each (child root p) (free meaning refl) ∙ f.here before.0 ∙ was.each before.0 before.1 (child root source) (inl refl)
              ∙ sym (f.here (seen a)) ∙ sym (ends.each (child root p) (free meaning refl)) ∙ sym (ap (node_at (seen b)) here)
          at image before q (inr n) =
              let no_part = own_no_part n.name n.is_kind in
              ap (node_at image) n.whole ∙ before.2.each (child (child root p) n.name) (special_free p n.name n.plain no_part) ∙ f.inside n.name n.plain no_part before.0
              ∙ was.each before.0 before.1 (child (child root source) n.name) (inr (record { name = n.name; whole = refl; plain = n.plain; is_kind = n.is_kind }))
              ∙ sym (f.inside n.name n.plain no_part (seen a)) ∙ sym (ends.each (child (child root p) n.name) (special_free p n.name n.plain no_part)) ∙ sym (ap (node_at (seen b)) n.whole)

      left_nowhere : (p : List ℕ) → IsLeft p → IsMixAlike (child root p) b None
      left_nowhere p l = record {
        each = λ image left.
            let before = all_moved image left in
            ap bytes_of (before.2.each (mark_of (child root p)) (special_free p (codes ".mixmeta") meta_plain refl) ∙ l.gone before.0);
      }

      alike_at : (p : List ℕ) → is_path p ≡ true → IsMixAlike (child root p) b (mix_of (get (renamed_tree tree from to).nodes p))
      alike_at p is = ⊎_elim
          (λ (f : (source : List ℕ) × IsFrom p source). subst (IsMixAlike (child root p) b) (sym f.1.mix) (own_moved p f.0 f.1 (mix_of (get tree.nodes f.0)) f.1.free (alike.alike f.0 f.1.is)))
          (λ (l : IsLeft p). subst (IsMixAlike (child root p) b) (sym l.mix) (left_nowhere p l)) (place p is)

      pub alike_moved : IsTreeAlike formats root (renamed_tree tree from to) b
      alike_moved = record { none_pending = none; seen_has = moves_mix (seen b) (seen a) ends alike.seen_has; alike = alike_at }

-- ---- On histories

module _ (formats : Formats) (laws : AreFormats formats) (root from to : List ℕ) (is_from : IsName from) (is_to : IsName to) (result : Result (Unit {0}) TreeFault) (old new : History) (can : Now old (λ w. CanRename root from to (seen w.disk))) where
  abbrev IsBefore : Tree → Disk → Type 0
  IsBefore tree a = CanRename root from to (seen a) × (HasTree formats root (seen a) tree × IsTreeAlike formats root tree a)

  start : (tree : Tree) → Now old (λ w. HasTree formats root (seen w.disk) tree × IsTreeAlike formats root tree w.disk) → Now old (λ w. IsBefore tree w.disk)
  start tree now = now_both (λ w. CanRename root from to (seen w.disk)) (λ w. HasTree formats root (seen w.disk) tree × IsTreeAlike formats root tree w.disk) old can now

  pub commits_renamed : Ran (MayMove root from to) old new → OnOk result (Ended (EndsMoved root from to) old new) → OnOk result (Now new (λ w. NonePending w.disk)) → CommitsTree formats root (λ tree. renamed_tree tree from to) result old new
  commits_renamed may ends none = record {
    instants = λ tree now. ran_from (IsBefore tree) (MayMove root from to) (Leaves (λ image. HasMixMailboxes formats root tree image ⊎ HasMixMailboxes formats root (renamed_tree tree from to) image))
        (λ a b p r. leaves_either formats laws root from to is_from is_to a p.0 tree p.1.0 p.1.1 b r) old new (start tree now) may;
    durable = λ tree now. at result ends none tree (start tree now);
  }
    where
      at : (r : Result (Unit {0}) TreeFault) → OnOk r (Ended (EndsMoved root from to) old new) → OnOk r (Now new (λ w. NonePending w.disk)) → (tree : Tree) → Now old (λ w. IsBefore tree w.disk)
          → OnOk r (Now new (λ w. IsTreeAlike formats root (renamed_tree tree from to) w.disk))
      at (Err fault) ends none tree now = tt
      at (Ok u) ends none tree now =
          ended_reaches (IsBefore tree) (IsTreeAlike formats root (renamed_tree tree from to)) (λ a b. (MayMove root from to a b × EndsMoved root from to a b) × NonePending b)
          (λ a b p r. alike_moved formats laws root from to is_from is_to a p.0 tree p.1.0 p.1.1 b r.0.0 r.0.1 r.1) old new now
          (ended_with (λ a b. MayMove root from to a b × EndsMoved root from to a b) NonePending old new
          (ended_ran (MayMove root from to) (EndsMoved root from to) (λ a. record { each = λ image left. (image, left, record { each = inl (λ q free. refl) }) }) old new may ends) none)
