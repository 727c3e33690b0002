-- A directory is created by its name.
use Rattle.std.proofs.Common.{◌≡◌, inl, inr, ⊎_elim, ℕ, ◌≤◌, List, [], ◌∷◌, length, Bool, true, false, cond, not, ◌&&◌, ◌||◌, nat_le, Option, Some, None, refl, sym, ◌∙◌, ap, arith, length-append}
use Rattle.std.specs.Prelude.{is_some}
use Rattle.std.specs.FinMap.{get}
use Rattle.std.proofs.lemmas.Bool.{and_parts, or_left}
use Rattle.file_model.specs.Disk.{Disk, seen}
use Rattle.file_model.specs.Images.{Image, Node, nothing, file, directory, node_at}
use Rattle.file_model.specs.Kept.{IsSound}
use Rattle.file_model.specs.Histories.{History, Now}
use Rattle.file_model.specs.Kinds.{CanMakeDirectory}
use Rattle.file_model.specs.Paths.{child, split_path, back_of, last_part}
use Rattle.file_model.specs.Reserved.{is_reserved_name}
use Rattle.file_model.proofs.Inside.{not_both}
use Rattle.any_store.specs.Choice.{Formats}
use Rattle.mail_tree.specs.declared.fault.TreeFault.TheVariants.{There}
use Rattle.mail_tree.specs.Changes.{due_create_dir, tree_with_directory}
use Rattle.mail_tree.specs.Making.{MadeDirectory, MakesParents, IsNameSeen}
use Rattle.mail_tree.specs.Names.{is_path, begins_badly, IsName}
use Rattle.mail_tree.specs.Promises.{IsMadeAbove}
use Rattle.mail_tree.specs.Sights.{is_standing, stands_at, is_blocked_at}
use Rattle.mail_tree.specs.Trees.{TreeNode, unknown_file, file_mailbox, folder, Tree, HasTree, is_blocked, is_message, IsNodeOf}
use Rattle.mail_tree.proofs.Above.{below_no_top, never_whole, split_at, split_below}
use Rattle.mail_tree.specs.Sights.{IsAbove}
use Rattle.mail_tree.proofs.PathParts.{path_child, path_name}
use Rattle.mail_tree.proofs.Below.{IsRooted, rooted_seen, one_below, child_below}
use Rattle.mail_tree.proofs.Made.{tree_made}
use Rattle.mail_tree.proofs.ReservedNames.{part_free}
use Rattle.mail_tree.proofs.Nodes.{AreFormats}
use Rattle.mail_tree.proofs.Sighted.{blocked_same, no_message, directory_of}

pub name_path : (name : List ℕ) → IsName name → is_path name ≡ true
name_path name is = (and_parts (not (begins_badly name) && nat_le (length name) 255) (is_path name) is.may_be).1

standing_none : (n : Node) → is_standing n ≡ false → n ≡ nothing
standing_none nothing is = refl
standing_none (file bytes) is = absurd (cc)
standing_none directory is = absurd (cc)

pub stands_none : (image : Image) (path : List ℕ) → stands_at image path ≡ false → node_at image path ≡ nothing
stands_none image path is = standing_none (node_at image path) is

module _ (formats : Formats) (root name : List ℕ) (is : IsName name) (image : Image) (rooted : IsRooted image) (tree : Tree) (has : HasTree formats root image tree) where
  pub free_tree : is_blocked_at root image name ≡ false → is_blocked tree.nodes name ≡ false
  free_tree free = blocked_same formats root image tree has rooted name (name_path name is) ∙ free

  -- a node stands where something does
  some_node : is_blocked_at root image name ≡ false → is_some (get tree.nodes name) ≡ stands_at image (child root name)
  some_node free = at (get tree.nodes name) (has.nodes name (name_path name is)).is
    where
      at : (o : Option TreeNode) → IsNodeOf formats (child root name) image (is_message root image name) o → is_some o ≡ stands_at image (child root name)
      at None (inl none) = sym (ap is_standing none)
      at None (inr message) = absurd (not_both (is_message root image name) message (no_message formats root image tree has rooted name (name_path name is) (free_tree free)))
      at (Some unknown_file) node = sym (ap is_standing node.1.1)
      at (Some (file_mailbox driver meaning)) node = sym (ap is_standing node.1.1)
      at (Some (folder d)) node = sym (ap is_standing (directory_of (node_at image (child root name)) node.stands))

  pub due_blocked : is_blocked_at root image name ≡ true → due_create_dir tree name ≡ Some There
  due_blocked blocked = ap (λ b. cond b (Some There) None) (or_left (is_blocked tree.nodes name) (is_some (get tree.nodes name)) (blocked_same formats root image tree has rooted name (name_path name is) ∙ blocked))

  pub due_there : is_blocked_at root image name ≡ false → stands_at image (child root name) ≡ true → due_create_dir tree name ≡ Some There
  due_there free there = (λ i. cond (free_tree free i || (some_node free ∙ there) i) (Some There) None)

  pub due_free : is_blocked_at root image name ≡ false → stands_at image (child root name) ≡ false → due_create_dir tree name ≡ None
  due_free free none = (λ i. cond (free_tree free i || (some_node free ∙ none) i) (Some There) None)

-- the tree once the directory was made
pub directory_tree : (formats : Formats) → AreFormats formats → (root name : List ℕ) → IsName name → (start mid end : Disk) → IsSound start → IsSound mid → is_blocked_at root (seen start) name ≡ false
    → MakesParents formats root name start mid → MadeDirectory (child root name) (seen mid) (seen end) → (tree : Tree) → HasTree formats root (seen start) tree → HasTree formats root (seen end) (tree_with_directory tree name)
directory_tree formats laws root name is start mid end sound sound_mid free parents made tree has =
    let open_now = free_tree formats root name is (seen start) (rooted_seen start sound) tree has free in
    tree_made formats laws root name (name_path name is) (seen mid) (seen end) (rooted_seen mid sound_mid) made _ (parents.tree tree has open_now) (parents.seen_now tree has open_now)

-- a name isn't above itself
not_above : (root name : List ℕ) (start : Disk) → IsMadeAbove root name start (child root name) → ⊥
not_above root name start m = absurd (omega (arith, ap length m.above, length-append m.front (47 ∷ m.rest), ap length (one_below root name m.front m.whole)))

-- the last part of a name is no reserved name
pub last_free : (root name : List ℕ) → is_path name ≡ true → is_reserved_name (last_part (child root name)) ≡ false
last_free root name is = at (split_path (child root name)) refl
  where
    at : (s : Option (List ℕ × List ℕ)) → split_path (child root name) ≡ s → is_reserved_name (last_part (child root name)) ≡ false
    at None e = absurd (never_whole root name e)
    at (Some p) e =
        let w = split_at (child root name) p e in
        ap (λ s. is_reserved_name (back_of (child root name) s)) e ∙ part_free p.1 (⊎_elim
        (λ here. sym (path_name p.1 w.plain) ∙ ap is_path (sym here.1) ∙ is)
        (λ (a : IsAbove root name p.0). sym (path_name p.1 w.plain) ∙ (and_parts (is_path a.front) (is_path p.1) (sym (path_child a.front p.1) ∙ ap is_path (sym (same_tail a w.whole)) ∙ is)).1)
        (split_below root name p.0 p.1 w.whole w.plain))
      where
        same_tail : (a : IsAbove root name p.0) → child root name ≡ child p.0 p.1 → name ≡ child a.front p.1
        same_tail a whole = one_below root name (child a.front p.1) (whole ∙ ap (λ d. child d p.1) a.is ∙ child_below root a.front p.1)

pub can_make : (formats : Formats) (root name : List ℕ) → IsName name → 1 ≤ length root → (start mid : Disk) → stands_at (seen start) (child root name) ≡ false → MakesParents formats root name start mid → CanMakeDirectory (seen mid) (child root name)
can_make formats root name is some start mid none parents = record {
  free = record {
    nothing_there = parents.rest (child root name) (not_above root name start) ∙ stands_none (seen start) (child root name) none;
    room = parents.room;
    below = below_no_top root name some;
  };
  name = last_free root name (name_path name is);
}

pub free_known : (root name : List ℕ) (blocked there is : Bool) → blocked ≡ false → there ≡ is → (old : History) → Now old (λ w. blocked ≡ is_blocked_at root (seen w.disk) name) → Now old (λ w. there ≡ stands_at (seen w.disk) (child root name))
    → Now old (λ w. IsSound w.disk) → Now old (λ w. IsNameSeen is root name w.disk)
free_known root name blocked there is free known [] one two sound = tt
free_known root name blocked there is free known (w ∷ past) one two sound = (sym one ∙ free, sym two ∙ known, sound)
