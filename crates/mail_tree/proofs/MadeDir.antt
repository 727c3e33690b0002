-- What the making of a directory leaves alone, and its crash half.
use Rattle.std.proofs.Common.{◌≡◌, ◌≢◌, ◌⊎◌, inl, inr, ⊎_elim, ℕ, Bool, true, false, cond, ◌||◌, List, [], ◌∷◌, Option, Some, None, Result, Ok, Err, OnOk, IsErr, refl, sym, ◌∙◌, ap}
use Rattle.std.specs.Prelude.{IsErrOf, is_some, codes, bytes_eq}
use Rattle.std.specs.FinMap.{get, insert}
use Rattle.std.proofs.lemmas.Bool.{false≢true, and_parts, or_parts}
use Rattle.std.proofs.lemmas.Slice.Eq.{bytes_eq-Decides}
use Rattle.file_model.specs.Disk.{Disk, seen}
use Rattle.file_model.specs.Histories.{History, Now, Ran, Ended}
use Rattle.file_model.specs.Images.{nothing, file, node_at, is_directory, directory_test}
use Rattle.file_model.specs.Kept.{NonePending, IsSound}
use Rattle.file_model.specs.Paths.{child}
use Rattle.file_model.specs.Reserved.{is_leftover, is_reserved_name}
use Rattle.file_model.proofs.Names.{cases_path}
use Rattle.file_model.proofs.Runs.{ran_then, ran_weaker}
use Rattle.mail_types.specs.declared.driver.Driver.TheVariants.{Mix}
use Rattle.store_trait.specs.Commits.{mark_of}
use Rattle.store_trait.specs.OwnPaths.{IsNoPath, IsOwn, is_mailbox_name}
use Rattle.store_trait.specs.Touching.{AgreesBut, KeepsBut, SeesBut}
use Rattle.store_trait.proofs.Touched.{IsBut, but_wider, keeps_but_none, keeps_but_then}
use Rattle.any_store.specs.Choice.{Formats}
use Rattle.mail_tree.specs.declared.fault.TreeFault.{TreeFault}
use Rattle.mail_tree.specs.declared.fault.TreeFault.TheVariants.{Failed}
use Rattle.mail_tree.specs.Agreement.{mix_of}
use Rattle.mail_tree.specs.Changes.{empty_directory, put_missing, with_parents, tree_with_directory}
use Rattle.mail_tree.specs.Making.{MakesAt, MakesAbove, SeesAbove, MadeDirectory, IsFreeName}
use Rattle.mail_tree.specs.Names.{is_part, is_path, prefixes, IsName}
use Rattle.mail_tree.specs.Promises.{IsMadeAbove, IsMadeAt, LeavesBut, CommitsTree}
use Rattle.mail_tree.specs.Trees.{Meaning, TreeNode, unknown_file, file_mailbox, folder, Nodes, Tree, HasTree, IsNodeOf, is_message}
use Rattle.mail_tree.proofs.Below.{special_apart}
use Rattle.mail_tree.proofs.Beside.{IsMixApart, TouchesNone, SameMix, commits_beside}
use Rattle.mail_tree.proofs.Creating.{name_path, stands_none}
use Rattle.mail_tree.proofs.ReservedNames.{part_free}
use Rattle.mail_tree.proofs.Joined.{ended_two}
use Rattle.mail_tree.proofs.Nodes.{AreFormats, meta_plain}
use Rattle.mail_tree.proofs.PathParts.{path_child}
use Rattle.mail_tree.proofs.Made.{get_put_same, get_put_other}

-- ---- What it leaves alone

abbrev MakesBoth : (root name : List ℕ) → Disk → Disk → Type 0
MakesBoth root name a c = KeepsBut IsNoPath (IsMadeAt root name a) a c

wider_above : (root name : List ℕ) (s a b : Disk) → KeepsBut IsNoPath (IsMadeAbove root name s) a b → KeepsBut IsNoPath (IsMadeAt root name s) a b
wider_above root name s a b r = but_wider IsNoPath (IsMadeAbove root name s) IsNoPath (IsMadeAt root name s) (λ q never. never) (λ q m. inr m) a b r

seen_both : (root name : List ℕ) (a b c : Disk) → SeesAbove root name a b → MadeDirectory (child root name) (seen b) (seen c) → SeesBut IsNoPath (IsMadeAt root name a) a c
seen_both root name a b c one made = record { each = λ q. at q (cases_path q (child root name)) (one.each q) }
  where
    at : (q : List ℕ) → (q ≡ child root name) ⊎ (q ≢ child root name) → AgreesBut IsNoPath (IsMadeAbove root name a) q (seen b) (seen a) → AgreesBut IsNoPath (IsMadeAt root name a) q (seen c) (seen a)
    at q (inl is) was = inr (inr (inl is))
    at q (inr apart) (inl same) = inl (made.rest q apart ∙ same)
    at q (inr apart) (inr (inl may)) = absurd may.0
    at q (inr apart) (inr (inr m)) = inr (inr (inr m))

pub any_now : (h : History) → Now h (λ w. Unit {0})
any_now [] = tt
any_now (x ∷ h) = tt

pub leaves_made : (root name : List ℕ) (result : Result (Unit {0}) TreeFault) (old mid new : History) → (IsErr result → IsErrOf result Failed) → Ran (MakesAbove root name) old mid → Ran (MakesAt (child root name)) mid new
    → Ended (SeesAbove root name) old mid → OnOk result (Ended (λ a b. MadeDirectory (child root name) (seen a) (seen b)) mid new) → LeavesBut IsNoPath (IsMadeAt root name) result old new
leaves_made root name result old mid new failed one two sees made = record {
  instants = λ none. ran_then {R = MakesAbove root name} {S = MakesAt (child root name)} {T = MakesBoth root name} (λ a. keeps_but_none IsNoPath (IsMadeAbove root name a) a) (λ a b r. wider_above root name a a b r)
      (λ a b c r s. keeps_but_then IsNoPath (IsMadeAt root name a) a b c (wider_above root name a a b r)
      (but_wider IsNoPath (λ q. q ≡ child root name) IsNoPath (IsMadeAt root name a) (λ q never. never) (λ q is. inl is) b c s)) old mid new one two;
  sees = at result failed made;
}
  where
    at : (r : Result (Unit {0}) TreeFault) → (IsErr r → IsErrOf r Failed) → OnOk r (Ended (λ a b. MadeDirectory (child root name) (seen a) (seen b)) mid new) → (IsErrOf r Failed → ⊥) → Ended (λ a b. SeesBut IsNoPath (IsMadeAt root name a) a b) old new
    at (Err fault) fails was not_failed = absurd (not_failed (fails refl))
    at (Ok u) fails was not_failed = ended_two (λ a. Unit {0}) (λ b. Unit {0}) (SeesAbove root name) (λ a b. MadeDirectory (child root name) (seen a) (seen b)) (λ a b. SeesBut IsNoPath (IsMadeAt root name a) a b)
        (λ a b c p q r s. seen_both root name a b c r s) old mid new (any_now old) (any_now mid) sees was

-- where already the directories above couldn't be made
pub leaves_above : (root name : List ℕ) (result : Result (Unit {0}) TreeFault) (old new : History) → IsErrOf result Failed → Ran (MakesAbove root name) old new → LeavesBut IsNoPath (IsMadeAt root name) result old new
leaves_above root name result old new failed one = record { instants = λ none. ran_weaker (λ a b r. wider_above root name a a b r) old new one; sees = λ not_failed. absurd (not_failed failed) }

-- ---- It touches no mix mailbox

-- a new directory is at a path of names where nothing was seen
made_path : (root name : List ℕ) (is : is_path name ≡ true) (a : Disk) → node_at (seen a) (child root name) ≡ nothing → (q : List ℕ) → IsMadeAt root name a q
    → (m : List ℕ) × ((is_path m ≡ true) × ((q ≡ child root m) × (node_at (seen a) q ≡ nothing)))
made_path root name is a none q (inl here) = (name, (is, (here, ap (node_at (seen a)) here ∙ none)))
made_path root name is a none q (inr m) = (m.front, ((and_parts (is_path m.front) (is_path m.rest) (sym (path_child m.front m.rest) ∙ ap is_path (sym m.above) ∙ is)).0, (m.whole, m.absent)))

-- the names of a mix mailbox's own files are no parts
no_leftover : (name : List ℕ) → is_reserved_name name ≡ false → is_leftover name ≡ false
unfolding is_reserved_name
no_leftover name free = (or_parts (is_leftover name) (bytes_eq name (codes ".mailboxlist")) free).0

no_mark : (name : List ℕ) → is_part name ≡ true → bytes_eq name (codes ".mixmeta") ≡ false
no_mark name is = at (bytes_eq name (codes ".mixmeta")) refl
  where
    at : (b : Bool) → bytes_eq name (codes ".mixmeta") ≡ b → b ≡ false
    at false same = refl
    at true same = absurd (false≢true (ap is_part (sym ((bytes_eq-Decides name (codes ".mixmeta")).0 same)) ∙ is))

pub own_no_part : (name : List ℕ) → (is_mailbox_name Mix name || is_leftover name) ≡ true → is_part name ≡ false
own_no_part name own = at (is_part name) refl
  where
    at : (b : Bool) → is_part name ≡ b → b ≡ false
    at false is = refl
    at true is = absurd (false≢true (sym (none_of (bytes_eq name (codes ".mixmeta")) (is_leftover name) (no_mark name is) (no_leftover name (part_free name is))) ∙ own))
      where
        none_of : (mark left : Bool) → mark ≡ false → left ≡ false → ((mark || left) || left) ≡ false
        none_of mark left one two = rw (one, two) refl

module _ (formats : Formats) (root name : List ℕ) (is : is_path name ≡ true) (a : Disk) (none : node_at (seen a) (child root name) ≡ nothing) where
  mark_apart : (path : List ℕ) → IsBut IsNoPath (IsMadeAt root name a) (mark_of (child root path))
  mark_apart path = ((λ never. never), (λ free. let m = made_path root name is a none (mark_of (child root path)) free in special_apart root path m.0 (codes ".mixmeta") m.1.0 meta_plain refl m.1.1.0))

  mix_apart : (path : List ℕ) → is_directory (seen a) (child root path) ≡ true → (o : Option Meaning) → IsMixApart IsNoPath (IsMadeAt root name a) (child root path) o
  mix_apart path stands None = mark_apart path
  mix_apart path stands (Some meaning) = λ q own. ((λ never. never), (λ free. at q own (made_path root name is a none q free)))
    where
      at : (q : List ℕ) → IsOwn Mix (child root path) q → (m : List ℕ) × ((is_path m ≡ true) × ((q ≡ child root m) × (node_at (seen a) q ≡ nothing))) → ⊥
      at q (inl here) m = false≢true (sym (ap directory_test (ap (node_at (seen a)) (sym here) ∙ m.1.1.1)) ∙ stands)
      at q (inr named) m = special_apart root path m.0 named.name m.1.0 named.plain (own_no_part named.name named.is_kind) (sym named.whole ∙ m.1.1.0)

  node_apart : (path : List ℕ) (message : Bool) (o : Option TreeNode) → IsNodeOf formats (child root path) (seen a) message o → IsMixApart IsNoPath (IsMadeAt root name a) (child root path) (mix_of o)
  node_apart path message None node = mark_apart path
  node_apart path message (Some unknown_file) node = mark_apart path
  node_apart path message (Some (file_mailbox driver meaning)) node = mark_apart path
  node_apart path message (Some (folder d)) node = mix_apart path node.stands d.mix

  touches_none : (tree : Tree) → HasTree formats root (seen a) tree → TouchesNone IsNoPath (IsMadeAt root name a) root tree
  touches_none tree has = record { each = λ path is_path. node_apart path (is_message root (seen a) path) (get tree.nodes path) (has.nodes path is_path).is }

  -- no node stands at the name
  pub no_node : (message : Bool) (o : Option TreeNode) → IsNodeOf formats (child root name) (seen a) message o → o ≡ None
  no_node message None node = refl
  no_node message (Some unknown_file) node = let e : file node.1.0 ≡ nothing = sym node.1.1 ∙ none in absurd (cc)
  no_node message (Some (file_mailbox driver meaning)) node = let e : file node.1.0 ≡ nothing = sym node.1.1 ∙ none in absurd (cc)
  no_node message (Some (folder d)) node = absurd (false≢true (sym (ap directory_test none) ∙ node.stands))

-- ---- The tree has the same mix mailboxes

with_empty : (nodes : Nodes) (p : List ℕ) → get nodes p ≡ None → (q : List ℕ) → mix_of (get (insert nodes p (folder empty_directory)) q) ≡ mix_of (get nodes q)
with_empty nodes p none q = ⊎_elim
    (λ here. ap (λ z. mix_of (get (insert nodes p (folder empty_directory)) z)) here ∙ ap mix_of (get_put_same nodes p (folder empty_directory)) ∙ sym (ap mix_of (ap (get nodes) here ∙ none)))
    (λ apart. ap mix_of (get_put_other nodes p (folder empty_directory) q apart)) (cases_path q p)

pub with_missing : (paths : List (List ℕ)) (nodes : Nodes) (q : List ℕ) → mix_of (get (put_missing paths nodes) q) ≡ mix_of (get nodes q)
with_missing [] nodes q = refl
with_missing (p ∷ rest) nodes q = with_missing rest (cond (is_some (get nodes p)) nodes (insert nodes p (folder empty_directory))) q ∙ at (get nodes p) refl
  where
    at : (o : Option TreeNode) → get nodes p ≡ o → mix_of (get (cond (is_some (get nodes p)) nodes (insert nodes p (folder empty_directory))) q) ≡ mix_of (get nodes q)
    at (Some n) here = ap (λ x. mix_of (get (cond (is_some x) nodes (insert nodes p (folder empty_directory))) q)) here
    at None here = ap (λ x. mix_of (get (cond (is_some x) nodes (insert nodes p (folder empty_directory))) q)) here ∙ with_empty nodes p here q

same_mix : (tree : Tree) (name : List ℕ) → get tree.nodes name ≡ None → SameMix tree (tree_with_directory tree name)
same_mix tree name none = record {
  each = λ q is. ⊎_elim
      (λ here. ap (λ z. mix_of (get (tree_with_directory tree name).nodes z)) here ∙ ap mix_of (get_put_same (with_parents name tree.nodes) name (folder empty_directory)) ∙ sym (ap mix_of (ap (get tree.nodes) here ∙ none)))
      (λ apart. ap mix_of (get_put_other (with_parents name tree.nodes) name (folder empty_directory) q apart) ∙ with_missing (prefixes name) tree.nodes q) (cases_path q name);
}

-- ---- The crash half

pub directory_commits : (formats : Formats) → AreFormats formats → (root name : List ℕ) → IsName name → (result : Result (Unit {0}) TreeFault) (old new : History) → Now old (λ w. IsFreeName root name w.disk) → Now new (λ w. IsSound w.disk)
    → LeavesBut IsNoPath (IsMadeAt root name) result old new → (Now old (λ w. NonePending w.disk) → OnOk result (Now new (λ w. NonePending w.disk)))
    → CommitsTree formats root (λ tree. tree_with_directory tree name) result old new
directory_commits formats laws root name is result old new known sound leaves pending =
    commits_beside formats laws root (λ tree. tree_with_directory tree name) result IsNoPath (IsMadeAt root name) (IsFreeName root name) old new known sound
    (λ tree a free has. touches_none formats root name (name_path name is) a (stands_none (seen a) (child root name) free.1) tree has)
    (λ tree a free has. on_ok result (same_mix tree name (no_node formats root name (name_path name is) a (stands_none (seen a) (child root name) free.1) (is_message root (seen a) name) (get tree.nodes name) (has.nodes name (name_path name is)).is)))
    leaves pending
  where
    on_ok : {T : Type 0} → {E : Type 0} → {P : Type 0} → (r : Result T E) → P → OnOk r P
    on_ok (Ok v) p = p
    on_ok (Err e) p = tt
