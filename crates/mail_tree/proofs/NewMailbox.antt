-- A mailbox of one file is made by its name.
use Rattle.std.proofs.Common.{◌≡◌, inl, inr, ⊎_elim, ℕ, ◌≤◌, length, List, [], ◌∷◌, Bool, true, false, cond, not, ◌&&◌, ◌||◌, Some, None, Result, Ok, Err, OnOk, refl, sym, ◌∙◌, ap, subst}
use Rattle.std.specs.Prelude.{IsErrOf, is_some}
use Rattle.std.specs.FinMap.{get, insert}
use Rattle.std.proofs.lemmas.Bool.{false≢true}
use Rattle.file_model.specs.Disk.{Disk, seen}
use Rattle.file_model.specs.Histories.{History, Now, Ran, Ended}
use Rattle.file_model.specs.Kept.{NonePending, IsSound}
use Rattle.file_model.specs.Paths.{child}
use Rattle.file_model.proofs.Runs.{ran_then, ran_weaker, now_weaker}
use Rattle.mail_types.specs.declared.driver.Driver.{Driver}
use Rattle.mail_types.specs.declared.driver.Driver.TheVariants.{Unix, Mmdf, Mbx, Mtx, Tenex, Mh, Mix}
use Rattle.mail_types.specs.Stored.{created_contents}
use Rattle.store_trait.specs.declared.faults.StoreFault.{StoreFault}
use Rattle.store_trait.specs.declared.faults.StoreFault.TheVariants.{Failed as StoreFailed, Memory, NoUid, TooMany, TooLarge, Broken}
use Rattle.store_trait.specs.Answers.{breaks}
use Rattle.store_trait.specs.Forms.{grammar_of}
use Rattle.store_trait.specs.Meaning.{Means, IsFreeFor}
use Rattle.store_trait.specs.OwnPaths.{is_directory_driver, MayClear, IsHomeOf, IsNoPath}
use Rattle.store_trait.specs.Promises.{LeavesAlone}
use Rattle.store_trait.specs.Touching.{KeepsBut, SeesBut}
use Rattle.store_trait.proofs.Touched.{but_wider, sees_wider, keeps_but_none, keeps_but_then, sees_but_then}
use Rattle.any_store.specs.Choice.{Formats, reopened_driver}
use Rattle.any_store.proofs.Reopened.{created_as}
use Rattle.mail_tree.specs.declared.fault.TreeFault.{TreeFault}
use Rattle.mail_tree.specs.declared.fault.TreeFault.TheVariants.{There, Failed}
use Rattle.mail_tree.specs.Agreement.{mix_of}
use Rattle.mail_tree.specs.Changes.{due_create, due_create_dir, created_node, created_tree, with_nodes, with_parents, is_free_node, breaks_tree}
use Rattle.mail_tree.specs.Making.{MakesAbove, SeesAbove, MakesParents, IsReady, IsFreeName}
use Rattle.mail_tree.specs.Names.{prefixes, IsName}
use Rattle.mail_tree.specs.Promises.{CommitsTree, IsMadeAbove, IsMadeFor, LeavesBut, HasRoot}
use Rattle.mail_tree.specs.Sights.{broken_fault}
use Rattle.mail_tree.specs.Trees.{Tree, HasTree, file_mailbox, is_blocked, is_message}
use Rattle.mail_tree.proofs.Below.{rooted_seen}
use Rattle.mail_tree.proofs.Beside.{TouchesNone, SameMix, commits_beside}
use Rattle.mail_tree.proofs.Creating.{name_path, stands_none, can_make, due_free, free_tree}
use Rattle.mail_tree.proofs.Joined.{ended_two, ended_gives, ended_known}
use Rattle.mail_tree.proofs.MadeDir.{any_now, no_node, with_missing}
use Rattle.mail_tree.proofs.Nodes.{AreFormats}
use Rattle.mail_tree.proofs.OneFile.{may_clear, no_home, changes_but, tree_stored, touches_file, same_stored}

-- ---- What is due

-- no directory is made a mailbox by a driver of one file
pub same_due : (tree : Tree) (name : List ℕ) (driver : Driver) → is_directory_driver driver ≡ false → due_create tree name driver ≡ due_create_dir tree name
same_due tree name driver one =
    ap (λ d. cond (is_blocked tree.nodes name || (is_some (get tree.nodes name) && not (d && is_free_node tree.nodes name (get tree.nodes name)))) (Some There) None) one
    ∙ ap (λ b. cond (is_blocked tree.nodes name || b) (Some There) None) (and_true (is_some (get tree.nodes name)))
  where
    and_true : (b : Bool) → (b && true) ≡ b
    and_true true = refl
    and_true false = refl

file_node : (driver : Driver) (fresh : ℕ) → is_directory_driver driver ≡ false → created_node driver fresh ≡ file_mailbox (reopened_driver driver) (Ok (created_contents driver fresh))
file_node Unix fresh one = refl
file_node Mmdf fresh one = refl
file_node Mbx fresh one = refl
file_node Mtx fresh one = refl
file_node Tenex fresh one = refl
file_node Mh fresh one = absurd (false≢true (sym one))
file_node Mix fresh one = absurd (false≢true (sym one))

-- ---- Before its making

-- the directories above a free name can be made
pub free_ready : (root name : List ℕ) (old : History) → HasRoot root old → Now old (λ w. IsFreeName root name w.disk) → Now old (λ w. IsReady root name (seen w.disk))
free_ready root name [] stands known = tt
free_ready root name (w ∷ past) stands known = record { stands = stands; free = known.0 }

module _ (formats : Formats) (root name : List ℕ) (is : IsName name) (some : 1 ≤ length root) (driver : Driver) where
  -- nothing stands at the path, in a directory
  pub free_for : (old mid : History) → Now old (λ w. IsFreeName root name w.disk) → Ended (MakesParents formats root name) old mid → Now mid (λ w. IsFreeFor driver (child root name) (seen w.disk))
  free_for old mid known parents =
      ended_gives (IsFreeName root name) (λ d. IsFreeFor driver (child root name) (seen d)) (MakesParents formats root name)
      (λ a b now p. let can = can_make formats root name is some a b now.1 p in (can.free.room, inl can.free.nothing_there)) old mid known parents

-- ---- What it leaves alone

module _ (root name : List ℕ) (driver : Driver) where
  abbrev place : List ℕ
  place = child root name

  abbrev MakesFor : Disk → Disk → Type 0
  MakesFor a c = KeepsBut (MayClear driver place) (IsMadeFor driver root name a) a c

  above_for : (s a b : Disk) → KeepsBut IsNoPath (IsMadeAbove root name s) a b → KeepsBut (MayClear driver place) (IsMadeFor driver root name s) a b
  above_for s a b r = but_wider IsNoPath (IsMadeAbove root name s) (MayClear driver place) (IsMadeFor driver root name s) (λ q never. absurd never) (λ q m. inr m) a b r

  home_for : (s a b : Disk) → KeepsBut (MayClear driver place) (IsHomeOf driver place) a b → KeepsBut (MayClear driver place) (IsMadeFor driver root name s) a b
  home_for s a b r = but_wider (MayClear driver place) (IsHomeOf driver place) (MayClear driver place) (IsMadeFor driver root name s) (λ q may. may) (λ q home. inl home) a b r

  sees_for : (a b c : Disk) → SeesAbove root name a b → SeesBut (MayClear driver place) (IsHomeOf driver place) b c → SeesBut (MayClear driver place) (IsMadeFor driver root name a) a c
  sees_for a b c one two = sees_but_then (MayClear driver place) (IsMadeFor driver root name a) a b c
      (sees_wider IsNoPath (IsMadeAbove root name a) (MayClear driver place) (IsMadeFor driver root name a) (λ q never. absurd never) (λ q m. inr m) a b one)
      (sees_wider (MayClear driver place) (IsHomeOf driver place) (MayClear driver place) (IsMadeFor driver root name a) (λ q may. may) (λ q home. inl home) b c two)

  module _ {T U : Type 0} (given : Result T StoreFault) (result : Result U TreeFault) (failed : IsErrOf given StoreFailed → IsErrOf result Failed) (old mid new : History)
      (one : Ran (MakesAbove root name) old mid) (sees : Ended (SeesAbove root name) old mid) (pending : Now old (λ w. NonePending w.disk) → Now mid (λ w. NonePending w.disk))
      (leaves : LeavesAlone (MayClear driver place) (IsHomeOf driver place) given mid new) where
    pub leaves_new : LeavesBut (MayClear driver place) (IsMadeFor driver root name) result old new
    leaves_new = record {
      instants = λ none. ran_then {R = MakesAbove root name} {S = KeepsBut (MayClear driver place) (IsHomeOf driver place)} {T = MakesFor}
          (λ a. keeps_but_none IsNoPath (IsMadeAbove root name a) a) (λ a b r. above_for a a b r)
          (λ a b c r s. keeps_but_then (MayClear driver place) (IsMadeFor driver root name a) a b c (above_for a a b r) (home_for a b c s)) old mid new one (leaves.instants (pending none));
      sees = λ not_failed. ended_two (λ a. Unit {0}) (λ b. Unit {0}) (SeesAbove root name) (SeesBut (MayClear driver place) (IsHomeOf driver place)) (λ a b. SeesBut (MayClear driver place) (IsMadeFor driver root name a) a b)
          (λ a b c p q r s. sees_for a b c r s) old mid new (any_now old) (any_now mid) sees (leaves.sees (λ fails. not_failed (failed fails)));
    }

  -- where already the directories above couldn't be made
  pub leaves_new_above : {U : Type 0} (result : Result U TreeFault) (old new : History) → IsErrOf result Failed → Ran (MakesAbove root name) old new → LeavesBut (MayClear driver place) (IsMadeFor driver root name) result old new
  leaves_new_above result old new failed one = record { instants = λ none. ran_weaker (λ a b r. above_for a a b r) old new one; sees = λ not_failed. absurd (not_failed failed) }

-- ---- The tree

module _ (formats : Formats) (laws : AreFormats formats) (root name : List ℕ) (is : IsName name) (driver : Driver) (one : is_directory_driver driver ≡ false) (fresh : ℕ) where
  -- the mailbox means nothing but what is written of a new one
  abbrev IsNew : Disk → Type 0
  IsNew d = Means (grammar_of formats.forms driver (child root name)) driver (child root name) (seen d) (Ok (created_contents driver fresh))

  new_tree : (start mid end : Disk) → IsFreeName root name start → IsSound mid → MakesParents formats root name start mid → SeesBut (MayClear driver (child root name)) (IsHomeOf driver (child root name)) mid end → IsNew end
      → (tree : Tree) → HasTree formats root (seen start) tree → HasTree formats root (seen end) (created_tree tree name driver fresh)
  new_tree start mid end free sound parents sees means tree has =
      let open_now = free_tree formats root name is (seen start) (rooted_seen start free.2) tree has free.0 in
      subst (λ node. HasTree formats root (seen end) (with_nodes (insert (with_parents name tree.nodes) name node) tree)) (sym (file_node driver fresh one))
      (tree_stored formats laws root name (name_path name is) (seen mid) (seen end) (rooted_seen mid sound)
      (changes_but (MayClear driver (child root name)) (IsHomeOf driver (child root name)) (child root name) mid end (λ q may. may_clear driver (child root name) q one may) (λ q home. no_home driver (child root name) q one home) sees)
      (with_nodes (with_parents name tree.nodes) tree) (parents.tree tree has open_now) (parents.seen_now tree has open_now) (reopened_driver driver) (Ok (created_contents driver fresh))
      (created_as formats laws.choice driver (child root name) (seen end) fresh one means))

  pub done_new : (old mid new : History) → Now old (λ w. IsFreeName root name w.disk) → Now mid (λ w. IsSound w.disk) → Ended (MakesParents formats root name) old mid
      → Ended (SeesBut (MayClear driver (child root name)) (IsHomeOf driver (child root name))) mid new → Now new (λ w. IsNew w.disk)
      → Ended (λ start end. (tree : Tree) → HasTree formats root (seen start) tree → HasTree formats root (seen end) (created_tree tree name driver fresh)) old new
  done_new old mid new known sound parents sees means =
      ended_two (IsFreeName root name) IsSound (MakesParents formats root name) (λ b c. SeesBut (MayClear driver (child root name)) (IsHomeOf driver (child root name)) b c × IsNew c)
      (λ a c. (tree : Tree) → HasTree formats root (seen a) tree → HasTree formats root (seen c) (created_tree tree name driver fresh))
      (λ a b c free sound_mid p s tree has. new_tree a b c free sound_mid p s.0 s.1 tree has) old mid new known sound parents
      (ended_known (λ b. Unit {0}) IsNew (SeesBut (MayClear driver (child root name)) (IsHomeOf driver (child root name))) (λ b c. SeesBut (MayClear driver (child root name)) (IsHomeOf driver (child root name)) b c × IsNew c)
      (λ b c u m s. (s, m)) mid new (any_now mid) means sees)

  -- ---- The crash half

  module _ (tree : Tree) (a : Disk) (free : IsFreeName root name a) (has : HasTree formats root (seen a) tree) where
    none_there : get tree.nodes name ≡ None
    none_there = no_node formats root name (name_path name is) a (stands_none (seen a) (child root name) free.1) (is_message root (seen a) name) (get tree.nodes name) (has.nodes name (name_path name is)).is

    touches_none_new : TouchesNone (MayClear driver (child root name)) (IsMadeFor driver root name a) root tree
    touches_none_new = touches_file formats root name (name_path name is) a tree has (free_tree formats root name is (seen a) (rooted_seen a free.2) tree has free.0) (ap mix_of none_there)
        (MayClear driver (child root name)) (IsMadeFor driver root name a) (λ q may. may_clear driver (child root name) q one may) (λ q mine. ⊎_elim (λ home. absurd (no_home driver (child root name) q one home)) (λ above. above) mine)

    same_mix_new : SameMix tree (created_tree tree name driver fresh)
    same_mix_new = subst (λ node. SameMix tree (with_nodes (insert (with_parents name tree.nodes) name node) tree)) (sym (file_node driver fresh one))
        (same_stored tree name (with_parents name tree.nodes) (ap mix_of none_there) (λ q. with_missing (prefixes name) tree.nodes q) (reopened_driver driver) (Ok (created_contents driver fresh)))

  pub new_commits : {T : Type 0} (result : Result T TreeFault) (old new : History) → Now old (λ w. IsFreeName root name w.disk) → Now new (λ w. IsSound w.disk)
      → LeavesBut (MayClear driver (child root name)) (IsMadeFor driver root name) result old new → (Now old (λ w. NonePending w.disk) → OnOk result (Now new (λ w. NonePending w.disk)))
      → CommitsTree formats root (λ tree. created_tree tree name driver fresh) result old new
  new_commits result old new known sound leaves pending =
      commits_beside formats laws root (λ tree. created_tree tree name driver fresh) result (MayClear driver (child root name)) (IsMadeFor driver root name) (IsFreeName root name) old new known sound
      (λ tree a free has. touches_none_new tree a free has) (λ tree a free has. on_ok result (same_mix_new tree a free has)) leaves pending
    where
      on_ok : {T E P : Type 0} → (r : Result T E) → P → OnOk r P
      on_ok (Ok v) p = p
      on_ok (Err e) p = tt

-- ---- Answers

-- nothing is due where the name is free
pub new_due : (formats : Formats) (root name : List ℕ) → IsName name → (driver : Driver) → is_directory_driver driver ≡ false → (old : History) → Now old (λ w. IsFreeName root name w.disk)
    → Now old (λ w. (tree : Tree) → HasTree formats root (seen w.disk) tree → due_create tree name driver ≡ None)
new_due formats root name is driver one old known =
    now_weaker (λ w. IsFreeName root name w.disk) (λ w. (tree : Tree) → HasTree formats root (seen w.disk) tree → due_create tree name driver ≡ None)
    (λ w free tree has. same_due tree name driver one ∙ due_free formats root name is (seen w.disk) (rooted_seen w.disk free.2) tree has free.0 free.1) old known

pub broken_breaks : (fault : StoreFault) → breaks fault ≡ true → breaks_tree (broken_fault fault) ≡ true
broken_breaks StoreFailed is = refl
broken_breaks Memory is = refl
broken_breaks NoUid is = absurd (false≢true is)
broken_breaks TooMany is = absurd (false≢true is)
broken_breaks (TooLarge limit) is = absurd (false≢true is)
broken_breaks Broken is = absurd (false≢true is)

pub broken_failed : {T U : Type 0} (fault : StoreFault) → IsErrOf {T = T} (Err fault) StoreFailed → IsErrOf {T = U} (Err (broken_fault fault)) Failed
broken_failed StoreFailed is = refl
broken_failed Memory is = absurd (cc)
broken_failed NoUid is = absurd (cc)
broken_failed TooMany is = absurd (cc)
broken_failed (TooLarge limit) is = absurd (cc)
broken_failed Broken is = absurd (cc)
