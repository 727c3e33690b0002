-- What the calls on the tree say, each as a record of facts.
-- `old` and `new` are the host's histories at a call's start and end.
use Rattle.std.specs.Prelude.{ℕ, Bool, true, false, List, ◌≡◌, ◌⊎◌, ◌||◌, map, ◌∷◌, ◌++◌, Option, Some, None, Result, Ok, Err, OnOk, IsErrOf}
use Rattle.file_model.specs.Causes.{Faults, Rose, OnlyFiles}
use Rattle.file_model.specs.Disk.{Disk, seen, MayLeave}
use Rattle.file_model.specs.Histories.{History, Now, Ran, Ended}
use Rattle.file_model.specs.Images.{Image, nothing, node_at, is_directory, text_at}
use Rattle.file_model.specs.Kept.{Keeps, Sees, NonePending, Leaves, IsBeside, moved_node}
use Rattle.file_model.specs.Paths.{child, temporary_of}
use Rattle.file_model.specs.Reserved.{is_leftover}
use Rattle.mail_types.specs.declared.driver.Driver.TheVariants.{Mh, Mix}
use Rattle.mail_tree.specs.declared.finding.Listed.{Listed}
use Rattle.mail_tree.specs.Listing.{ListedName}
use Rattle.mail_types.specs.declared.driver.Driver.{Driver}
use Rattle.store_trait.specs.declared.faults.OpenFault.{OpenFault}
use Rattle.store_trait.specs.declared.faults.OpenFault.TheVariants.{Absent as OpenAbsent, Failed as OpenFailed, Memory as OpenMemory}
use Rattle.store_trait.specs.OwnPaths.{IsNamed, IsHomeOf, is_mailbox_name}
use Rattle.store_trait.specs.Touching.{KeepsBut, SeesBut}
use Rattle.store_trait.specs.Promises.{RanOnFiles}
use Rattle.any_store.specs.Choice.{Formats}
use Rattle.mail_tree.specs.declared.fault.TreeFault.{TreeFault}
use Rattle.mail_tree.specs.declared.fault.TreeFault.TheVariants.{BadName, Absent, Open, Store, Failed, Memory}
use Rattle.mail_tree.specs.Agreement.{HasMixMailboxes, IsTreeAlike}
use Rattle.mail_tree.specs.Changes.{AnswersTree, breaks_tree}
use Rattle.mail_tree.specs.Trees.{Tree, HasTree, list_of}

-- ---- Where a call works

-- A root stands, and isn't the path of nothing.
pub record IsRoot (root : List ℕ) (image : Image) : Type 0 where
  pub stands : is_directory image root ≡ true

abbrev pub HasRoot : List ℕ → History → Type 0
HasRoot root old = Now old (λ w. is_directory (seen w.disk) root ≡ true)

-- ---- Answers

-- the answer is the one that is due by the tree that reads see
abbrev pub AnswersBy : {T : Type 0} → Formats → List ℕ → (Tree → Option TreeFault) → Result T TreeFault → History → Type 0
AnswersBy formats root due result old = Now old (λ w. (tree : Tree) → HasTree formats root (seen w.disk) tree → AnswersTree (due tree) result)

-- the same of a refusal alone
abbrev pub RefusesBy : Formats → List ℕ → (Tree → Option TreeFault) → TreeFault → History → Type 0
RefusesBy formats root due fault old = Now old (λ w. (tree : Tree) → HasTree formats root (seen w.disk) tree → (due tree ≡ Some fault) ⊎ (breaks_tree fault ≡ true))

-- where a refusal is due by that tree nothing is done, whatever the answer
abbrev pub ActsUndue : Formats → List ℕ → (Tree → Option TreeFault) → (old new : History) → Type 0
ActsUndue formats root due old new = Now old (λ w. (tree : Tree) → HasTree formats root (seen w.disk) tree → (due tree ≡ None) ⊎ (new ≡ old))

-- a call fails only where a call on the files failed
abbrev pub tree_failed : TreeFault → Bool
tree_failed Failed = true
tree_failed fault = false

abbrev pub has_tree_failed : {T : Type 0} → Result T TreeFault → Bool
has_tree_failed (Ok value) = false
has_tree_failed (Err fault) = tree_failed fault

pub record TreeCause {T : Type 0} (old new : Faults) (result : Result T TreeFault) : Type 0 where
  pub counts : OnlyFiles old new
  pub failed : IsErrOf result Failed → Rose old.file new.file
  pub stays : has_tree_failed result ≡ false → new.file ≡ old.file

-- a refusal that changes nothing
abbrev pub RefusesTree : {T : Type 0} → Result T TreeFault → Type 0
RefusesTree (Ok value) = ⊥
RefusesTree (Err fault) = breaks_tree fault ≡ false

-- the answer is a failed call, or want of memory
abbrev pub BreaksTree : {T : Type 0} → Result T TreeFault → Type 0
BreaksTree (Ok value) = ⊥
BreaksTree (Err fault) = breaks_tree fault ≡ true

-- the faults that the calls of the tree give
abbrev pub is_given : TreeFault → Bool
is_given BadName = false
is_given (Store fault) = false
is_given (Open OpenAbsent) = false
is_given (Open OpenFailed) = false
is_given (Open OpenMemory) = false
is_given fault = true

-- why a mailbox isn't opened
abbrev pub opening_fault : OpenFault → TreeFault
opening_fault OpenAbsent = Absent
opening_fault OpenFailed = Failed
opening_fault OpenMemory = Memory
opening_fault fault = Open fault

-- ---- What stands afterwards

-- after Ok reads see the changed tree, and after a refusal all is as it was
pub record ChangesTree {T : Type 0} (formats : Formats) (root : List ℕ) (change : Tree → Tree) (result : Result T TreeFault) (old new : History) : Type 0 where
  pub done : OnOk result (Ended (λ start end. (tree : Tree) → HasTree formats root (seen start) tree → HasTree formats root (seen end) (change tree)) old new)
  pub refused : RefusesTree result → new ≡ old
  pub none_pending : Now old (λ w. NonePending w.disk) → OnOk result (Now new (λ w. NonePending w.disk))
  pub files : RanOnFiles old new

-- ---- What a call leaves alone

-- a directory above a name that reads didn't see at the start: the call makes it
pub record IsMadeAbove (root name : List ℕ) (start : Disk) (q : List ℕ) : Type 0 where
  pub front : List ℕ
  pub rest : List ℕ
  pub above : name ≡ front ++ 47 ∷ rest
  pub whole : q ≡ child root front
  pub absent : node_at (seen start) q ≡ nothing

-- At each instant each image has, but for these files and these paths, what one of the start had; and reads see the same there, unless a call failed.
pub record LeavesBut {T : Type 0} (files : List ℕ → Type 0) (free : Disk → List ℕ → Type 0) (result : Result T TreeFault) (old new : History) : Type 0 where
  pub instants : Now old (λ w. NonePending w.disk) → Ran (λ start instant. KeepsBut files (free start) start instant) old new
  pub sees : (IsErrOf result Failed → ⊥) → Ended (λ start end. SeesBut files (free start) start end) old new

-- what a creation makes: the mailbox's own directory, and those above it
abbrev pub IsMadeFor : Driver → (root name : List ℕ) → (start : Disk) → List ℕ → Type 0
IsMadeFor driver root name start q = IsHomeOf driver (child root name) q ⊎ IsMadeAbove root name start q

-- the same of a plain directory
abbrev pub IsMadeAt : (root name : List ℕ) → (start : Disk) → List ℕ → Type 0
IsMadeAt root name start q = (q ≡ child root name) ⊎ IsMadeAbove root name start q

-- the files that a deletion may take away, whose mailbox may be of any driver
abbrev pub IsDeletable : (path q : List ℕ) → Type 0
IsDeletable path q = (q ≡ path) ⊎ ((q ≡ temporary_of path) ⊎ IsNamed path (λ name. is_mailbox_name Mh name || is_mailbox_name Mix name || is_leftover name) q)

-- the same of a change of the subscribed names: their file and the temporary file beside it
pub record LeavesList {T : Type 0} (root : List ℕ) (result : Result T TreeFault) (old new : History) : Type 0 where
  pub instants : Now old (λ w. NonePending w.disk) → Ran (Keeps (IsBeside (list_of root))) old new
  pub sees : (IsErrOf result Failed → ⊥) → Ended (Sees (IsBeside (list_of root))) old new

-- reads see a new text in the file of the subscribed names, and all else as before
pub record WritesList (root text : List ℕ) (start end : Disk) : Type 0 where
  pub beside : Sees (IsBeside (list_of root)) start end
  pub written : text_at (seen end) (list_of root) ≡ text

-- ---- Lists

-- the names that a tree lists, which reads see
abbrev pub ListsBy : Formats → List ℕ → (Tree → List ListedName) → List Listed → History → Type 0
ListsBy formats root lists names old = Now old (λ w. (tree : Tree) → HasTree formats root (seen w.disk) tree → map (λ (entry : Listed). record { name = entry.name; directory = entry.directory }) names ≡ lists tree)

-- ---- A renaming

-- One image is another, or another with what stands at one path, and all in it, moved whole; but for directories that are made above the new path.
pub record IsMovedOrNot (root from to : List ℕ) (start : Disk) (before image : Image) : Type 0 where
  pub each : ((q : List ℕ) → (IsMadeAbove root to start q → ⊥) → node_at image q ≡ node_at before q)
      ⊎ ((q : List ℕ) → (IsMadeAbove root to start q → ⊥) → node_at image q ≡ moved_node (child root from) (child root to) before q)

pub record MayMove (root from to : List ℕ) (start instant : Disk) : Type 0 where
  pub each : (image : Image) → MayLeave instant image → (before : Image) × MayLeave start before × IsMovedOrNot root from to start before image

pub record LeavesMoved {T : Type 0} (root from to : List ℕ) (result : Result T TreeFault) (old new : History) : Type 0 where
  pub instants : Now old (λ w. NonePending w.disk) → Ran (MayMove root from to) old new
  pub sees : (IsErrOf result Failed → ⊥) → Ended (λ start end. IsMovedOrNot root from to start (seen start) (seen end)) old new

-- ---- What a crash leaves of the mix mailboxes

-- At each instant a crash leaves the mix mailboxes of the tree before or after the call; after Ok every crash leaves those after it.
pub record CommitsTree {T : Type 0} (formats : Formats) (root : List ℕ) (change : Tree → Tree) (result : Result T TreeFault) (old new : History) : Type 0 where
  pub instants : (tree : Tree) → Now old (λ w. HasTree formats root (seen w.disk) tree × IsTreeAlike formats root tree w.disk)
      → Ran (λ start instant. Leaves (λ image. HasMixMailboxes formats root tree image ⊎ HasMixMailboxes formats root (change tree) image) instant) old new
  pub durable : (tree : Tree) → Now old (λ w. HasTree formats root (seen w.disk) tree × IsTreeAlike formats root tree w.disk)
      → OnOk result (Now new (λ w. IsTreeAlike formats root (change tree) w.disk))
