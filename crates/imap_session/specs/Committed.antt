-- What a change of an open mailbox leaves.
use Rattle.std.specs.Prelude.{ℕ, true, false, List, ◌≡◌, ◌≤◌, ◌⊎◌, length, Option, Some, None, Result, Ok, Err, OnOk}
use Rattle.file_model.specs.Disk.{seen}
use Rattle.file_model.specs.Histories.{World, History, Now, Passed}
use Rattle.file_model.specs.Images.{Image, is_directory}
use Rattle.file_model.specs.Arrived.{Arrived}
use Rattle.store_trait.specs.declared.change.Change.{Change}
use Rattle.store_trait.specs.declared.faults.StoreFault.{StoreFault}
use Rattle.store_trait.specs.Promises.{IsUnchanged}
use Rattle.store_trait.specs.Views.{View}
use Rattle.any_store.specs.Choice.{Formats}
use Rattle.mail_tree.specs.Changing.{IsMailboxAt, tree_after, placed_after}
use Rattle.session_loop.specs.declared.answers.Stop.{Stop}
use Rattle.imap_session.specs.declared.refusal.Refusal.{Refusal}
use Rattle.imap_session.specs.declared.refusal.Refusal.TheVariants.{Line as Refused, Ends}
use Rattle.imap_session.specs.Refusals.{store_refusal, due_of}
use Rattle.imap_session.specs.State.{Selected, State, changed_state}
use Rattle.imap_session.specs.Doing.{Alike, Committing}

-- reads see the root and the tree, and an open store is the mailbox
pub record IsHere (formats : Formats) (state : State) (s : Selected) (is : View) (image : Image) : Type 0 where
  pub some : 1 ≤ length state.root
  pub stands : is_directory image state.root ≡ true
  pub mailbox : IsMailboxAt formats state.root is image state.tree s.placed

-- reads see the root and the tree after a change, and the store is the changed mailbox
pub record HasChanged (formats : Formats) (state : State) (s : Selected) (recent : List ℕ) (change : Change) (is : View) (start world : World) : Type 0 where
  pub streams : world.streams ≡ start.streams
  pub stands : is_directory (seen world.disk) state.root ≡ true
  pub mailbox : IsMailboxAt formats state.root is (seen world.disk) (tree_after formats state.tree s.placed change) (placed_after s.placed change)
  pub still_alike : Alike formats state start.disk → Alike formats (changed_state formats state s recent change) world.disk

-- a change of a mailbox of the tree, whose state had other recent messages afterwards
pub record Commits (formats : Formats) (state : State) (s : Selected) (recent : List ℕ) (change : Change) (is : View) (result : Result (Unit {0}) Stop) (old new : History) : Type 0 where
  pub instants : Passed (Committing formats state (changed_state formats state s recent change)) old new
  pub done : OnOk result (Arrived (HasChanged formats state s recent change is) old new)

-- ---- A change of which a refusal may be due

-- none is due where it is made; and the command is refused with the one that is
abbrev pub SaysDue : List ℕ → Option StoreFault → Result (Unit {0}) Refusal → Type 0
SaysDue tag due (Ok u) = due ≡ None
SaysDue tag due (Err (Refused line)) = (fault : StoreFault) × (due ≡ Some fault) × (line ≡ store_refusal tag fault)
SaysDue tag due (Err (Ends stop)) = Unit {0}

-- It is made, unless a refusal is due; then nothing is done.
pub record CommitsUndue (formats : Formats) (tag : List ℕ) (state : State) (s : Selected) (recent : List ℕ) (change : Change) (is : View) (result : Result (Unit {0}) Refusal) (old new : History) : Type 0 where
  pub says : Now old (λ w. SaysDue tag (due_of formats s.placed change) result)
  pub acts : Now old (λ w. (due_of formats s.placed change ≡ None) ⊎ (new ≡ old))
  pub instants : Passed (Committing formats state (changed_state formats state s recent change)) old new
  pub done : OnOk result (Arrived (HasChanged formats state s recent change is) old new)

-- a refused change leaves the store as it was
pub record IsAsItWas (was is : View) (old new : History) : Type 0 where
  pub nothing : new ≡ old
  pub unchanged : IsUnchanged was is
  pub works : was.broken ≡ false → is.broken ≡ false

abbrev pub StaysIfRefused : (was is : View) → Result (Unit {0}) Refusal → (old new : History) → Type 0
StaysIfRefused was is (Ok u) old new = Unit {0}
StaysIfRefused was is (Err (Refused line)) old new = IsAsItWas was is old new
StaysIfRefused was is (Err (Ends stop)) old new = Unit {0}
