-- When a session, over a disk, stands for a state.
use Rattle.std.specs.Prelude.{true, ◌≡◌, ◌≤◌, length, Option, Some, None}
use Rattle.file_model.specs.Disk.{Disk, seen}
use Rattle.file_model.specs.Images.{Image, is_directory}
use Rattle.store_trait.specs.Views.{View}
use Rattle.any_store.specs.Choice.{Formats}
use Rattle.mail_tree.specs.Changing.{IsStoreOf, IsInTree}
use Rattle.mail_tree.specs.Trees.{HasTree}
use Rattle.imap_session.specs.declared.session.Open.{Open}
use Rattle.imap_session.specs.declared.session.Session.{Session}
use Rattle.imap_session.specs.State.{Selected, State, fresh}

-- What the session has of the selected mailbox: its open store is that mailbox, and the tree has it.
pub record IsOpen {S : Type 0} (formats : Formats) (view : S → View) (state : State) (o : Open S) (image : Image) (s : Selected) : Type 0 where
  pub name : o.name ≡ s.placed.name
  pub read_only : o.read_only ≡ s.read_only
  pub recent : o.recent ≡ s.recent
  pub store : IsStoreOf formats state.root (view o.store) image s.placed
  pub in_tree : IsInTree state.tree s.placed

abbrev pub IsSelection : {S : Type 0} → Formats → (S → View) → State → Option (Open S) → Image → Option Selected → Type 0
IsSelection formats view state None image None = Unit {0}
IsSelection formats view state None image (Some s) = ⊥
IsSelection formats view state (Some o) image None = ⊥
IsSelection formats view state (Some o) image (Some s) = IsOpen formats view state o image s

-- Reads see the root and the tree below it; the session has the root, the moment, the next fresh UIDVALIDITY and the selected mailbox.
pub record StandsFor {S : Type 0} (formats : Formats) (view : S → View) (session : Session S) (disk : Disk) (state : State) : Type 0 where
  pub root : session.root ≡ state.root
  pub moment : session.moment ≡ state.moment
  pub some : 1 ≤ state.moment
  pub fresh_is : session.fresh ≡ fresh state
  pub some_root : 1 ≤ length state.root
  pub stands : is_directory (seen disk) state.root ≡ true
  pub tree : HasTree formats state.root (seen disk) state.tree
  pub selected : IsSelection formats view state session.selected (seen disk) state.selected
