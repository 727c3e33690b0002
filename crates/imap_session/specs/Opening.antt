-- A mailbox that is opened by its name.
use Rattle.std.specs.Prelude.{ℕ, Bool, List, ◌≡◌, Some, None}
use Rattle.file_model.specs.Images.{Image}
use Rattle.any_store.specs.Choice.{Formats}
use Rattle.mail_tree.specs.Changes.{due_open}
use Rattle.mail_tree.specs.Mailboxes.{Found, found_at}
use Rattle.store_trait.specs.Views.{View}
use Rattle.imap_session.specs.declared.session.Open.{Open}
use Rattle.imap_session.specs.Select.{opened}
use Rattle.imap_session.specs.Standing.{IsOpen}
use Rattle.imap_session.specs.State.{State, fresh}

-- It is what the name sees, as it opens now.
pub record OpensSelected {S : Type 0} (formats : Formats) (view : S → View) (state : State) (name : List ℕ) (read_only : Bool) (o : Open S) (image : Image) : Type 0 where
  pub found : Found
  pub none_due : due_open state.tree name ≡ None
  pub sees_it : found_at state.tree name ≡ Some found
  pub open_is : IsOpen formats view state o image (opened read_only (fresh state) name found)
