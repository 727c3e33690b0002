-- What SELECT makes of a mailbox that was opened, by what its store tells.
use Rattle.std.specs.Prelude.{ℕ, Bool, true, false, List, [], ◌∷◌, ◌++◌, ◌+◌, ◌≡◌, nat_lt, min, if◌then◌else◌, length, Option, Some, None, Result, OnOk}
use Rattle.file_model.specs.Arrived.{Arrived}
use Rattle.file_model.specs.Disk.{seen}
use Rattle.file_model.specs.Histories.{World, History, Passed}
use Rattle.file_model.specs.Images.{is_directory}
use Rattle.any_store.specs.Choice.{Formats}
use Rattle.imap_reply.specs.declared.reply.Reply.{Reply}
use Rattle.imap_reply.specs.declared.reply.Reply.TheVariants as reply
use Rattle.mail_tree.specs.Changing.{IsMailboxAt}
use Rattle.mail_types.specs.declared.driver.Driver.{Driver}
use Rattle.mail_types.specs.declared.driver.Keeps.{Keeps}
use Rattle.mail_types.specs.Drivers.{keeps_of, every_flag}
use Rattle.session_loop.specs.declared.answers.Stop.{Stop}
use Rattle.store_trait.specs.declared.change.Change.{Change}
use Rattle.store_trait.specs.declared.change.Change.TheVariants.{SetFlags}
use Rattle.store_trait.specs.Views.{Summary, View}
use Rattle.imap_session.specs.Doing.{Alike, Committing}
use Rattle.imap_session.specs.Select.{first_unseen, told, told_from}
use Rattle.imap_session.specs.State.{Selected, State, infos_of, changed_selected}

-- ---- Lines

-- a number that is there, as a line
abbrev pub unseen_line : Option ℕ → List Reply
unseen_line None = []
unseen_line (Some number) = reply.Unseen number ∷ []

-- the flags that last in a mailbox with these keywords
abbrev pub lasting_flags : Keeps → (read_only : Bool) → (words : List (List ℕ)) → Reply
lasting_flags keeps read_only words =
    if read_only then reply.PermanentFlags (every_flag false) [] false
    else reply.PermanentFlags keeps.flags words (nat_lt (length words) keeps.words)

-- the lines of a mailbox of a driver
abbrev pub told_lines : Driver → (read_only : Bool) → (recent : List ℕ) → Summary → List Reply
told_lines driver read_only recent told =
    reply.Flags told.words ∷ reply.Exists (length told.infos) ∷ reply.Recent (length recent) ∷ first_unseen 1 told.infos
    ++ lasting_flags (keeps_of driver) read_only told.words ∷ reply.UidNext (min (told.last + 1) 4294967295) ∷ reply.UidValidity told.validity ∷ []

-- ---- The change

-- each message is old from now on
abbrev pub old_change : Summary → Change
old_change told = SetFlags (told_from 0 told.infos) told.words

-- the selected mailbox afterwards
abbrev pub told_selected : Selected → Selected
told_selected s = if s.read_only then s else changed_selected s s.recent (SetFlags (told_from 0 (infos_of s)) s.placed.mailbox.words)

-- The root stands, reads see the tree afterwards, and the store is the mailbox.
pub record HasTold (formats : Formats) (state : State) (s : Selected) (is : View) (start world : World) : Type 0 where
  pub streams : world.streams ≡ start.streams
  pub stands : is_directory (seen world.disk) state.root ≡ true
  pub mailbox : IsMailboxAt formats state.root is (seen world.disk) (told formats state s).tree (told_selected s).placed
  pub still_alike : Alike formats state start.disk → Alike formats (told formats state s) world.disk

-- An opened mailbox is told to the session.
pub record TellsAll (formats : Formats) (state : State) (s : Selected) (is : View) (result : Result (Unit {0}) Stop) (old new : History) : Type 0 where
  pub instants : Passed (Committing formats state (told formats state s)) old new
  pub done : OnOk result (Arrived (HasTold formats state s is) old new)
