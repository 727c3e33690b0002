-- What a run of `imapd` promises: one record for each clause of the call.
use Rattle.std.specs.Prelude.{ℕ, true, false, List, [], ◌∷◌, ◌++◌, ◌≡◌, ◌≢◌, ◌⊎◌, ◌^◌, length, Option, Some, None, Ok, Err}
use Rattle.std.specs.FinMap.{get}
use Rattle.std.specs.List.{Contains}
use Rattle.file_model.specs.Arrived.{worlds_since, heard_since, said_since}
use Rattle.file_model.specs.Disk.{seen}
use Rattle.file_model.specs.Histories.{World, History, Now, Ran, instant}
use Rattle.file_model.specs.Images.{Image, nothing, node_at, is_directory}
use Rattle.file_model.specs.Kept.{Leaves}
use Rattle.any_store.specs.Choice.{Formats}
use Rattle.mail_tree.specs.Agreement.{mix_of, IsNoLess, HasMixMailboxes}
use Rattle.mail_tree.specs.Names.{is_path}
use Rattle.mail_tree.specs.Trees.{Meaning, Tree, HasTree}
use Rattle.session_loop.specs.Headline.{commands, SaysReplies, IsBounded, Survives}
use Rattle.session_loop.specs.Machine.{state_after, is_over}
use Rattle.session_loop.specs.Saying.{AllSaid, lines_to}
use Rattle.imap_session.specs.Protocol.{protocol}
use Rattle.imap_session.specs.State.{State}
use Rattle.imapd_core.specs.declared.server.Status.{Status}
use Rattle.imapd_core.specs.declared.server.Status.TheVariants.{Words, Long}
use Rattle.imapd_core.specs.Runs.{Run, first_state, inbox_of, is_word, HasMailboxes}
use Rattle.imapd_core.specs.Statuses.{regular_status, HasRoot}

-- What was said begins the greeting and the replies to all commands heard, and no reply waited for a `hear`.
abbrev pub Says : Formats → Run → World → Type 0
Says formats run world = SaysReplies (protocol formats) (first_state run) run.start world

-- the state after all commands heard
abbrev pub last_state : Formats → Run → World → State
last_state formats run world = state_after (protocol formats).step (first_state run) (commands (protocol formats) run.start world)

-- All replies were said, reads see the mailboxes after all commands heard, and the status is the one that the bytes heard tell.
pub record IsServedAs (formats : Formats) (status : Status) (run : Run) (world : World) : Type 0 where
  pub said : AllSaid (protocol formats).says (lines_to (protocol formats) (first_state run) (commands (protocol formats) run.start world)) (said_since run.start world)
  pub mailboxes : HasTree formats (last_state formats run world).root (seen world.disk) (last_state formats run world).tree
  pub is_status : run.start.streams.ended ≡ false
      → status ≡ regular_status (is_over (protocol formats) (heard_since run.start world)) world.streams.ended ((protocol formats).unfinished (heard_since run.start world))
  pub is_long : status ≡ Long → length (heard_since run.start world) ≡ 2 ^ 40

-- One number of commands serves all mix mailboxes: the image has them as after these, among which are all whose replies were said.
abbrev pub Keeps : Formats → Run → World → Image → (said : List ℕ) → Type 0
Keeps formats run world image said = Survives (protocol formats) (first_state run) run.start world image said

-- What a run finds of a mix mailbox that was so: the same fault; or the same records under the same validity, and perhaps a later last UID
-- and more names. None is found that wasn't there.
abbrev pub IsFoundAgain : (was found : Option Meaning) → Type 0
IsFoundAgain was None = Unit {0}
IsFoundAgain None (Some found) = ⊥
IsFoundAgain (Some (Err fault)) (Some (Err found)) = found ≡ fault
IsFoundAgain (Some (Err fault)) (Some (Ok found)) = ⊥
IsFoundAgain (Some (Ok known)) (Some (Err found)) = ⊥
IsFoundAgain (Some (Ok known)) (Some (Ok found)) = IsNoLess known found

-- The mix mailboxes of a tree are found again in another.
pub record FindsMix (was found : Tree) : Type 0 where
  pub each : (path : List ℕ) → is_path path ≡ true → IsFoundAgain (mix_of (get was.nodes path)) (mix_of (get found.nodes path))

-- Another run can begin there: the image has mailboxes, and the mix mailboxes among them are those that the image has, so those that
-- survive of this run.
pub record CanRestart (formats : Formats) (run : Run) (world : World) (image : Image) (said : List ℕ) : Type 0 where
  pub tree : Tree
  pub mailboxes : HasMailboxes formats run.root tree image
  pub mix : (survives : Tree) → HasMixMailboxes formats run.root survives image → FindsMix survives tree

-- something stands at INBOX
abbrev pub HasSomeInbox : List ℕ → Image → Type 0
HasSomeInbox root image = node_at image (inbox_of root) ≢ nothing

-- Up to an instant nothing was heard or said; there the call ended, or whatever a crash leaves has an INBOX.
pub record IsSettled (old new : History) (run : Run) : Type 0 where
  pub settled : History
  pub silent : Ran (λ start disk. Unit {0}) old settled
  pub later : History
  pub whole : new ≡ later ++ settled
  pub has_inbox : (later ≡ []) ⊎ Now settled (λ w. Leaves (HasSomeInbox run.root) w.disk)

-- At each instant at most 2^40 bytes were heard, and each turn but the last heard one.
abbrev pub IsShort : (old new : History) → Type 0
IsShort old new = Now old (λ start. (world : World) → Contains (worlds_since (instant old) new) world → IsBounded start world)

-- The words are one root at which a directory stands.
pub record NamesRoot (words : List (List ℕ)) (old : History) : Type 0 where
  pub root : List ℕ
  pub one : words ≡ root ∷ []
  pub is_root : is_word root ≡ true
  pub stands : Now old (λ w. is_directory (seen w.disk) root ≡ true)

-- Where the words aren't one word that may be a root they are refused. Where they are refused they name no directory, and nothing was
-- heard, said or changed; and a session is begun only where they name one.
pub record RefusesWords (words : List (List ℕ)) (status : Status) (old new : History) : Type 0 where
  pub unread : ((root : List ℕ) → words ≡ root ∷ [] → is_word root ≡ false) → status ≡ Words
  pub cause : status ≡ Words → Now old (λ w. NamesRoot words (w ∷ []) → ⊥)
  pub quiet : status ≡ Words → new ≡ old
  pub served : HasRoot status → NamesRoot words old
