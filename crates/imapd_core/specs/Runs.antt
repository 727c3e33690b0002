-- The runs that a call of `imapd` may be, and what is said of their instants.
use Rattle.std.specs.Prelude.{ℕ, Bool, ◌&&◌, not, nat_le, nat_eq, List, [], ◌∷◌, ◌≡◌, ◌≢◌, ◌≤◌, length, take, codes, None}
use Rattle.std.specs.List.{Contains, list_any}
use Rattle.file_model.specs.Arrived.{Arrived, worlds_since}
use Rattle.file_model.specs.Disk.{MayLeave, seen}
use Rattle.file_model.specs.Histories.{World, History, Now, instant}
use Rattle.file_model.specs.Images.{Image, Node, nothing, file, directory, node_at, Agree}
use Rattle.file_model.specs.Kept.{IsAtRest}
use Rattle.file_model.specs.Paths.{child}
use Rattle.any_store.specs.Choice.{Formats, formats_of, chosen}
use Rattle.any_store.specs.Stores.{all_forms}
use Rattle.mail_tree.specs.Trees.{Tree, HasTree}
use Rattle.imap_session.specs.State.{State}

-- ---- The directory

-- the forms of all drivers, and the choice among them
abbrev pub formats : Formats
formats = formats_of all_forms chosen

-- a word that may be a root: 1 to 1,024 bytes without NUL
abbrev pub is_word : List ℕ → Bool
is_word word = nat_le 1 (length word) && nat_le (length word) 1024 && not (list_any (nat_eq 0) word)

-- where the mailbox stands that every client finds (RFC 3501, section 5.1)
abbrev pub inbox_of : List ℕ → List ℕ
inbox_of root = child root (codes "INBOX")

-- an empty INBOX is made where nothing stands
abbrev pub first_node : Node → Node
first_node nothing = file []
first_node (file bytes) = file bytes
first_node directory = directory

-- One image is another with an INBOX, which is made empty where nothing stands; all else is as it was.
pub record HasInbox (root : List ℕ) (was is : Image) : Type 0 where
  pub inbox : node_at is (inbox_of root) ≡ first_node (node_at was (inbox_of root))
  pub elsewhere : (path : List ℕ) → path ≢ inbox_of root → Agree path is was

-- The mailboxes that reads see in a directory, once it has an INBOX.
pub record HasMailboxes (formats : Formats) (root : List ℕ) (tree : Tree) (image : Image) : Type 0 where
  pub made : Image
  pub has_inbox : HasInbox root image made
  pub has_tree : HasTree formats root made tree

-- ---- Runs

-- A run: the directory that the words name, the moment, the mailboxes that it begins with, and the world as it begins.
pub record Run : Type 0 where
  pub root : List ℕ
  pub moment : ℕ
  pub tree : Tree
  pub start : World

-- no command came yet, and no mailbox is selected
abbrev pub state_of : (root : List ℕ) → (moment : ℕ) → Tree → State
state_of root moment tree = record { root = root; moment = moment; tree = tree; count = 0; selected = None }

-- the state that a run begins with
abbrev pub first_state : Run → State
first_state run = state_of run.root run.moment run.tree

-- Every run that a call may be: by its one word, and the mailboxes that the directory has as the call begins.
abbrev pub OfRun : Formats → (words : List (List ℕ)) → (moment : ℕ) → (old : History) → (Run → Type 0) → Type 0
OfRun formats words moment old P = (root : List ℕ) → words ≡ root ∷ [] → Now old (λ start. (tree : Tree) → HasMailboxes formats root tree (seen start.disk)
    → P (record { root = root; moment = moment; tree = tree; start = start }))

-- the same, where the disk is at rest as the call begins
abbrev pub FromRest : Formats → (words : List (List ℕ)) → (moment : ℕ) → (old : History) → (Run → Type 0) → Type 0
FromRest formats words moment old P = OfRun formats words moment old (λ run. IsAtRest run.start.disk → P run)

-- at each instant of the call
abbrev pub AtEachInstant : Formats → (words : List (List ℕ)) → (moment : ℕ) → (old new : History) → (Run → World → Type 0) → Type 0
AtEachInstant formats words moment old new P = OfRun formats words moment old (λ run. (world : World) → Contains (worlds_since (instant old) new) world → P run world)

-- as the call ends
abbrev pub AtTheEnd : Formats → (words : List (List ℕ)) → (moment : ℕ) → (old new : History) → (Run → World → Type 0) → Type 0
AtTheEnd formats words moment old new P = OfRun formats words moment old (λ run. Arrived (λ start world. P run world) old new)

-- Whatever a crash at an instant leaves, and however much it finds said. As the call begins the disk is at rest.
abbrev pub AfterEachCrash : Formats → (words : List (List ℕ)) → (moment : ℕ) → (old new : History) → (Run → World → Image → (said : List ℕ) → Type 0) → Type 0
AfterEachCrash formats words moment old new P =
    FromRest formats words moment old (λ run. (world : World) → Contains (worlds_since (instant old) new) world
    → (image : Image) → MayLeave world.disk image → (count : ℕ) → world.streams.surely_said ≤ count → P run world image (take count world.streams.said))
