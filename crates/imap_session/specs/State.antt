-- What a session stands for, and what a command leads to.
use Rattle.std.specs.Prelude.{ℕ, Bool, List, [], ◌∷◌, ◌++◌, ◌+◌, ◌-◌, ◌%◌, ◌==◌, if◌then◌else◌, Option, Some, None, Result, Ok, Err}
use Rattle.mail_tree.specs.Changing.{Placed, placed_after, tree_after}
use Rattle.mail_tree.specs.Trees.{Tree}
use Rattle.any_store.specs.Choice.{Formats}
use Rattle.store_trait.specs.declared.change.Change.{Change}
use Rattle.store_trait.specs.declared.store.Info.{Info}
use Rattle.store_trait.specs.Views.{summary_of}
use Rattle.imap_reply.specs.declared.reply.Reply.{Reply}
use Rattle.imap_reply.specs.declared.reply.Reply.TheVariants as reply
use Rattle.imap_reply.specs.declared.text.Words.{Words}
use Rattle.imap_session.specs.Lines.{Line, reply_line}

-- ---- States

-- The selected mailbox (RFC 3501, section 3.3), whether it is read-only, and the UIDs of the messages that are recent in this session.
pub record Selected : Type 0 where
  pub placed : Placed
  pub read_only : Bool
  pub recent : List ℕ

-- its messages, without their texts
abbrev pub infos_of : Selected → List Info
infos_of s = (summary_of s.placed.mailbox).infos

-- The root and the moment that the session was given; the tree of mailboxes, the number of commands so far, and the selected mailbox.
pub record State : Type 0 where
  pub root : List ℕ
  pub moment : ℕ
  pub tree : Tree
  pub count : ℕ
  pub selected : Option Selected

-- the UIDVALIDITY that a command gives: the session's moment and the command's number together, going on from 1 past 32 bits
abbrev pub fresh : State → ℕ
fresh state = (state.moment + state.count - 1) % 4294967295 + 1

-- the next command's
abbrev pub next_fresh : ℕ → ℕ
next_fresh fresh = if fresh == 4294967295 then 1 else fresh + 1

abbrev pub counted : State → State
counted state = record state { count = state.count + 1 }

abbrev pub with_tree : State → Tree → State
with_tree state tree = record state { tree = tree }

abbrev pub selecting : State → Selected → State
selecting state selected = record state { selected = Some selected }

abbrev pub unselected : State → State
unselected state = record state { selected = None }

abbrev pub name_in : Option Selected → Option (List ℕ)
name_in None = None
name_in (Some s) = Some s.placed.name

abbrev pub selected_name : State → Option (List ℕ)
selected_name state = name_in state.selected

-- the selected mailbox after a change, with other recent messages
abbrev pub changed_selected : Selected → (recent : List ℕ) → Change → Selected
changed_selected s recent change = record { placed = placed_after s.placed change; read_only = s.read_only; recent = recent }

-- The state after a change of the selected mailbox: the one way in which a command changes it.
abbrev pub changed_state : Formats → State → Selected → (recent : List ℕ) → Change → State
changed_state formats state s recent change = selecting (with_tree state (tree_after formats state.tree s.placed change)) (changed_selected s recent change)

-- ---- What a command leads to

-- the next state, and the lines of the reply: those before the last, which are untagged, and the last
pub record Outcome : Type 0 where
  pub next : State
  pub untagged : List Line
  pub last : Reply

abbrev pub outcome_lines : Outcome → List Line
outcome_lines outcome = outcome.untagged ++ reply_line outcome.last ∷ []

-- a value, or the line by which the command is refused
abbrev pub Unless : Type 0 → Type 0
Unless A = Result A Reply

-- one after the other: the first refusal counts
infixl 10 ◌>>=◌
abbrev pub ◌>>=◌ : {A B : Type 0} → Unless A → (A → Unless B) → Unless B
(Ok x) >>= f = f x
(Err refusal) >>= f = Err refusal

-- done: the untagged lines, and the tagged one
abbrev pub done : List ℕ → Words → State → List Line → Outcome
done tag words next untagged = record { next = next; untagged = untagged; last = reply.Done tag words }

-- one line alone
abbrev pub only : State → Reply → Outcome
only next line = record { next = next; untagged = []; last = line }

-- a command that is refused leaves this state
abbrev pub or_leaves : State → Unless Outcome → Outcome
or_leaves state (Ok outcome) = outcome
or_leaves state (Err refusal) = only state refusal
