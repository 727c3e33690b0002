-- What a command does to the files, and what it answers.
-- First its changes are made, while nothing is said; then its reply is said in pieces.
use Rattle.std.specs.Prelude.{ℕ, List, [], ◌++◌, ◌≡◌, ◌⊎◌, Result, Ok, Err, OnOk}
use Rattle.file_model.specs.Disk.{Disk, MayLeave}
use Rattle.file_model.specs.Images.{Image}
use Rattle.file_model.specs.Histories.{World, History, Now, Passed}
use Rattle.file_model.specs.Arrived.{Arrived}
use Rattle.any_store.specs.Choice.{Formats}
use Rattle.imap_grammar.specs.declared.unit.Unit as client
use Rattle.imap_reply.specs.declared.reply.Reply.{Reply}
use Rattle.mail_tree.specs.Agreement.{HasMixMailboxes, IsTreeAlike}
use Rattle.session_loop.specs.Saying.{AllSaid, FirstSaid}
use Rattle.session_loop.specs.declared.answers.Stop.{Stop}
use Rattle.imap_session.specs.declared.refusal.Refusal.{Refusal}
use Rattle.imap_session.specs.declared.refusal.Refusal.TheVariants.{Line as Refused, Ends}
use Rattle.imap_session.specs.Lines.{SaysLine}
use Rattle.imap_session.specs.State.{State, Outcome, outcome_lines}
use Rattle.imap_session.specs.Step.{outcome_of}

-- every crash leaves the mix mailboxes of a state
abbrev pub Alike : Formats → State → Disk → Type 0
Alike formats state disk = IsTreeAlike formats state.root state.tree disk

abbrev pub Agrees : Formats → State → Image → Type 0
Agrees formats state image = HasMixMailboxes formats state.root state.tree image

-- ---- Changes

-- An instant while a command changes files: nothing is heard or said, and a crash leaves what agrees with the state before it or after it.
pub record Committing (formats : Formats) (state next : State) (start world : World) : Type 0 where
  pub streams : world.streams ≡ start.streams
  pub crash : Alike formats state start.disk → (image : Image) → MayLeave world.disk image → Agrees formats state image ⊎ Agrees formats next image

-- The changes are made: the session stands for the next state.
pub record HasCommitted (formats : Formats) (stands : Disk → State → Type 0) (state next : State) (start world : World) : Type 0 where
  pub streams : world.streams ≡ start.streams
  pub is_state : stands world.disk next
  pub still_alike : Alike formats state start.disk → Alike formats next world.disk

-- ---- The reply

-- An instant of a command: nothing is heard, and a part of its reply is said. A crash leaves what agrees with the next state, or, while nothing is said, with the state before it.
pub record Replying (formats : Formats) (state : State) (outcome : Outcome) (start world : World) : Type 0 where
  pub heard : world.streams.heard ≡ start.streams.heard
  pub ended : world.streams.ended ≡ start.streams.ended
  pub turns : world.streams.turns ≡ start.streams.turns
  pub part : List ℕ
  pub is_said : world.streams.said ≡ start.streams.said ++ part
  pub is_part : FirstSaid SaysLine (outcome_lines outcome) part
  pub crash : Alike formats state start.disk → (image : Image) → MayLeave world.disk image → ((part ≡ []) × Agrees formats state image) ⊎ Agrees formats outcome.next image

-- Its changes are made, and its untagged lines are put: what wasn't said of them waits. Its last line is left to be put.
pub record HasReplied (formats : Formats) (stands : Disk → State → Type 0) (state : State) (outcome : Outcome) (last : Reply) (waits : List ℕ) (start world : World) : Type 0 where
  pub heard : world.streams.heard ≡ start.streams.heard
  pub ended : world.streams.ended ≡ start.streams.ended
  pub turns : world.streams.turns ≡ start.streams.turns
  pub part : List ℕ
  pub is_said : world.streams.said ≡ start.streams.said ++ part
  pub are_put : AllSaid SaysLine outcome.untagged (part ++ waits)
  pub is_last : last ≡ outcome.last
  pub is_state : stands world.disk outcome.next
  pub still_alike : Alike formats state start.disk → Alike formats outcome.next world.disk

-- a command is done or refused, and leaves this line
abbrev pub IfAnswered : Result Reply Refusal → (Reply → Type 0) → Type 0
IfAnswered (Ok last) P = P last
IfAnswered (Err (Refused line)) P = P line
IfAnswered (Err (Ends stop)) P = Unit {0}

-- What a command does that leads on as `lead` says, where the session stood before it and stands after it, and `waits` of its lines waits to be said.
pub record Does (formats : Formats) (before after : Disk → State → Type 0) (lead : State → Outcome) (result : Result Reply Refusal) (waits : List ℕ) (old new : History) : Type 0 where
  pub instants : (state : State) → Now old (λ w. before w.disk state) → Passed (Replying formats state (lead state)) old new
  pub done : (state : State) → Now old (λ w. before w.disk state)
      → IfAnswered result (λ last. Arrived (HasReplied formats after state (lead state) last waits) old new)

-- ---- A unit

-- Its changes are made, and its whole reply is put: what wasn't said of it waits.
pub record HasPutReply (formats : Formats) (stands : Disk → State → Type 0) (state : State) (outcome : Outcome) (waits : List ℕ) (start world : World) : Type 0 where
  pub heard : world.streams.heard ≡ start.streams.heard
  pub ended : world.streams.ended ≡ start.streams.ended
  pub turns : world.streams.turns ≡ start.streams.turns
  pub part : List ℕ
  pub is_said : world.streams.said ≡ start.streams.said ++ part
  pub are_put : AllSaid SaysLine (outcome_lines outcome) (part ++ waits)
  pub is_state : stands world.disk outcome.next
  pub still_alike : Alike formats state start.disk → Alike formats outcome.next world.disk

-- What a unit does before the last bytes of its reply are said.
pub record DoesUnit (formats : Formats) (before after : Disk → State → Type 0) (unit : client.Unit) (result : Result (Unit {0}) Stop) (waits : List ℕ) (old new : History) : Type 0 where
  pub instants : (state : State) → Now old (λ w. before w.disk state) → Passed (Replying formats state (outcome_of formats state unit)) old new
  pub done : (state : State) → Now old (λ w. before w.disk state) → OnOk result (Arrived (HasPutReply formats after state (outcome_of formats state unit) waits) old new)
