-- EXPUNGE and CLOSE (RFC 3501, sections 6.4.3 and 6.4.2).
use Rattle.std.specs.Prelude.{ℕ, Bool, List, [], ◌∷◌, ◌+◌, ◌==◌, ◌&&◌, not, if◌then◌else◌, Ok}
use Rattle.std.specs.List.{filter, list_any}
use Rattle.store_trait.specs.declared.store.Info.{Info}
use Rattle.store_trait.specs.declared.change.Change.TheVariants.{Expunge}
use Rattle.imap_reply.specs.declared.reply.Reply.{Reply}
use Rattle.imap_reply.specs.declared.reply.Reply.TheVariants as reply
use Rattle.imap_reply.specs.declared.text.Words.TheVariants as words
use Rattle.imap_session.specs.State.{Selected, State, infos_of, Outcome, ◌>>=◌, unselected, changed_state, done, or_leaves}
use Rattle.imap_session.specs.Refusals.{the_selected, writable}
use Rattle.any_store.specs.Choice.{Formats}
use Rattle.imap_session.specs.Lines.{reply_lines}

-- the places of the deleted messages, from one on
abbrev pub deleted_from : (place : ℕ) → List Info → List ℕ
deleted_from place [] = []
deleted_from place (info ∷ rest) = if info.flags.deleted then place ∷ deleted_from (place + 1) rest else deleted_from (place + 1) rest

-- the deleted messages are recent no more
abbrev pub is_deleted : List Info → (uid : ℕ) → Bool
is_deleted infos uid = list_any (λ (info : Info). info.flags.deleted && (info.uid == uid)) infos

abbrev pub recent_left : Selected → List ℕ
recent_left s = filter (λ uid. not (is_deleted (infos_of s) uid)) s.recent

abbrev pub dropped : Formats → State → Selected → State
dropped formats state s = changed_state formats state s (recent_left s) (Expunge (deleted_from 0 (infos_of s)))

-- one line a message, by the number that the lines before it have left it
abbrev pub expunge_lines : (number : ℕ) → List Info → List Reply
expunge_lines number [] = []
expunge_lines number (info ∷ rest) = if info.flags.deleted then reply.Expunge number ∷ expunge_lines number rest else expunge_lines (number + 1) rest

abbrev pub expunge : Formats → List ℕ → State → Outcome
expunge formats tag state = or_leaves state (do
  s ← the_selected tag state
  can ← writable tag s
  Ok (done tag words.Expunge (dropped formats state s) (reply_lines (expunge_lines 1 (infos_of s)))))

-- CLOSE drops nothing of a mailbox that is read-only
abbrev pub close : Formats → List ℕ → State → Outcome
close formats tag state = or_leaves state (do
  s ← the_selected tag state
  Ok (done tag words.Close (unselected (if s.read_only then state else dropped formats state s)) []))
