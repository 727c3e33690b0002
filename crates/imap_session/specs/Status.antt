-- STATUS (RFC 3501, section 6.3.10). Of the selected mailbox the session answers.
use Rattle.std.specs.Prelude.{ℕ, List, [], ◌∷◌, length, map, Ok}
use Rattle.imap_arguments.specs.declared.item.StatusItem.{StatusItem}
use Rattle.imap_arguments.specs.declared.item.StatusItem.TheVariants as items
use Rattle.imap_reply.specs.declared.reply.Reply.{Reply}
use Rattle.imap_reply.specs.declared.reply.Reply.TheVariants as reply
use Rattle.imap_reply.specs.declared.text.Words.TheVariants as words
use Rattle.imap_session.specs.State.{Selected, State, infos_of, Outcome, ◌>>=◌, done, or_leaves}
use Rattle.imap_session.specs.Lines.{reply_line}
use Rattle.imap_session.specs.Refusals.{tree_refusal, the_name}
use Rattle.imap_session.specs.Select.{count_unseen, uid_next}
use Rattle.imap_session.specs.Asked.{asked}

abbrev pub status_count : Selected → StatusItem → ℕ
status_count s items.Messages = length (infos_of s)
status_count s items.Recent = length s.recent
status_count s items.UidNext = uid_next s.placed.mailbox
status_count s items.UidValidity = s.placed.mailbox.validity
status_count s items.Unseen = count_unseen (infos_of s)

abbrev pub status_line : Selected → List StatusItem → Reply
status_line s asked = reply.Status s.placed.name (map (λ item. (item, status_count s item)) asked)

abbrev pub status : List ℕ → List ℕ → List StatusItem → State → Outcome
status tag bytes wanted state = or_leaves state (do
  name ← the_name tag bytes
  s ← asked (tree_refusal tag) tag state name
  Ok (done tag words.Status state (reply_line (status_line s wanted) ∷ [])))
