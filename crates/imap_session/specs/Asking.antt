-- What is told of the mailbox that a name asks for.
use Rattle.std.specs.Prelude.{ℕ, Bool, false, List, ◌+◌, ◌≡◌, ◌⊎◌, true, bytes_eq, length, map, min, Option, Some, None, Ok, Err}
use Rattle.imap_arguments.specs.declared.item.StatusItem.{StatusItem}
use Rattle.imap_arguments.specs.declared.item.StatusItem.TheVariants as items
use Rattle.imap_reply.specs.declared.reply.Reply.{Reply}
use Rattle.imap_reply.specs.declared.reply.Reply.TheVariants as reply
use Rattle.mail_tree.specs.Changes.{breaks_tree}
use Rattle.mail_tree.specs.declared.fault.TreeFault.{TreeFault}
use Rattle.store_trait.specs.Views.{Summary}
use Rattle.imap_session.specs.declared.session.Open.{Open}
use Rattle.imap_session.specs.Asked.{asked}
use Rattle.imap_session.specs.Select.{count_unseen}
use Rattle.imap_session.specs.State.{Selected, State}
use Rattle.imap_session.specs.Status.{status_line}

-- the open mailbox has this name
abbrev pub is_named : {S : Type 0} → Option (Open S) → List ℕ → Bool
is_named None name = false
is_named (Some o) name = bytes_eq o.name name

-- the line of a mailbox by what its store tells
abbrev pub told_count : (recent : List ℕ) → Summary → StatusItem → ℕ
told_count recent told items.Messages = length told.infos
told_count recent told items.Recent = length recent
told_count recent told items.UidNext = min (told.last + 1) 4294967295
told_count recent told items.UidValidity = told.validity
told_count recent told items.Unseen = count_unseen told.infos

abbrev pub told_status : (name recent : List ℕ) → Summary → List StatusItem → Reply
told_status name recent told asked = reply.Status name (map (λ item. (item, told_count recent told item)) asked)

-- a name asks for a mailbox, whatever a refusal would say
abbrev pub AsksFor : State → List ℕ → Selected → Type 0
AsksFor state name s = (refusal : TreeFault → Reply) (tag : List ℕ) → asked refusal tag state name ≡ Ok s

-- or it is refused, unless a call failed or memory lacked
abbrev pub AsksInVain : State → List ℕ → TreeFault → Type 0
AsksInVain state name fault = ((refusal : TreeFault → Reply) (tag : List ℕ) → asked refusal tag state name ≡ Err (refusal fault)) ⊎ (breaks_tree fault ≡ true)

-- a line says what is asked of that mailbox
abbrev pub SaysAsked : State → List ℕ → List StatusItem → Reply → Type 0
SaysAsked state name wanted line = (s : Selected) × AsksFor state name s × (line ≡ status_line s wanted)
