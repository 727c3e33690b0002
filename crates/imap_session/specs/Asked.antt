-- The mailbox that a name asks for: the selected one as the session has it, or another as it opens.
use Rattle.std.specs.Prelude.{ℕ, Bool, true, false, List, bytes_eq, if◌then◌else◌, Option, Some, None, Ok}
use Rattle.mail_tree.specs.declared.fault.TreeFault.{TreeFault}
use Rattle.imap_reply.specs.declared.reply.Reply.{Reply}
use Rattle.imap_session.specs.State.{Selected, State, Unless}
use Rattle.imap_session.specs.Select.{opening}

abbrev pub has_that_name : List ℕ → Option Selected → Bool
has_that_name name None = false
has_that_name name (Some s) = bytes_eq s.placed.name name

-- the name is the selected mailbox's
abbrev pub is_selected : State → List ℕ → Bool
is_selected state name = has_that_name name state.selected

-- the selected one where the name is its, and another as it opens
abbrev pub asked_in : Option Selected → List ℕ → Unless Selected → Unless Selected
asked_in None name other = other
asked_in (Some s) name other = if bytes_eq s.placed.name name then Ok s else other

abbrev pub asked : (refusal : TreeFault → Reply) → List ℕ → State → List ℕ → Unless Selected
asked refusal tag state name = asked_in state.selected name (opening refusal tag true state name)
