-- How a command ends.
use Rattle.std.specs.Prelude.{ℕ, List, Bool, false, Option, Some, None, Result, Ok, Err}
use Rattle.imap_reply.specs.declared.reply.Reply.{Reply}
use Rattle.session_loop.specs.declared.answers.Stop.{Stop}
use Rattle.session_loop.specs.declared.answers.Stop.TheVariants.{FileFault, Memory}
use Rattle.store_trait.specs.declared.faults.StoreFault.{StoreFault}
use Rattle.store_trait.specs.declared.faults.StoreFault.TheVariants.{Failed}
use Rattle.imap_session.specs.declared.refusal.Refusal.{Refusal}
use Rattle.imap_session.specs.declared.refusal.Refusal.TheVariants.{Ends}
use Rattle.imap_session.specs.declared.session.Open.{Open}

-- its untagged lines were put, and its last line is left, unless the session ended
abbrev pub ends_with : Result (Unit {0}) Stop → Reply → Result Reply Refusal
ends_with (Ok u) last = Ok last
ends_with (Err stop) last = Err (Ends stop)

-- a call on a store that failed, or for which memory lacked, ends the session; no other fault is due where this is asked
abbrev pub stop_of : StoreFault → Stop
stop_of Failed = FileFault
stop_of fault = Memory

abbrev pub is_read_only : {S : Type 0} → Option (Open S) → Bool
is_read_only None = false
is_read_only (Some o) = o.read_only

abbrev pub open_name : {S : Type 0} → Option (Open S) → Option (List ℕ)
open_name None = None
open_name (Some o) = Some o.name
