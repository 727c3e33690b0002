-- Refusals that several commands have.
use Rattle.std.specs.Prelude.{ℕ, Bool, List, if◌then◌else◌, Option, Some, None, Result, Ok, Err}
use Rattle.mail_types.specs.declared.driver.Limit.{Limit}
use Rattle.mail_types.specs.declared.driver.Limit.TheVariants as limit
use Rattle.store_trait.specs.declared.faults.OpenFault.{OpenFault}
use Rattle.store_trait.specs.declared.faults.OpenFault.TheVariants as open_fault
use Rattle.store_trait.specs.declared.faults.StoreFault.{StoreFault}
use Rattle.store_trait.specs.declared.faults.StoreFault.TheVariants as store_fault
use Rattle.store_trait.specs.declared.change.Change.{Change}
use Rattle.store_trait.specs.Changes.{due_refusal}
use Rattle.any_store.specs.Choice.{Formats}
use Rattle.mail_tree.specs.Changing.{Placed}
use Rattle.mail_tree.specs.Mailboxes.{written_length}
use Rattle.mail_tree.specs.declared.fault.TreeFault.{TreeFault}
use Rattle.mail_tree.specs.declared.fault.TreeFault.TheVariants as tree_fault
use Rattle.mail_tree.specs.Names.{TargetValue, read_name, read_target}
use Rattle.imap_reply.specs.declared.reply.Reply.{Reply}
use Rattle.imap_reply.specs.declared.reply.Reply.TheVariants as reply
use Rattle.imap_reply.specs.declared.text.Words.{Words}
use Rattle.imap_reply.specs.declared.text.NoText.{NoText}
use Rattle.imap_reply.specs.declared.text.NoText.TheVariants as no
use Rattle.session_loop.specs.declared.answers.Stop.TheVariants as stop
use Rattle.imap_session.specs.declared.refusal.Refusal.{Refusal}
use Rattle.imap_session.specs.declared.refusal.Refusal.TheVariants.{Line as Refused, Ends}
use Rattle.imap_session.specs.State.{Selected, State, Unless}

-- ---- What a refusal says. Failed calls and want of memory end the session: no line says them.

abbrev pub limit_text : Limit → NoText
limit_text limit.File = no.StoreTooLarge
limit_text limit.Text = no.MessageTooLarge
limit_text limit.Records = no.TooManyMessages

abbrev pub open_text : OpenFault → NoText
open_text open_fault.Absent = no.Absent
open_text (open_fault.IllFormed driver records) = no.IllFormed driver records
open_text (open_fault.TooLarge limit) = limit_text limit
open_text open_fault.Failed = no.NotStore
open_text open_fault.Memory = no.NotStore

abbrev pub store_text : StoreFault → NoText
store_text store_fault.NoUid = no.NoUid
store_text store_fault.TooMany = no.TooManyMessages
store_text (store_fault.TooLarge limit) = limit_text limit
store_text store_fault.Failed = no.NotStore
store_text store_fault.Broken = no.NotStore
store_text store_fault.Memory = no.NotStore

abbrev pub tree_text : TreeFault → NoText
tree_text tree_fault.BadName = no.BadName
tree_text tree_fault.There = no.There
tree_text tree_fault.Absent = no.Absent
tree_text tree_fault.NotStore = no.NotStore
tree_text tree_fault.HasChildren = no.HasChildren
tree_text tree_fault.Reserved = no.Reserved
tree_text tree_fault.Selected = no.Selected
tree_text (tree_fault.Open fault) = open_text fault
tree_text (tree_fault.Store fault) = store_text fault
tree_text tree_fault.Failed = no.NotStore
tree_text tree_fault.Memory = no.NotStore

-- ---- Tests

-- a value that must be there
abbrev pub or_refused : {A : Type 0} → Reply → Option A → Unless A
or_refused refusal None = Err refusal
or_refused refusal (Some value) = Ok value

-- a fault that must not be due
abbrev pub unless_due : {Fault : Type 0} → (Fault → Reply) → Option Fault → Unless (Unit {0})
unless_due refusal None = Ok tt
unless_due refusal (Some fault) = Err (refusal fault)

abbrev pub unless_true : Reply → Bool → Unless (Unit {0})
unless_true refusal test = if test then Err refusal else Ok tt

-- the selected mailbox
abbrev pub the_selected : List ℕ → State → Unless Selected
the_selected tag state = or_refused (reply.NotSelected tag) state.selected

-- a mailbox that isn't read-only
abbrev pub writable : List ℕ → Selected → Unless (Unit {0})
writable tag s = unless_true (reply.ReadOnly tag) s.read_only

-- a name, as it is read
abbrev pub the_name : List ℕ → List ℕ → Unless (List ℕ)
the_name tag bytes = or_refused (reply.Refused tag no.BadName) (read_name bytes)

abbrev pub the_target : List ℕ → List ℕ → Unless TargetValue
the_target tag bytes = or_refused (reply.Refused tag no.BadName) (read_target bytes)

-- the line of a command that the tree refuses
abbrev pub tree_refusal : List ℕ → TreeFault → Reply
tree_refusal tag fault = reply.Refused tag (tree_text fault)

abbrev pub unless_tree : List ℕ → Option TreeFault → Unless (Unit {0})
unless_tree tag due = unless_due (tree_refusal tag) due

-- the line of a command that a store refuses
abbrev pub store_refusal : List ℕ → StoreFault → Reply
store_refusal tag fault = reply.Refused tag (store_text fault)

abbrev pub unless_store : List ℕ → Option StoreFault → Unless (Unit {0})
unless_store tag due = unless_due (store_refusal tag) due

-- the refusal that is due of a change of a mailbox
abbrev pub due_of : Formats → Placed → Change → Option StoreFault
due_of formats m change = due_refusal (written_length formats m.driver) m.driver m.contents m.mailbox change

-- The tree refuses a command; a failed call and want of memory end the session.
abbrev pub refused_by : List ℕ → TreeFault → Refusal
refused_by tag tree_fault.Failed = Ends stop.FileFault
refused_by tag tree_fault.Memory = Ends stop.Memory
refused_by tag fault = Refused (tree_refusal tag fault)

-- The store refuses a change; a failed call and want of memory end the session.
abbrev pub refused_by_store : List ℕ → StoreFault → Refusal
refused_by_store tag store_fault.Failed = Ends stop.FileFault
refused_by_store tag store_fault.Memory = Ends stop.Memory
refused_by_store tag fault = Refused (store_refusal tag fault)

-- the last line of a change of the tree, unless the tree refuses it
abbrev pub answered_by : {T : Type 0} → List ℕ → Words → Result T TreeFault → Result Reply Refusal
answered_by tag words (Ok value) = Ok (reply.Done tag words)
answered_by tag words (Err fault) = Err (refused_by tag fault)
