-- APPEND and COPY (RFC 3501, sections 6.3.11 and 6.4.7).
use Rattle.std.specs.Prelude.{ℕ, Bool, true, false, List, [], ◌∷◌, ◌++◌, ◌+◌, nat_lt, not, if◌then◌else◌, length, map, slice_get, unwrap_or, Option, Some, None, Ok}
use Rattle.std.specs.List.{filter, list_all, list_any}
use Rattle.mail_fields.specs.declared.stamp.Stamp.{Stamp}
use Rattle.mail_types.specs.declared.driver.Driver.{Driver}
use Rattle.mail_types.specs.declared.mailbox.Mailbox.{Mailbox}
use Rattle.mail_types.specs.declared.message.NewMessage.{NewMessage}
use Rattle.mail_types.specs.declared.message.Record.{Record}
use Rattle.mail_types.specs.Drivers.{keeps_of}
use Rattle.mail_types.specs.Mailboxes.{has_no_nul}
use Rattle.mail_types.specs.Opening.{numbers_from}
use Rattle.mail_types.specs.Stamps.{moment_stamp}
use Rattle.store_trait.specs.declared.change.Change.{Change}
use Rattle.store_trait.specs.declared.change.Change.TheVariants.{Append}
use Rattle.imap_arguments.specs.declared.flag.FlagList.{FlagList}
use Rattle.imap_arguments.specs.declared.set.Set.{Set}
use Rattle.mail_tree.specs.declared.fault.TreeFault.{TreeFault}
use Rattle.mail_tree.specs.declared.fault.TreeFault.TheVariants as tree_fault
use Rattle.mail_tree.specs.Changing.{tree_after}
use Rattle.imap_reply.specs.declared.reply.Reply.{Reply}
use Rattle.imap_reply.specs.declared.reply.Reply.TheVariants as reply
use Rattle.imap_reply.specs.declared.text.Words.{Words}
use Rattle.imap_reply.specs.declared.text.Words.TheVariants as words
use Rattle.session_loop.specs.declared.answers.Stop.TheVariants as stop
use Rattle.any_store.specs.Choice.{Formats}
use Rattle.imap_session.specs.declared.adding.Brought.{Brought}
use Rattle.imap_session.specs.declared.refusal.Refusal.{Refusal}
use Rattle.imap_session.specs.declared.refusal.Refusal.TheVariants.{Line as Refused, Ends}
use Rattle.imap_session.specs.State.{Selected, State, infos_of, Outcome, Unless, ◌>>=◌, with_tree, changed_selected, changed_state, done, or_leaves}
use Rattle.imap_session.specs.Refusals.{tree_refusal, the_selected, the_name, unless_store, due_of}
use Rattle.imap_session.specs.Sets.{named_places, unless_past}
use Rattle.imap_session.specs.Names.{has_name, grown, numbers_of, names_of}
use Rattle.imap_session.specs.Lines.{reply_lines}
use Rattle.imap_session.specs.Select.{counts, opening}
use Rattle.imap_session.specs.Asked.{is_selected}

-- ---- Messages that are added

-- A mailbox that is absent may be created first.
abbrev pub target_refusal : List ℕ → TreeFault → Reply
target_refusal tag tree_fault.Absent = reply.TryCreate tag
target_refusal tag fault = tree_refusal tag fault

-- The mailbox can't be opened; a failed call and want of memory end the session.
abbrev pub target_refused : List ℕ → TreeFault → Refusal
target_refused tag tree_fault.Failed = Ends stop.FileFault
target_refused tag tree_fault.Memory = Ends stop.Memory
target_refused tag fault = Refused (target_refusal tag fault)

-- the keyword list of a mailbox with the names of the messages, where one is brought
abbrev pub names_with : Driver → (words : List (List ℕ)) → List Brought → (names : List (List ℕ)) → List (List ℕ)
names_with driver words brought names = if nat_lt 0 (length brought) then grown (keeps_of driver).words words names else words

-- No session has been told of it, but the one that has selected the mailbox where that may change it.
abbrev pub new_message : (told : Bool) → (names : List (List ℕ)) → Brought → NewMessage
new_message told names b = record { text = b.text; stamp = b.stamp; flags = record b.flags { old = told }; words = numbers_of b.names names }

abbrev pub addition : (told : Bool) → Driver → (words : List (List ℕ)) → List Brought → (names : List (List ℕ)) → Change
addition told driver words brought names =
    let next = names_with driver words brought names in Append (map (new_message told next) brought) next

-- the same of a mailbox
abbrev pub addition_to : (told : Bool) → Selected → List Brought → (names : List (List ℕ)) → Change
addition_to told s brought names = addition told s.placed.driver s.placed.mailbox.words brought names

-- ---- Where they go, unless a limit is passed

-- to the selected mailbox, where they are recent
abbrev pub with_new : Selected → (count : ℕ) → List ℕ
with_new s count = s.recent ++ numbers_from (s.placed.mailbox.last + 1) count

abbrev pub added_here : Formats → List ℕ → Words → State → Selected → Change → (count : ℕ) → Outcome
added_here formats tag word state s change count =
    done tag word (changed_state formats state s (with_new s count) change) (reply_lines (counts (changed_selected s (with_new s count) change)))

abbrev pub add_change_here : Formats → List ℕ → Words → State → (count : ℕ) → Selected → Change → Unless Outcome
add_change_here formats tag word state count s change = do
  fits ← unless_store tag (due_of formats s.placed change)
  Ok (added_here formats tag word state s change count)

abbrev pub add_here : Formats → List ℕ → Words → State → List Brought → (names : List (List ℕ)) → Unless Outcome
add_here formats tag word state brought names = do
  s ← the_selected tag state
  add_change_here formats tag word state (length brought) s (addition_to (not s.read_only) s brought names)

-- to another
abbrev pub added_there : Formats → List ℕ → Words → State → Selected → Change → Outcome
added_there formats tag word state target change = done tag word (with_tree state (tree_after formats state.tree target.placed change)) []

abbrev pub add_change_there : Formats → List ℕ → Words → State → Selected → Change → Unless Outcome
add_change_there formats tag word state target change = do
  fits ← unless_store tag (due_of formats target.placed change)
  Ok (added_there formats tag word state target change)

abbrev pub add_there : Formats → List ℕ → Words → State → (name : List ℕ) → List Brought → (names : List (List ℕ)) → Unless Outcome
add_there formats tag word state name brought names = do
  target ← opening (target_refusal tag) tag true state name
  add_change_there formats tag word state target (addition_to false target brought names)

abbrev pub add : Formats → List ℕ → Words → State → (name : List ℕ) → List Brought → (names : List (List ℕ)) → Unless Outcome
add formats tag word state name brought names =
    if is_selected state name then add_here formats tag word state brought names
    else add_there formats tag word state name brought names

-- none of them has a NUL
abbrev pub are_clean : List Brought → Bool
are_clean brought = list_all (λ (b : Brought). has_no_nul b.text) brought

-- ---- The commands

-- a message without a date takes the session's moment
abbrev pub appended : FlagList → Option Stamp → (text : List ℕ) → (moment : ℕ) → Brought
appended flags stamp text moment = record { text = text; stamp = unwrap_or stamp (moment_stamp moment); flags = flags.flags; names = flags.words }

abbrev pub append : Formats → List ℕ → List ℕ → FlagList → Option Stamp → List ℕ → State → Outcome
append formats tag bytes flags stamp text state = or_leaves state (do
  name ← the_name tag bytes
  add formats tag words.Append state name (appended flags stamp text state.moment ∷ []) flags.words)

-- the messages at places, with their flags, their dates and their keywords by name
abbrev pub brought_of : Option Record → (names : List (List ℕ)) → List Brought
brought_of None names = []
brought_of (Some r) names = record { text = r.text; stamp = r.stamp; flags = r.flags; names = names_of r.words names } ∷ []

abbrev pub brought_from : Mailbox → List ℕ → List Brought
brought_from m [] = []
brought_from m (place ∷ places) = brought_of (slice_get m.records place) m.words ++ brought_from m places

-- the names that one of them has, in the order of the source's list
abbrev pub names_among : List Brought → List (List ℕ) → List (List ℕ)
names_among brought names = filter (λ name. list_any (λ (b : Brought). has_name b.names name) brought) names

abbrev pub copied : (uid : Bool) → Words
copied uid = if uid then words.UidCopy else words.Copy

abbrev pub copy_to : Formats → List ℕ → (uid : Bool) → State → Selected → (name : List ℕ) → List Brought → Unless Outcome
copy_to formats tag uid state s name brought = add formats tag (copied uid) state name brought (names_among brought s.placed.mailbox.words)

abbrev pub copy : Formats → List ℕ → (uid : Bool) → Set → List ℕ → State → Outcome
copy formats tag uid set bytes state = or_leaves state (do
  s ← the_selected tag state
  there ← unless_past tag uid set (infos_of s)
  name ← the_name tag bytes
  copy_to formats tag uid state s name (brought_from s.placed.mailbox (named_places uid set (infos_of s))))
