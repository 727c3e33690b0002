-- SELECT and EXAMINE (RFC 3501, sections 6.3.1 and 6.3.2).
use Rattle.std.specs.Prelude.{ℕ, Bool, true, false, List, [], ◌∷◌, ◌++◌, ◌+◌, nat_lt, min, not, if◌then◌else◌, length, map, Ok}
use Rattle.std.specs.List.{filter}
use Rattle.mail_types.specs.declared.driver.Keeps.{Keeps}
use Rattle.mail_types.specs.declared.mailbox.Mailbox.{Mailbox}
use Rattle.mail_types.specs.declared.message.FlagChange.{FlagChange}
use Rattle.store_trait.specs.declared.store.Info.{Info}
use Rattle.store_trait.specs.Views.{summary_of}
use Rattle.mail_types.specs.Drivers.{keeps_of, every_flag}
use Rattle.mail_types.specs.Opening.{opened_mailbox}
use Rattle.store_trait.specs.declared.change.Change.TheVariants.{SetFlags}
use Rattle.mail_tree.specs.declared.fault.TreeFault.{TreeFault}
use Rattle.mail_tree.specs.Changes.{due_open}
use Rattle.imap_reply.specs.declared.reply.Reply.{Reply}
use Rattle.imap_reply.specs.declared.reply.Reply.TheVariants as reply
use Rattle.imap_reply.specs.declared.text.NoText.TheVariants as no
use Rattle.imap_session.specs.State.{Selected, State, infos_of, Outcome, Unless, ◌>>=◌, fresh, selecting, unselected, changed_state, or_leaves}
use Rattle.imap_session.specs.Refusals.{or_refused, the_name, unless_due, tree_refusal}
use Rattle.any_store.specs.Choice.{Formats}
use Rattle.mail_tree.specs.Mailboxes.{Found, found_at}
use Rattle.imap_session.specs.Lines.{reply_lines}

-- ---- What the mailbox is

-- a message is recent where no session has been told of it
abbrev pub unseen_before : List Info → List Info
unseen_before infos = filter (λ (info : Info). not info.flags.old) infos

abbrev pub opened : (read_only : Bool) → (fresh : ℕ) → List ℕ → Found → Selected
opened read_only fresh name found =
    let m = opened_mailbox found.contents fresh in
    record { placed = record { name = name; driver = found.driver; contents = found.contents; mailbox = m }; read_only = read_only; recent = map (λ (i : Info). i.uid) (unseen_before (summary_of m).infos) }

-- from now on a session has been told of each message
abbrev pub told_from : (place : ℕ) → List Info → List FlagChange
told_from place [] = []
told_from place (info ∷ rest) =
    if info.flags.old then told_from (place + 1) rest
    else record { place = place; flags = record info.flags { old = true }; words = info.words } ∷ told_from (place + 1) rest

-- EXAMINE changes nothing
abbrev pub told : Formats → State → Selected → State
told formats state s =
    if s.read_only then selecting state s
    else changed_state formats state s s.recent (SetFlags (told_from 0 (infos_of s)) s.placed.mailbox.words)

-- ---- What is said of it

abbrev pub count_unseen : List Info → ℕ
count_unseen infos = length (filter (λ (info : Info). not info.flags.seen) infos)

-- the number of the first message that is unseen
abbrev pub first_unseen : (number : ℕ) → List Info → List Reply
first_unseen number [] = []
first_unseen number (info ∷ rest) = if info.flags.seen then first_unseen (number + 1) rest else reply.Unseen number ∷ []

-- the next UID is the last one and one more, where that has 32 bits
abbrev pub uid_next : Mailbox → ℕ
uid_next m = min (m.last + 1) 4294967295

abbrev pub permanent_flags : Keeps → Selected → Reply
permanent_flags keeps s =
    if s.read_only then reply.PermanentFlags (every_flag false) [] false
    else reply.PermanentFlags keeps.flags s.placed.mailbox.words (nat_lt (length s.placed.mailbox.words) keeps.words)

abbrev pub counts : Selected → List Reply
counts s = reply.Exists (length (infos_of s)) ∷ reply.Recent (length s.recent) ∷ []

abbrev pub selected_lines : Selected → List Reply
selected_lines s =
    reply.Flags s.placed.mailbox.words ∷ counts s ++ first_unseen 1 (infos_of s)
    ++ permanent_flags (keeps_of s.placed.driver) s ∷ reply.UidNext (uid_next s.placed.mailbox) ∷ reply.UidValidity s.placed.mailbox.validity ∷ []

abbrev pub last_line : List ℕ → (read_only : Bool) → Reply
last_line tag read_only = if read_only then reply.Examined tag else reply.Selected tag

-- ---- The commands

-- the mailbox of a name as it opens, or the line that says why it can't be opened
abbrev pub opening : (refusal : TreeFault → Reply) → List ℕ → (read_only : Bool) → State → (name : List ℕ) → Unless Selected
opening refusal tag read_only state name = do
  stands ← unless_due refusal (due_open state.tree name)
  found ← or_refused (reply.Refused tag no.NotStore) (found_at state.tree name)
  Ok (opened read_only (fresh state) name found)

abbrev pub select_opened : Formats → List ℕ → State → Selected → Outcome
select_opened formats tag state s = record { next = told formats state s; untagged = reply_lines (selected_lines s); last = last_line tag s.read_only }

-- It first leaves the mailbox that was selected, without expunging.
abbrev pub select : Formats → (read_only : Bool) → List ℕ → List ℕ → State → Outcome
select formats read_only tag bytes state = or_leaves (unselected state) (do
  name ← the_name tag bytes
  s ← opening (tree_refusal tag) tag read_only state name
  Ok (select_opened formats tag (unselected state) s))
