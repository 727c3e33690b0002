-- SEARCH (RFC 3501, section 6.4.4).
use Rattle.std.specs.Prelude.{ℕ, Bool, false, true, not, List, [], ◌∷◌, ◌+◌, nat_eq, if◌then◌else◌, map, Option, Some, None, Ok, codes}
use Rattle.std.specs.List.{list_any}
use Rattle.std.specs.Str.{str_eq_ignore_ascii_case}
use Rattle.imap_reply.specs.declared.reply.Reply.TheVariants as reply
use Rattle.imap_reply.specs.declared.text.Words.{Words}
use Rattle.imap_reply.specs.declared.text.Words.TheVariants as words
use Rattle.imap_syntax.specs.declared.key.Key.{Key}
use Rattle.looked_message.specs.Messages.{LookedAt, record_looked_at}
use Rattle.mail_types.specs.declared.mailbox.Mailbox.{Mailbox}
use Rattle.mail_types.specs.declared.message.Record.{Record}
use Rattle.search_eval.specs.Keys.{key_holds}
use Rattle.search_eval.specs.declared.largest.Largest.{Largest}
use Rattle.store_trait.specs.declared.store.Info.{Info}
use Rattle.store_trait.specs.Views.{info_of}
use Rattle.imap_session.specs.Lines.{reply_line}
use Rattle.imap_session.specs.Refusals.{the_selected, unless_true}
use Rattle.imap_session.specs.Sets.{number_at, largest}
use Rattle.imap_session.specs.State.{State, Outcome, ◌>>=◌, done, or_leaves}

-- a charset is known where none is named, or US-ASCII in any letter case
abbrev pub is_known : Option (List ℕ) → Bool
is_known None = true
is_known (Some name) = str_eq_ignore_ascii_case name (codes "US-ASCII")

-- what `*` stands for in sets of numbers and of UIDs
abbrev pub largest_of : List Info → Largest
largest_of infos = record { number = largest false infos; uid = largest true infos }

-- The numbers of the messages of which a key holds, from a place on; behind UID their UIDs.
abbrev pub found_from : (uid : Bool) → Key → Largest → (recent : List ℕ) → (names : List (List ℕ)) → (place : ℕ) → List Record → List ℕ
found_from uid key most recent names place [] = []
found_from uid key most recent names place (r ∷ rest) =
    if key_holds most (record_looked_at (place + 1) r (list_any (nat_eq r.uid) recent) names) key
    then number_at uid place (info_of r) ∷ found_from uid key most recent names (place + 1) rest
    else found_from uid key most recent names (place + 1) rest

-- those of a mailbox, of which these UIDs are recent
abbrev pub found : (uid : Bool) → Key → (recent : List ℕ) → Mailbox → List ℕ
found uid key recent m = found_from uid key (largest_of (map info_of m.records)) recent m.words 0 m.records

-- A message of which a store tells. No key asks for its modification number.
abbrev pub told_at : (number : ℕ) → Info → (recent : Bool) → (names : List (List ℕ)) → (text : List ℕ) → LookedAt
told_at number info recent names text = record { number = number; info = info; modseq = 0; recent = recent; words = names; text = text }

-- ---- The command

abbrev pub searched : (uid : Bool) → Words
searched uid = if uid then words.UidSearch else words.Search

abbrev pub search : List ℕ → (uid : Bool) → (charset : Option (List ℕ)) → Key → State → Outcome
search tag uid charset key state = or_leaves state (do
  s ← the_selected tag state
  known ← unless_true (reply.Charset tag) (not (is_known charset))
  Ok (done tag (searched uid) state (reply_line (reply.Search (found uid key s.recent s.placed.mailbox)) ∷ [])))
