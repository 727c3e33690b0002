-- LIST and LSUB (RFC 3501, sections 6.3.8 and 6.3.9).
use Rattle.std.specs.Prelude.{ℕ, Bool, List, [], ◌∷◌, ◌==◌, if◌then◌else◌, length, map}
use Rattle.mail_tree.specs.Listing.{ListedName, listed, listed_subscribed}
use Rattle.imap_reply.specs.declared.reply.Reply.{Reply}
use Rattle.imap_reply.specs.declared.reply.Reply.TheVariants as reply
use Rattle.imap_reply.specs.declared.text.Words.TheVariants as words
use Rattle.imap_session.specs.Lines.{reply_lines}
use Rattle.imap_session.specs.State.{State, Outcome, done}

abbrev pub list_line : ListedName → Reply
list_line entry = reply.List entry.name entry.directory

abbrev pub lsub_line : ListedName → Reply
lsub_line entry = reply.Lsub entry.name entry.directory

-- the line of a name, which LSUB or LIST gives
abbrev pub name_line : (subscribed : Bool) → ListedName → Reply
name_line subscribed entry = if subscribed then lsub_line entry else list_line entry

-- an empty pattern asks for the delimiter alone
abbrev pub list : List ℕ → List ℕ → List ℕ → State → Outcome
list tag reference pattern state =
    done tag words.List state (reply_lines (if length pattern == 0 then reply.ListEmpty ∷ [] else map list_line (listed state.tree reference pattern)))

abbrev pub lsub : List ℕ → List ℕ → List ℕ → State → Outcome
lsub tag reference pattern state = done tag words.Lsub state (reply_lines (map lsub_line (listed_subscribed state.tree reference pattern)))
