-- The lines that a session says. What FETCH says of a message is a relation: its items and the message looked at have these texts.
use Rattle.std.specs.Prelude.{ℕ, List, ◌≡◌, map}
use Rattle.imap_arguments.specs.declared.item.Item.{Item}
use Rattle.imap_reply.specs.declared.reply.Reply.{Reply}
use Rattle.imap_reply.specs.declared.reply.Reply.TheVariants as reply
use Rattle.imap_reply.specs.Replies.{reply_bytes}
use Rattle.imap_session.specs.Items.{LookedAt, AreItems}

pub data Line : Type 0 where
  reply_line : Reply → Line
  message_line : List Item → LookedAt → Line

abbrev pub SaysLine : Line → List ℕ → Type 0
SaysLine (reply_line line) bytes = bytes ≡ reply_bytes line
SaysLine (message_line items m) bytes = (texts : List (List ℕ)) × AreItems items m texts × (bytes ≡ reply_bytes (reply.Fetch m.number texts))

abbrev pub reply_lines : List Reply → List Line
reply_lines lines = map reply_line lines
