-- The bytes of each line of a reply (RFC 3501, section 7).
use Rattle.std.specs.Prelude.{ℕ, Bool, List, [], ◌++◌, if◌then◌else◌, flat_map, map, codes, decimal}
use Rattle.imap_reply.specs.declared.reply.Reply.{Reply}
use Rattle.imap_reply.specs.declared.reply.Reply.TheVariants as reply
use Rattle.imap_reply.specs.Texts.{behind_spaces, in_parentheses, text_if, system_flags, every_system_flag, name_text, count_text, words_text, no_text, reason_text}

-- the end of a line
abbrev pub crlf : List ℕ
crlf = codes "\r\n"

-- a line that ends the command of a tag
abbrev pub tagged : List ℕ → List ℕ → List ℕ
tagged tag text = tag ++ (codes " " ++ (text ++ crlf))

-- a line that ends no command
abbrev pub untagged : List ℕ → List ℕ
untagged text = codes "* " ++ (text ++ crlf)

-- the mark of a plain directory, and that of anything else
abbrev pub list_mark : Bool → List ℕ
list_mark directory = if directory then codes "\\Noselect" else codes "\\NoInferiors"

-- the mark of a name that isn't subscribed and leads to subscribed ones
abbrev pub lsub_mark : Bool → List ℕ
lsub_mark leads = if leads then codes "\\Noselect" else []

-- the bytes of a line
abbrev pub reply_bytes : Reply → List ℕ
reply_bytes reply.Greeting = untagged (codes "PREAUTH [CAPABILITY IMAP4rev1] ready")
reply_bytes reply.Announce = codes "+ Ready\r\n"
reply_bytes (reply.Done tag words) = tagged tag (codes "OK " ++ (words_text words ++ codes " done"))
reply_bytes (reply.Selected tag) = tagged tag (codes "OK [READ-WRITE] SELECT done")
reply_bytes (reply.Examined tag) = tagged tag (codes "OK [READ-ONLY] EXAMINE done")
reply_bytes reply.Capability = untagged (codes "CAPABILITY IMAP4rev1")
reply_bytes reply.Bye = untagged (codes "BYE bye")
reply_bytes (reply.Password tag word) = tagged tag (codes "NO " ++ (word ++ codes " not available"))
reply_bytes (reply.Large tag) = tagged tag (codes "NO literal too large")
reply_bytes (reply.ReadOnly tag) = tagged tag (codes "NO mailbox is read-only")
reply_bytes (reply.Charset tag) = tagged tag (codes "NO [BADCHARSET (US-ASCII)] charset not known")
reply_bytes (reply.NotSelected tag) = tagged tag (codes "BAD no mailbox selected")
reply_bytes (reply.NoMessage tag) = tagged tag (codes "BAD no such message")
reply_bytes (reply.Bad tag reason) = tagged tag (codes "BAD " ++ reason_text reason)
reply_bytes (reply.Refused tag why) = tagged tag (codes "NO " ++ no_text why)
reply_bytes (reply.TryCreate tag) = tagged tag (codes "NO [TRYCREATE] no such mailbox")
reply_bytes (reply.Flags names) = untagged (codes "FLAGS " ++ in_parentheses (every_system_flag ++ names))
reply_bytes (reply.Exists n) = untagged (decimal n ++ codes " EXISTS")
reply_bytes (reply.Recent n) = untagged (decimal n ++ codes " RECENT")
reply_bytes (reply.Unseen n) = untagged (codes "OK [UNSEEN " ++ (decimal n ++ codes "] first unseen"))
reply_bytes (reply.PermanentFlags flags names more) =
    untagged (codes "OK [PERMANENTFLAGS " ++ (in_parentheses ((system_flags flags ++ names) ++ text_if more (codes "\\*")) ++ codes "] flags kept"))
reply_bytes (reply.UidNext n) = untagged (codes "OK [UIDNEXT " ++ (decimal n ++ codes "] next UID"))
reply_bytes (reply.UidValidity n) = untagged (codes "OK [UIDVALIDITY " ++ (decimal n ++ codes "] UIDs valid"))
reply_bytes (reply.List name directory) = untagged (codes "LIST (" ++ (list_mark directory ++ (codes ") \"/\" " ++ name_text name)))
reply_bytes reply.ListEmpty = untagged (codes "LIST (\\Noselect) \"/\" \"\"")
reply_bytes (reply.Lsub name leads) = untagged (codes "LSUB (" ++ (lsub_mark leads ++ (codes ") \"/\" " ++ name_text name)))
reply_bytes (reply.Status name counts) = untagged (codes "STATUS " ++ (name_text name ++ (codes " " ++ in_parentheses (map count_text counts))))
reply_bytes (reply.Search numbers) = untagged (codes "SEARCH" ++ behind_spaces (map decimal numbers))
reply_bytes (reply.Expunge n) = untagged (decimal n ++ codes " EXPUNGE")
reply_bytes (reply.Fetch n texts) = untagged (decimal n ++ (codes " FETCH " ++ in_parentheses texts))

-- several lines
abbrev pub replies_bytes : List Reply → List ℕ
replies_bytes replies = flat_map reply_bytes replies
