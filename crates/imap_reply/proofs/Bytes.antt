-- How many bytes lines have.
use Rattle.std.proofs.Common.{ℕ, ◌≤◌, ◌+◌, length, length-append, arith, List, [], ◌∷◌, ◌++◌, ◌≢◌, codes}
use Rattle.imap_reply.specs.declared.text.Words.{Words}
use Rattle.imap_reply.specs.declared.text.Words.TheVariants as words
use Rattle.imap_reply.specs.declared.reply.Reply.{Reply}
use Rattle.imap_reply.specs.declared.reply.Reply.TheVariants as reply
use Rattle.imap_reply.specs.Texts.{words_text, no_text, reason_text}
use Rattle.imap_reply.specs.Replies.{tagged, crlf, reply_bytes}

tagged_says : (tag text : List ℕ) → tagged tag text ≢ []
tagged_says [] text is = absurd (cc)
tagged_says (b ∷ tag) text is = absurd (cc)

-- every line has a byte
pub line_says : (line : Reply) → reply_bytes line ≢ []
line_says reply.Greeting is = absurd (cc)
line_says reply.Announce is = absurd (cc)
line_says (reply.Done tag words) is = tagged_says tag (codes "OK " ++ (words_text words ++ codes " done")) is
line_says (reply.Selected tag) is = tagged_says tag (codes "OK [READ-WRITE] SELECT done") is
line_says (reply.Examined tag) is = tagged_says tag (codes "OK [READ-ONLY] EXAMINE done") is
line_says reply.Capability is = absurd (cc)
line_says reply.Bye is = absurd (cc)
line_says (reply.Password tag word) is = tagged_says tag (codes "NO " ++ (word ++ codes " not available")) is
line_says (reply.Large tag) is = tagged_says tag (codes "NO literal too large") is
line_says (reply.ReadOnly tag) is = tagged_says tag (codes "NO mailbox is read-only") is
line_says (reply.Charset tag) is = tagged_says tag (codes "NO [BADCHARSET (US-ASCII)] charset not known") is
line_says (reply.NotSelected tag) is = tagged_says tag (codes "BAD no mailbox selected") is
line_says (reply.NoMessage tag) is = tagged_says tag (codes "BAD no such message") is
line_says (reply.Bad tag reason) is = tagged_says tag (codes "BAD " ++ reason_text reason) is
line_says (reply.Refused tag why) is = tagged_says tag (codes "NO " ++ no_text why) is
line_says (reply.TryCreate tag) is = tagged_says tag (codes "NO [TRYCREATE] no such mailbox") is
line_says (reply.Flags names) is = absurd (cc)
line_says (reply.Exists n) is = absurd (cc)
line_says (reply.Recent n) is = absurd (cc)
line_says (reply.Unseen n) is = absurd (cc)
line_says (reply.PermanentFlags flags names more) is = absurd (cc)
line_says (reply.UidNext n) is = absurd (cc)
line_says (reply.UidValidity n) is = absurd (cc)
line_says (reply.List name directory) is = absurd (cc)
line_says reply.ListEmpty is = absurd (cc)
line_says (reply.Lsub name leads) is = absurd (cc)
line_says (reply.Status name counts) is = absurd (cc)
line_says (reply.Search numbers) is = absurd (cc)
line_says (reply.Expunge n) is = absurd (cc)
line_says (reply.Fetch n texts) is = absurd (cc)

-- ---- Short lines

words_width : (words : Words) → length (words_text words) ≤ 11
words_width words.Capability = omega (arith)
words_width words.Noop = omega (arith)
words_width words.Check = omega (arith)
words_width words.Logout = omega (arith)
words_width words.Create = omega (arith)
words_width words.Delete = omega (arith)
words_width words.Rename = omega (arith)
words_width words.Subscribe = omega (arith)
words_width words.Unsubscribe = omega (arith)
words_width words.List = omega (arith)
words_width words.Lsub = omega (arith)
words_width words.Status = omega (arith)
words_width words.Append = omega (arith)
words_width words.Close = omega (arith)
words_width words.Expunge = omega (arith)
words_width words.Search = omega (arith)
words_width words.Fetch = omega (arith)
words_width words.Store = omega (arith)
words_width words.Copy = omega (arith)
words_width words.UidSearch = omega (arith)
words_width words.UidFetch = omega (arith)
words_width words.UidStore = omega (arith)
words_width words.UidCopy = omega (arith)

-- the last line of a command that was done, by its tag
pub done_width : (tag : List ℕ) (words : Words) → length (reply_bytes (reply.Done tag words)) ≤ length tag + 22
done_width tag words =
    let few = words_width words in
    let whole = length-append tag (codes " " ++ ((codes "OK " ++ (words_text words ++ codes " done")) ++ crlf)) in
    let text = length-append (words_text words ++ codes " done") crlf in
    let word = length-append (words_text words) (codes " done") in
    omega (arith, few, whole, text, word)
