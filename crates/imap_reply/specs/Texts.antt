-- Words, flags and names as replies have them (RFC 3501, sections 7 and 9).
use Rattle.std.specs.Prelude.{ℕ, zero, suc, Bool, true, false, List, [], ◌∷◌, ◌++◌, ◌||◌, if◌then◌else◌, codes, decimal}
use Rattle.std.specs.List.{list_all}
use Rattle.mail_fields.specs.Keyword.{is_atom}
use Rattle.mail_types.specs.declared.driver.Driver.{Driver}
use Rattle.mail_types.specs.declared.driver.Driver.TheVariants as drivers
use Rattle.mail_types.specs.declared.flags.Flags.{Flags}
use Rattle.imap_arguments.specs.declared.item.StatusItem.{StatusItem}
use Rattle.imap_arguments.specs.declared.item.StatusItem.TheVariants as items
use Rattle.imap_reply.specs.declared.text.Words.{Words}
use Rattle.imap_reply.specs.declared.text.Words.TheVariants as words
use Rattle.imap_reply.specs.declared.text.NoText.{NoText}
use Rattle.imap_reply.specs.declared.text.NoText.TheVariants as no

-- ---- Lists in parentheses

-- texts, each behind a space
abbrev pub behind_spaces : List (List ℕ) → List ℕ
behind_spaces [] = []
behind_spaces (text ∷ texts) = codes " " ++ text ++ behind_spaces texts

-- texts with one space between
abbrev pub spaced : List (List ℕ) → List ℕ
spaced [] = []
spaced (text ∷ texts) = text ++ behind_spaces texts

-- whether there is one
abbrev pub has_texts : List (List ℕ) → Bool
has_texts [] = false
has_texts (text ∷ texts) = true

-- texts with one space between, behind others or not
abbrev pub behind_some : (some : Bool) → List (List ℕ) → List ℕ
behind_some some texts = if some then behind_spaces texts else spaced texts

-- such texts in parentheses
abbrev pub in_parentheses : List (List ℕ) → List ℕ
in_parentheses texts = codes "(" ++ (spaced texts ++ codes ")")

-- ---- Flags

-- a text, where it is to stand
abbrev pub text_if : Bool → List ℕ → List (List ℕ)
text_if set text = if set then text ∷ [] else []

-- the system flags that a client can set, in their order (RFC 3501, section 2.3.2)
abbrev pub system_flags : Flags → List (List ℕ)
system_flags flags =
    text_if flags.seen (codes "\\Seen") ++ text_if flags.answered (codes "\\Answered") ++ text_if flags.flagged (codes "\\Flagged")
    ++ text_if flags.deleted (codes "\\Deleted") ++ text_if flags.draft (codes "\\Draft")

-- whether there is one of them
abbrev pub has_some : Flags → Bool
has_some flags = flags.seen || (flags.answered || (flags.flagged || (flags.deleted || flags.draft)))

-- all system flags that a client can set
abbrev pub every_system_flag : List (List ℕ)
every_system_flag = codes "\\Seen" ∷ codes "\\Answered" ∷ codes "\\Flagged" ∷ codes "\\Deleted" ∷ codes "\\Draft" ∷ []

-- ---- Names

-- a name as an atom where it has atom bytes alone, else quoted
abbrev pub name_text : List ℕ → List ℕ
name_text name = if list_all is_atom name then name else codes "\"" ++ name ++ codes "\""

-- a driver's name
abbrev pub driver_word : Driver → List ℕ
driver_word drivers.Unix = codes "unix"
driver_word drivers.Mmdf = codes "mmdf"
driver_word drivers.Mbx = codes "mbx"
driver_word drivers.Mtx = codes "mtx"
driver_word drivers.Tenex = codes "tenex"
driver_word drivers.Mh = codes "mh"
driver_word drivers.Mix = codes "mix"

-- the word of an item of STATUS
abbrev pub item_word : StatusItem → List ℕ
item_word items.Messages = codes "MESSAGES"
item_word items.Recent = codes "RECENT"
item_word items.UidNext = codes "UIDNEXT"
item_word items.UidValidity = codes "UIDVALIDITY"
item_word items.Unseen = codes "UNSEEN"

-- an item of STATUS and its number
abbrev pub count_text : StatusItem × ℕ → List ℕ
count_text count = item_word count.0 ++ codes " " ++ decimal count.1

-- ---- Words of the last line

-- the command that was done
abbrev pub words_text : Words → List ℕ
words_text words.Capability = codes "CAPABILITY"
words_text words.Noop = codes "NOOP"
words_text words.Check = codes "CHECK"
words_text words.Logout = codes "LOGOUT"
words_text words.Create = codes "CREATE"
words_text words.Delete = codes "DELETE"
words_text words.Rename = codes "RENAME"
words_text words.Subscribe = codes "SUBSCRIBE"
words_text words.Unsubscribe = codes "UNSUBSCRIBE"
words_text words.List = codes "LIST"
words_text words.Lsub = codes "LSUB"
words_text words.Status = codes "STATUS"
words_text words.Append = codes "APPEND"
words_text words.Close = codes "CLOSE"
words_text words.Expunge = codes "EXPUNGE"
words_text words.Search = codes "SEARCH"
words_text words.Fetch = codes "FETCH"
words_text words.Store = codes "STORE"
words_text words.Copy = codes "COPY"
words_text words.UidSearch = codes "UID SEARCH"
words_text words.UidFetch = codes "UID FETCH"
words_text words.UidStore = codes "UID STORE"
words_text words.UidCopy = codes "UID COPY"

-- why a command was refused, but for the count of a store's records
abbrev pub plain_text : NoText → List ℕ
plain_text no.BadName = codes "bad mailbox name"
plain_text no.There = codes "mailbox exists"
plain_text no.Absent = codes "no such mailbox"
plain_text no.NotStore = codes "not a mailbox"
plain_text no.HasChildren = codes "directory not empty"
plain_text no.Reserved = codes "INBOX is reserved"
plain_text no.Selected = codes "mailbox is selected"
plain_text (no.IllFormed driver records) = []
plain_text no.StoreTooLarge = codes "store too large"
plain_text no.MessageTooLarge = codes "message too large"
plain_text no.TooManyMessages = codes "too many messages"
plain_text no.NoUid = codes "no UID left"

-- the same with that count
abbrev pub no_text : NoText → List ℕ
no_text (no.IllFormed driver records) = codes "ill-formed " ++ (driver_word driver ++ (codes " store after " ++ (decimal records ++ codes " records")))
no_text why = plain_text why

-- the text at a place of a list
abbrev pub text_at : ℕ → List (List ℕ) → List ℕ
text_at n [] = []
text_at zero (text ∷ texts) = text
text_at (suc n) (text ∷ texts) = text_at n texts

-- what is wrong with a bad command, by the number of the reason; 0 where it isn't built
abbrev pub reason_text : ℕ → List ℕ
reason_text reason = text_at reason (
    codes "not built" ∷ codes "no tag" ∷ codes "line too long" ∷ codes "no command" ∷ codes "unknown command" ∷ codes "argument missing"
    ∷ codes "argument not understood" ∷ codes "text after the command" ∷ codes "NUL in the command" ∷ codes "number out of range" ∷ [])
