-- The words of commands (RFC 3501, section 6), in any letter case.
use Rattle.std.specs.Prelude.{ℕ, List, Option, Some, None, if◌then◌else◌, codes}
use Rattle.std.specs.Option.{option_or}
use Rattle.std.specs.Str.{str_eq_ignore_ascii_case}
use Rattle.imap_syntax.specs.declared.verb.Verb.{Verb}
use Rattle.imap_syntax.specs.declared.verb.Verb.TheVariants as verbs

-- commands without arguments that are read
abbrev pub plain_verb : List ℕ → Option Verb
plain_verb word =
    if str_eq_ignore_ascii_case word (codes "CAPABILITY") then Some verbs.Capability
    else if str_eq_ignore_ascii_case word (codes "NOOP") then Some verbs.Noop
    else if str_eq_ignore_ascii_case word (codes "CHECK") then Some verbs.Check
    else if str_eq_ignore_ascii_case word (codes "CLOSE") then Some verbs.Close
    else if str_eq_ignore_ascii_case word (codes "EXPUNGE") then Some verbs.Expunge
    else if str_eq_ignore_ascii_case word (codes "LOGOUT") then Some verbs.Logout
    else if str_eq_ignore_ascii_case word (codes "STARTTLS") then Some verbs.Password
    else if str_eq_ignore_ascii_case word (codes "LOGIN") then Some verbs.Password
    else if str_eq_ignore_ascii_case word (codes "AUTHENTICATE") then Some verbs.Password
    else None

-- commands with the name of a mailbox
abbrev pub name_verb : List ℕ → Option Verb
name_verb word =
    if str_eq_ignore_ascii_case word (codes "SELECT") then Some verbs.Select
    else if str_eq_ignore_ascii_case word (codes "EXAMINE") then Some verbs.Examine
    else if str_eq_ignore_ascii_case word (codes "CREATE") then Some verbs.Create
    else if str_eq_ignore_ascii_case word (codes "DELETE") then Some verbs.Delete
    else if str_eq_ignore_ascii_case word (codes "SUBSCRIBE") then Some verbs.Subscribe
    else if str_eq_ignore_ascii_case word (codes "UNSUBSCRIBE") then Some verbs.Unsubscribe
    else if str_eq_ignore_ascii_case word (codes "RENAME") then Some verbs.Rename
    else if str_eq_ignore_ascii_case word (codes "LIST") then Some verbs.List
    else if str_eq_ignore_ascii_case word (codes "LSUB") then Some verbs.Lsub
    else if str_eq_ignore_ascii_case word (codes "STATUS") then Some verbs.Status
    else if str_eq_ignore_ascii_case word (codes "APPEND") then Some verbs.Append
    else None

-- commands that UID may stand before
abbrev pub message_verb : List ℕ → Option Verb
message_verb word =
    if str_eq_ignore_ascii_case word (codes "SEARCH") then Some verbs.Search
    else if str_eq_ignore_ascii_case word (codes "FETCH") then Some verbs.Fetch
    else if str_eq_ignore_ascii_case word (codes "STORE") then Some verbs.Store
    else if str_eq_ignore_ascii_case word (codes "COPY") then Some verbs.Copy
    else None

abbrev pub uid_verb : List ℕ → Option Verb
uid_verb word = if str_eq_ignore_ascii_case word (codes "UID") then Some verbs.Uid else None

unfoldable pub verb_of : List ℕ → Option Verb
verb_of word = option_or (option_or (option_or (plain_verb word) (name_verb word)) (message_verb word)) (uid_verb word)
