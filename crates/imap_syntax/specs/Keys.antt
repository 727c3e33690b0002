-- Search keys (RFC 3501, section 9, search-key).
use Rattle.std.specs.Prelude.{ℕ, ℤ, zero, suc, Bool, List, [], ◌∷◌, ◌++◌, ◌==◌, ◌||◌, if◌then◌else◌, Option, Some, None, Ok, Err, length, drop, codes}
use Rattle.std.specs.List.{list_any}
use Rattle.std.specs.Str.{str_eq_ignore_ascii_case}
use Rattle.imap_arguments.specs.Readings.{Read, ◌>>=◌}
use Rattle.imap_arguments.specs.Tokens.{begins, broken_off, byte_at, token_at, separated}
use Rattle.imap_arguments.specs.Numbers.{number_at}
use Rattle.imap_arguments.specs.Strings.{astring_at}
use Rattle.imap_arguments.specs.Sets.{set_at}
use Rattle.imap_arguments.specs.Flags.{keyword_at}
use Rattle.imap_arguments.specs.Dates.{date_at}
use Rattle.imap_arguments.specs.Sections.{begins_digit}
use Rattle.imap_arguments.specs.declared.reason.Reason.TheVariants.{NotUnderstood}
use Rattle.imap_syntax.specs.declared.key.Key.{Key}
use Rattle.imap_syntax.specs.declared.key.Key as keys

-- a key, what stands behind it, and the literals behind those that it took
pub record ReadKey : Type 0 where
  pub key : Key
  pub rest : List ℕ
  pub literals : List (List ℕ)

abbrev pub found : Key → List ℕ → List (List ℕ) → Read ReadKey
found key rest literals = Ok (record { key = key; rest = rest; literals = literals })

-- the keys that are one word, in any letter case
abbrev pub opposite_key : List ℕ → Option Key
opposite_key word =
    if str_eq_ignore_ascii_case word (codes "UNANSWERED") then Some keys.Unanswered
    else if str_eq_ignore_ascii_case word (codes "UNDELETED") then Some keys.Undeleted
    else if str_eq_ignore_ascii_case word (codes "UNDRAFT") then Some keys.Undraft
    else if str_eq_ignore_ascii_case word (codes "UNFLAGGED") then Some keys.Unflagged
    else if str_eq_ignore_ascii_case word (codes "UNSEEN") then Some keys.Unseen
    else if str_eq_ignore_ascii_case word (codes "NEW") then Some keys.New
    else if str_eq_ignore_ascii_case word (codes "OLD") then Some keys.Old
    else None

abbrev pub plain_key : List ℕ → Option Key
plain_key word =
    if str_eq_ignore_ascii_case word (codes "ALL") then Some keys.All
    else if str_eq_ignore_ascii_case word (codes "ANSWERED") then Some keys.Answered
    else if str_eq_ignore_ascii_case word (codes "DELETED") then Some keys.Deleted
    else if str_eq_ignore_ascii_case word (codes "DRAFT") then Some keys.Draft
    else if str_eq_ignore_ascii_case word (codes "FLAGGED") then Some keys.Flagged
    else if str_eq_ignore_ascii_case word (codes "SEEN") then Some keys.Seen
    else if str_eq_ignore_ascii_case word (codes "RECENT") then Some keys.Recent
    else opposite_key word

-- the keys with a string, by their words
abbrev pub is_string_word : List ℕ → Bool
is_string_word word =
    str_eq_ignore_ascii_case word (codes "BCC") || str_eq_ignore_ascii_case word (codes "CC") || str_eq_ignore_ascii_case word (codes "FROM")
    || str_eq_ignore_ascii_case word (codes "SUBJECT") || str_eq_ignore_ascii_case word (codes "TO") || str_eq_ignore_ascii_case word (codes "BODY")
    || str_eq_ignore_ascii_case word (codes "TEXT")

abbrev pub string_key : List ℕ → List ℕ → Key
string_key word text =
    if str_eq_ignore_ascii_case word (codes "BCC") then keys.Bcc text
    else if str_eq_ignore_ascii_case word (codes "CC") then keys.Cc text
    else if str_eq_ignore_ascii_case word (codes "FROM") then keys.From text
    else if str_eq_ignore_ascii_case word (codes "SUBJECT") then keys.Subject text
    else if str_eq_ignore_ascii_case word (codes "TO") then keys.To text
    else if str_eq_ignore_ascii_case word (codes "BODY") then keys.Body text
    else keys.Text text

-- those with a date
abbrev pub is_date_word : List ℕ → Bool
is_date_word word =
    str_eq_ignore_ascii_case word (codes "BEFORE") || str_eq_ignore_ascii_case word (codes "ON") || str_eq_ignore_ascii_case word (codes "SINCE")
    || str_eq_ignore_ascii_case word (codes "SENTBEFORE") || str_eq_ignore_ascii_case word (codes "SENTON") || str_eq_ignore_ascii_case word (codes "SENTSINCE")

abbrev pub date_key : List ℕ → ℤ → Key
date_key word day =
    if str_eq_ignore_ascii_case word (codes "BEFORE") then keys.Before day
    else if str_eq_ignore_ascii_case word (codes "ON") then keys.On day
    else if str_eq_ignore_ascii_case word (codes "SINCE") then keys.Since day
    else if str_eq_ignore_ascii_case word (codes "SENTBEFORE") then keys.SentBefore day
    else if str_eq_ignore_ascii_case word (codes "SENTON") then keys.SentOn day
    else keys.SentSince day

-- the keys with one argument that takes no literal: a date, a number that may be 0, a keyword, a set
unfoldable pub argument_key : List ℕ → List ℕ → Read (Key × List ℕ)
argument_key word bytes =
    if is_date_word word then (date_at bytes >>= λ date. Ok (date_key word date.0, date.1))
    else if str_eq_ignore_ascii_case word (codes "LARGER") then (number_at bytes >>= λ number. Ok (keys.Larger number.0, number.1))
    else if str_eq_ignore_ascii_case word (codes "SMALLER") then (number_at bytes >>= λ number. Ok (keys.Smaller number.0, number.1))
    else if str_eq_ignore_ascii_case word (codes "KEYWORD") then (keyword_at bytes >>= λ name. Ok (keys.Keyword name.0, name.1))
    else if str_eq_ignore_ascii_case word (codes "UNKEYWORD") then (keyword_at bytes >>= λ name. Ok (keys.Unkeyword name.0, name.1))
    else if str_eq_ignore_ascii_case word (codes "UID") then (set_at bytes >>= λ set. Ok (keys.Uid set.0, set.1))
    else Err NotUnderstood

abbrev pub is_argument_word : List ℕ → Bool
is_argument_word word =
    is_date_word word || str_eq_ignore_ascii_case word (codes "LARGER") || str_eq_ignore_ascii_case word (codes "SMALLER")
    || str_eq_ignore_ascii_case word (codes "KEYWORD") || str_eq_ignore_ascii_case word (codes "UNKEYWORD") || str_eq_ignore_ascii_case word (codes "UID")

-- HEADER, behind its space: a field name and a string
unfoldable pub header_key : List ℕ → List (List ℕ) → Read ReadKey
header_key bytes literals = do
  name ← astring_at bytes literals
  behind ← byte_at 32 name.rest
  text ← astring_at behind name.literals
  found (keys.Header name.value text.value) text.rest text.literals

abbrev pub some_key : Option Key → List ℕ → List (List ℕ) → Read ReadKey
some_key None rest literals = Err NotUnderstood
some_key (Some key) rest literals = found key rest literals

-- a key that has no keys in it, by its word
unfoldable pub leaf_at : List ℕ → List ℕ → List (List ℕ) → Read ReadKey
leaf_at word bytes literals =
    if is_string_word word then (byte_at 32 bytes >>= λ behind. astring_at behind literals >>= λ text. found (string_key word text.value) text.rest text.literals)
    else if is_argument_word word then (byte_at 32 bytes >>= λ behind. argument_key word behind >>= λ key. found key.0 key.1 literals)
    else if str_eq_ignore_ascii_case word (codes "HEADER") then (byte_at 32 bytes >>= λ behind. header_key behind literals)
    else some_key (plain_key word) bytes literals

-- a set of message numbers
abbrev pub numbers_at : List ℕ → List (List ℕ) → Read ReadKey
numbers_at bytes literals = set_at bytes >>= λ set. found (keys.Numbers set.0) set.1 literals

-- what a key begins with, and what stands behind that: a parenthesis, a set, a word that other keys follow, or another word
pub data Opening : Type 0 where
  parenthesis numbers negation either : List ℕ → Opening
  leaf : List ℕ → List ℕ → Opening

abbrev pub word_opening : List ℕ → List ℕ → Opening
word_opening word rest =
    if str_eq_ignore_ascii_case word (codes "NOT") then negation rest
    else if str_eq_ignore_ascii_case word (codes "OR") then either rest
    else leaf word rest

unfoldable pub opening_of : List ℕ → Read Opening
opening_of bytes =
    if begins 40 bytes then Ok (parenthesis (drop 1 bytes))
    else if begins_digit bytes || begins 42 bytes then Ok (numbers bytes)
    else (token_at bytes >>= λ token. Ok (word_opening token.0 token.1))

-- keys that are read, and the literals behind those that they took
pub record ReadKeys : Type 0 where
  pub keys : List Key
  pub literals : List (List ℕ)

-- a key more
abbrev pub add_key : (List ℕ → List (List ℕ) → Read ReadKey) → ReadKeys → List ℕ → Read (ReadKeys × List ℕ)
add_key one before bytes = one bytes before.literals >>= λ key. Ok (record { keys = before.keys ++ key.key ∷ []; literals = key.literals }, key.rest)

-- keys with a space between them
abbrev pub keys_with : (List ℕ → List (List ℕ) → Read ReadKey) → List ℕ → List (List ℕ) → Read (ReadKeys × List ℕ)
keys_with one bytes literals = separated 32 (add_key one) (length bytes) (record { keys = []; literals = literals }) bytes

-- keys in parentheses, behind the last of them
abbrev pub closed : ReadKeys × List ℕ → Read ReadKey
closed all = byte_at 41 all.1 >>= λ rest. found (keys.AllOf all.0.keys) rest all.0.literals

-- a key by what it begins with, and by how the keys in it are read
abbrev pub key_of : (List ℕ → List (List ℕ) → Read ReadKey) → List (List ℕ) → Opening → Read ReadKey
key_of inner literals (parenthesis bytes) = keys_with inner bytes literals >>= closed
key_of inner literals (numbers bytes) = numbers_at bytes literals
key_of inner literals (negation rest) = byte_at 32 rest >>= λ behind. inner behind literals >>= λ key. found (keys.Not key.key) key.rest key.literals
key_of inner literals (either rest) = byte_at 32 rest >>= λ behind. inner behind literals >>= λ one. byte_at 32 one.rest >>= λ after. inner after one.literals >>= λ other.
    found (keys.Or one.key other.key) other.rest other.literals
key_of inner literals (leaf word rest) = leaf_at word rest literals

-- a key that may have so many levels of keys, itself counted; a deeper one isn't read
abbrev pub key_at : ℕ → List ℕ → List (List ℕ) → Read ReadKey
key_at zero bytes literals = Err (broken_off bytes)
key_at (suc levels) bytes literals = opening_of bytes >>= key_of (key_at levels) literals

-- one key stands for itself, and several for all of them
abbrev pub all_of : List Key → Key
all_of [] = keys.AllOf []
all_of (key ∷ []) = key
all_of (one ∷ other ∷ more) = keys.AllOf (one ∷ other ∷ more)

-- the keys of a command: a hundred levels
unfoldable pub search_keys_at : List ℕ → List (List ℕ) → Read ReadKey
search_keys_at bytes literals = keys_with (key_at 100) bytes literals >>= λ all. found (all_of all.0.keys) all.1 all.0.literals

-- the key that a text without literals is, and nothing else
abbrev pub whole_key : Read ReadKey → Option Key
whole_key (Err reason) = None
whole_key (Ok read) = if length read.rest == 0 then Some read.key else None

unfoldable pub keys_of : List ℕ → Option Key
keys_of text = if list_any (λ b. b == 0) text then None else whole_key (search_keys_at text [])
