-- The address list of a field body (RFC 5322, section 3.4, and section 4.4 for routes).
use Rattle.std.specs.Prelude.{◌≡◌, ℕ, Bool, true, false, List, [], ◌∷◌, ◌++◌, ◌==◌, ◌-◌, ◌||◌, not, if◌then◌else◌, Option, Some, None, length, get_or}
use Rattle.std.specs.List.{list_all}
use Rattle.addr_list.specs.Tokens.{Token, run, quoted, literal, mark, AreTokens}
use Rattle.addr_list.specs.declared.address.Address.{Address}
use Rattle.addr_list.specs.declared.address.Address.TheVariants.{Mailbox, GroupStart, GroupEnd}

-- bytes before what may be none
abbrev pub behind : List ℕ → Option (List ℕ) → Option (List ℕ)
behind bytes None = None
behind bytes (Some more) = Some (bytes ++ more)

-- two texts in a row, if both are there
abbrev pub both : Option (List ℕ) → Option (List ℕ) → Option (List ℕ)
both None more = None
both (Some bytes) more = behind bytes more

-- a quoted string without the backslash of each pair, behind a backslash or not
abbrev pub unquoted_from : Bool → List ℕ → List ℕ
unquoted_from escaped [] = []
unquoted_from true (b ∷ rest) = b ∷ unquoted_from false rest
unquoted_from false (b ∷ rest) = if b == 92 then unquoted_from true rest else b ∷ unquoted_from false rest

-- the bytes that a quoted string stands for (RFC 5322, section 3.2.4)
abbrev pub unquoted : List ℕ → List ℕ
unquoted inner = unquoted_from false inner

-- atoms and dots with nothing between them
abbrev pub run_of : Token → Option (List ℕ)
run_of (run bytes) = Some bytes
run_of (quoted inner) = None
run_of (literal bytes) = None
run_of (mark b) = None

-- a word: such a run, or a quoted string
abbrev pub word_of : Token → Option (List ℕ)
word_of (run bytes) = Some bytes
word_of (quoted inner) = Some (unquoted inner)
word_of (literal bytes) = None
word_of (mark b) = None

-- words, each with a space before it
abbrev pub more_words : List Token → Option (List ℕ)
more_words [] = Some []
more_words (token ∷ more) = both (behind (32 ∷ []) (word_of token)) (more_words more)

-- a phrase: one or more words, joined by one space (RFC 5322, section 3.2.5)
abbrev pub phrase_of : List Token → Option (List ℕ)
phrase_of [] = None
phrase_of (token ∷ more) = both (word_of token) (more_words more)

-- a dot at the front, and at the end
abbrev pub begins_dot : List ℕ → Bool
begins_dot bytes = get_or bytes 0 0 == 46

abbrev pub ends_dot : List ℕ → Bool
ends_dot bytes = get_or bytes (length bytes - 1) 0 == 46

-- a run behind another, which ends in a dot or doesn't: a dot stands between two atoms
abbrev pub next_run : Bool → Token → Option (List ℕ)
next_run dot (run bytes) = if dot || begins_dot bytes then Some bytes else None
next_run dot (quoted inner) = None
next_run dot (literal bytes) = None
next_run dot (mark b) = None

-- whether a token ends in a dot
abbrev pub leaves_dot : Token → Bool
leaves_dot (run bytes) = ends_dot bytes
leaves_dot (quoted inner) = false
leaves_dot (literal bytes) = false
leaves_dot (mark b) = false

-- runs behind a run
abbrev pub more_runs : Bool → List Token → Option (List ℕ)
more_runs dot [] = Some []
more_runs dot (token ∷ more) = both (next_run dot token) (more_runs (leaves_dot token) more)

-- atoms and dots, where blanks and comments may stand beside a dot (dot-atom and obs-domain of RFC 5322, sections 3.2.3 and 4.4)
abbrev pub dotted_of : List Token → Option (List ℕ)
dotted_of tokens = more_runs true tokens

-- a local part: atoms and dots, or one quoted string (RFC 5322, section 3.4.1)
abbrev pub local_of : List Token → Option (List ℕ)
local_of [] = None
local_of (token ∷ []) = word_of token
local_of (token ∷ next ∷ more) = dotted_of (token ∷ next ∷ more)

-- a token that is a host by itself: a run, or a domain literal
abbrev pub host_word : Token → Option (List ℕ)
host_word (run bytes) = Some bytes
host_word (quoted inner) = None
host_word (literal bytes) = Some bytes
host_word (mark b) = None

-- a host: atoms and dots, or one domain literal (RFC 5322, section 3.4.1)
abbrev pub host_of : List Token → Option (List ℕ)
host_of [] = None
host_of (token ∷ []) = host_word token
host_of (token ∷ next ∷ more) = dotted_of (token ∷ next ∷ more)

-- `@a` or `@a,@b` and so on, the hosts of a route (obs-route of RFC 5322, section 4.4)
pub data IsRoute : List Token → List ℕ → Type 0 where
  last : (tokens : List Token) (host : List ℕ) → host_of tokens ≡ Some host
      → IsRoute (mark 64 ∷ tokens) (64 ∷ host)
  more : (tokens rest : List Token) (host bytes : List ℕ) → host_of tokens ≡ Some host → IsRoute rest bytes
      → IsRoute (mark 64 ∷ tokens ++ mark 44 ∷ rest) (64 ∷ host ++ 44 ∷ bytes)

-- the route of an angle address, with its colon, or none
pub data IsRoutePart : List Token → Option (List ℕ) → Type 0 where
  unrouted : IsRoutePart [] None
  routed : (tokens : List Token) (bytes : List ℕ) → IsRoute tokens bytes → IsRoutePart (tokens ++ mark 58 ∷ []) (Some bytes)

-- the display name of an angle address, or none
pub data IsName : List Token → Option (List ℕ) → Type 0 where
  unnamed : IsName [] None
  named : (tokens : List Token) (name : List ℕ) → phrase_of tokens ≡ Some name → IsName tokens (Some name)

-- a mailbox: `local`, `local@host`, or `local@host` in angle brackets, perhaps with a route, perhaps behind a display name
pub data IsMailbox : List Token → Address → Type 0 where
  bare : (tokens : List Token) (local : List ℕ) → local_of tokens ≡ Some local
      → IsMailbox tokens (Mailbox None None local [])
  plain : (left right : List Token) (local host : List ℕ) → local_of left ≡ Some local → host_of right ≡ Some host
      → IsMailbox (left ++ mark 64 ∷ right) (Mailbox None None local host)
  angle : (front way left right : List Token) (name route : Option (List ℕ)) (local host : List ℕ)
      → IsName front name → IsRoutePart way route → local_of left ≡ Some local → host_of right ≡ Some host
      → IsMailbox (front ++ mark 60 ∷ way ++ left ++ mark 64 ∷ right ++ mark 62 ∷ []) (Mailbox name route local host)

-- an address list: nothing, a mailbox, a group, which holds a list, or two lists with a comma between them
pub data IsAddressList : List Token → List Address → Type 0 where
  nothing : IsAddressList [] []
  mailbox : (tokens : List Token) (address : Address) → IsMailbox tokens address → IsAddressList tokens (address ∷ [])
  group : (front inner : List Token) (name : List ℕ) (members : List Address) → phrase_of front ≡ Some name → IsAddressList inner members
      → IsAddressList (front ++ mark 58 ∷ inner ++ mark 59 ∷ []) (GroupStart name ∷ members ++ GroupEnd ∷ [])
  comma : (left right : List Token) (first more : List Address) → IsAddressList left first → IsAddressList right more
      → IsAddressList (left ++ mark 44 ∷ right) (first ++ more)

-- no CR and no LF
abbrev pub is_unfolded : List ℕ → Bool
is_unfolded body = list_all (λ b. not ((b == 13) || (b == 10))) body

-- an unfolded field body, and the address list that its tokens are
pub record ReadsAddresses (body : List ℕ) (addresses : List Address) : Type 0 where
  pub unfolded : is_unfolded body ≡ true
  pub tokens : List Token
  pub spelled : AreTokens body tokens
  pub list : IsAddressList tokens addresses

-- this is the only address list of the body
abbrev pub IsOnlyReading : List ℕ → List Address → Type 0
IsOnlyReading body addresses = (other : List Address) → ReadsAddresses body other → other ≡ addresses

-- a body outside the grammar
abbrev pub HasNoReading : List ℕ → Type 0
HasNoReading body = (addresses : List Address) → ReadsAddresses body addresses → ⊥

-- the address list of some tokens, and no other; none
abbrev pub IsOnlyList : List Token → List Address → Type 0
IsOnlyList tokens addresses = (other : List Address) → IsAddressList tokens other → other ≡ addresses

abbrev pub HasNoList : List Token → Type 0
HasNoList tokens = (addresses : List Address) → IsAddressList tokens addresses → ⊥
