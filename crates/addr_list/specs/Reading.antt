-- How an address list is read from the left, element by element; `Addresses` says what it is.
use Rattle.std.specs.Prelude.{◌≡◌, ℕ, Bool, true, false, not, List, [], ◌∷◌, ◌++◌, ◌==◌, ◌+◌, if◌then◌else◌, Option, Some, None, length, take, drop, nat_lt}
use Rattle.std.specs.List.{prefix_len}
use Rattle.addr_list.specs.Tokens.{Token, run, quoted, literal, mark}
use Rattle.addr_list.specs.Addresses.{behind, both, phrase_of, local_of, host_of}
use Rattle.addr_list.specs.declared.address.Address.{Address}
use Rattle.addr_list.specs.declared.element.Element.{Element}
use Rattle.addr_list.specs.declared.address.Address.TheVariants.{Mailbox, GroupStart, GroupEnd}

-- a token that is this mark
abbrev pub is_this_mark : ℕ → Token → Bool
is_this_mark b (run bytes) = false
is_this_mark b (quoted inner) = false
is_this_mark b (literal bytes) = false
is_this_mark b (mark c) = c == b

-- a token that is no mark
abbrev pub is_part : Token → Bool
is_part (run bytes) = true
is_part (quoted inner) = true
is_part (literal bytes) = true
is_part (mark b) = false

-- whether a mark stands first
abbrev pub begins : ℕ → List Token → Bool
begins b [] = false
begins b (token ∷ rest) = is_this_mark b token

-- the tokens before the first that is this mark, and those behind it
abbrev pub until : ℕ → List Token → ℕ
until b tokens = prefix_len (λ token. not (is_this_mark b token)) tokens

-- a mailbox without a route, or with one, of what could be read
abbrev pub mailbox_of : Option (List ℕ) → Option (List ℕ) → Option (List ℕ) → Option (List ℕ) → Option Address
mailbox_of name route None host = None
mailbox_of name route (Some local) None = None
mailbox_of name route (Some local) (Some host) = Some (Mailbox name route local host)

-- `local@host`
unfoldable pub spec_of : Option (List ℕ) → Option (List ℕ) → List Token → Option Address
spec_of name route tokens =
    let n = prefix_len is_part tokens in
    if begins 64 (drop n tokens) then mailbox_of name route (local_of (take n tokens)) (host_of (drop (n + 1) tokens)) else None

-- a route from its next `@` on, or from the host of one on, of which so many tokens are read
abbrev pub route_from : Option (List Token) → List Token → Option (List ℕ)
route_from None [] = None
route_from None (token ∷ rest) = if is_this_mark 64 token then behind (64 ∷ []) (route_from (Some []) rest) else None
route_from (Some read) [] = host_of read
route_from (Some read) (token ∷ rest) =
    if is_this_mark 44 token then both (host_of read) (behind (44 ∷ []) (route_from None rest))
    else route_from (Some (read ++ token ∷ [])) rest

-- what stands in angle brackets, behind a route that could be read
abbrev pub routed_of : Option (List ℕ) → Option (List ℕ) → List Token → Option Address
routed_of name None tokens = None
routed_of name (Some route) tokens = spec_of name (Some route) tokens

-- what stands in angle brackets
unfoldable pub angle_of : Option (List ℕ) → List Token → Option Address
angle_of name tokens =
    let n = until 58 tokens in
    if begins 64 tokens then (
    if nat_lt n (length tokens) then routed_of name (route_from None (take n tokens)) (drop (n + 1) tokens) else None)
    else spec_of name None tokens

-- a mailbox of so many tokens, if it could be read
abbrev pub mailbox_element : ℕ → Option Address → Option Element
mailbox_element width None = None
mailbox_element width (Some address) = Some (record { width = width; address = Some address; opens = false })

-- the begin of a group, of so many tokens, if its name could be read
abbrev pub group_start : Option (List ℕ) → Option Address
group_start None = None
group_start (Some name) = Some (GroupStart name)

abbrev pub group_element : ℕ → Option Address → Option Element
group_element width None = None
group_element width (Some address) = Some (record { width = width; address = Some address; opens = true })

-- a display name, if there is one, and what stands in angle brackets behind it
abbrev pub named_angle : List Token → Option (List ℕ) → List Token → Option Address
named_angle [] name inner = angle_of None inner
named_angle (token ∷ more) None inner = None
named_angle (token ∷ more) (Some name) inner = angle_of (Some name) inner

-- an angle address, by the words before its first bracket and what stands behind it
unfoldable pub angle_element : ℕ → List Token → List Token → Option Element
angle_element n words inner =
    let m = until 62 inner in
    if nat_lt m (length inner) then mailbox_element (n + 1 + (m + 1)) (named_angle words (phrase_of words) (take m inner)) else None

-- a mailbox without brackets, by the words before its `@` and what stands behind it
unfoldable pub plain_element : ℕ → List Token → List Token → Option Element
plain_element n words inner =
    let m = prefix_len is_part inner in mailbox_element (n + 1 + m) (mailbox_of None None (local_of words) (host_of (take m inner)))

-- the element at the front of some tokens, by the words in front and what stands behind them
unfoldable pub element_from : ℕ → List Token → List Token → Option Element
element_from n words tail =
    if begins 58 tail then group_element (n + 1) (group_start (phrase_of words))
    else if begins 60 tail then angle_element n words (drop 1 tail)
    else if begins 64 tail then plain_element n words (drop 1 tail)
    else if n == 0 then Some (record { width = 0; address = None; opens = false })
    else mailbox_element n (mailbox_of None None (local_of words) (Some []))

-- the element at the front of some tokens
unfoldable pub element_of : List Token → Option Element
element_of tokens = let n = prefix_len is_part tokens in element_from n (take n tokens) (drop n tokens)

-- one level deeper, behind the begin of a group
abbrev pub deeper : Bool → ℕ → ℕ
deeper opens depth = if opens then depth + 1 else depth

-- what an element adds to the list
abbrev pub added : Option Address → List Address → List Address
added None more = more
added (Some address) more = address ∷ more

-- the addresses that are left in so many groups: where an element may begin, or behind one
pub data Reads : Bool → ℕ → List Token → List Address → Type 0 where
  finished : Reads false 0 [] []
  next_element : (depth : ℕ) (tokens : List Token) (e : Element) (more : List Address) → element_of tokens ≡ Some e
      → Reads e.opens (deeper e.opens depth) (drop e.width tokens) more → Reads true depth tokens (added e.address more)
  group_ends : (depth : ℕ) (tokens : List Token) (more : List Address)
      → Reads false depth tokens more → Reads false (depth + 1) (mark 59 ∷ tokens) (GroupEnd ∷ more)
  next_comma : (depth : ℕ) (tokens : List Token) (more : List Address)
      → Reads true depth tokens more → Reads false depth (mark 44 ∷ tokens) more

-- the lists that begin with what is read and go on with what is left
pub record GoesOn (starts : Bool) (depth : ℕ) (left : List Token) (done all : List Address) : Type 0 where
  pub more : List Address
  pub reads : Reads starts depth left more
  pub whole : all ≡ done ++ more
