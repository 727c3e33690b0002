-- What FETCH and STATUS ask for (RFC 3501, section 9, fetch-att and status-att).
use Rattle.std.specs.Prelude.{ℕ, Bool, true, false, List, [], ◌∷◌, ◌++◌, ◌==◌, ◌&&◌, not, if◌then◌else◌, Option, Some, None, Ok, Err, length, take, drop, codes}
use Rattle.std.specs.List.{prefix_len}
use Rattle.std.specs.Str.{str_eq_ignore_ascii_case}
use Rattle.mail_fields.specs.Keyword.{is_atom}
use Rattle.imap_arguments.specs.Readings.{Read, ◌>>=◌}
use Rattle.imap_arguments.specs.Tokens.{begins, broken_off, byte_at, token_at, separated}
use Rattle.imap_arguments.specs.Sections.{section_at, partial_at}
use Rattle.imap_arguments.specs.declared.reason.Reason.TheVariants.{NotUnderstood}
use Rattle.imap_arguments.specs.declared.item.Item as item
use Rattle.imap_arguments.specs.declared.item.Item.TheVariants as items
use Rattle.imap_arguments.specs.declared.item.StatusItem as status
use Rattle.imap_arguments.specs.declared.item.StatusItem.TheVariants as statuses

abbrev pub plain_rfc822 : List ℕ → Option item.Item
plain_rfc822 word =
    if str_eq_ignore_ascii_case word (codes "RFC822") then Some items.Rfc822
    else if str_eq_ignore_ascii_case word (codes "RFC822.HEADER") then Some items.Rfc822Header
    else if str_eq_ignore_ascii_case word (codes "RFC822.TEXT") then Some items.Rfc822Text
    else None

-- an item that is one word, in any letter case
abbrev pub plain_item : List ℕ → Option item.Item
plain_item word =
    if str_eq_ignore_ascii_case word (codes "FLAGS") then Some items.Flags
    else if str_eq_ignore_ascii_case word (codes "INTERNALDATE") then Some items.InternalDate
    else if str_eq_ignore_ascii_case word (codes "RFC822.SIZE") then Some items.Size
    else if str_eq_ignore_ascii_case word (codes "ENVELOPE") then Some items.Envelope
    else if str_eq_ignore_ascii_case word (codes "BODY") then Some items.Body
    else if str_eq_ignore_ascii_case word (codes "BODYSTRUCTURE") then Some items.BodyStructure
    else if str_eq_ignore_ascii_case word (codes "UID") then Some items.Uid
    else plain_rfc822 word

-- a byte of an item's word: the bracket of a section ends it
abbrev pub is_item_byte : ℕ → Bool
is_item_byte b = is_atom b && not (b == 91)

-- an item, what stands behind it, and the literals
pub record ReadItem : Type 0 where
  pub item : item.Item
  pub rest : List ℕ
  pub literals : List (List ℕ)

-- a section and perhaps a part of it; PEEK leaves the message unseen
unfoldable pub part_at : Bool → List ℕ → List (List ℕ) → Read ReadItem
part_at peek bytes literals = do
  found ← section_at bytes literals
  partial ← partial_at found.rest
  Ok (record { item = items.Part found.section partial.0 peek; rest = partial.1; literals = found.literals })

abbrev pub some_item : Option item.Item → List ℕ → List (List ℕ) → Read ReadItem
some_item None rest literals = Err NotUnderstood
some_item (Some item) rest literals = Ok (record { item = item; rest = rest; literals = literals })

-- the item of a word: BODY.PEEK wants a section, BODY may have one, and no other has
unfoldable pub word_item : List ℕ → List ℕ → List (List ℕ) → Read ReadItem
word_item word bytes literals =
    if str_eq_ignore_ascii_case word (codes "BODY.PEEK") then part_at true bytes literals
    else if begins 91 bytes then (if str_eq_ignore_ascii_case word (codes "BODY") then part_at false bytes literals else Err NotUnderstood)
    else some_item (plain_item word) bytes literals

unfoldable pub item_at : List ℕ → List (List ℕ) → Read ReadItem
item_at bytes literals =
    let width = prefix_len is_item_byte bytes in
    if width == 0 then Err (broken_off bytes) else word_item (take width bytes) (drop width bytes) literals

-- items, and the literals behind those that they take
pub record Items : Type 0 where
  pub items : List item.Item
  pub literals : List (List ℕ)

-- an item more
abbrev pub add_item : Items → List ℕ → Read (Items × List ℕ)
add_item before bytes = item_at bytes before.literals >>= λ found. Ok (record { items = before.items ++ found.item ∷ []; literals = found.literals }, found.rest)

-- items with a space between them
abbrev pub inner_items_at : List ℕ → List (List ℕ) → Read (Items × List ℕ)
inner_items_at bytes literals = separated 32 add_item (length bytes) (record { items = []; literals = literals }) bytes

-- a list of items in parentheses
unfoldable pub item_list_at : List ℕ → List (List ℕ) → Read (Items × List ℕ)
item_list_at bytes literals = do
  inner ← byte_at 40 bytes
  found ← inner_items_at inner literals
  rest ← byte_at 41 found.1
  Ok (found.0, rest)

-- the items that FAST, ALL and FULL stand for (RFC 3501, section 6.4.5)
abbrev pub macro_items : List ℕ → Option (List item.Item)
macro_items word =
    let fast = items.Flags ∷ items.InternalDate ∷ items.Size ∷ [] in
    if str_eq_ignore_ascii_case word (codes "FAST") then Some fast
    else if str_eq_ignore_ascii_case word (codes "ALL") then Some (fast ++ items.Envelope ∷ [])
    else if str_eq_ignore_ascii_case word (codes "FULL") then Some (fast ++ items.Envelope ∷ items.Body ∷ [])
    else None

abbrev pub macro_or_item : Option (List item.Item) → List ℕ → List ℕ → List (List ℕ) → Read (Items × List ℕ)
macro_or_item (Some all) bytes rest literals = Ok (record { items = all; literals = literals }, rest)
macro_or_item None bytes rest literals = add_item (record { items = []; literals = literals }) bytes

-- what FETCH asks for: a list, one of these words, or one item
unfoldable pub fetch_items_at : List ℕ → List (List ℕ) → Read (Items × List ℕ)
fetch_items_at bytes literals =
    let width = prefix_len is_atom bytes in
    if begins 40 bytes then item_list_at bytes literals
    else macro_or_item (macro_items (take width bytes)) bytes (drop width bytes) literals

-- an item of STATUS, in any letter case
abbrev pub status_item : List ℕ → Option status.StatusItem
status_item word =
    if str_eq_ignore_ascii_case word (codes "MESSAGES") then Some statuses.Messages
    else if str_eq_ignore_ascii_case word (codes "RECENT") then Some statuses.Recent
    else if str_eq_ignore_ascii_case word (codes "UIDNEXT") then Some statuses.UidNext
    else if str_eq_ignore_ascii_case word (codes "UIDVALIDITY") then Some statuses.UidValidity
    else if str_eq_ignore_ascii_case word (codes "UNSEEN") then Some statuses.Unseen
    else None

abbrev pub some_status : Option status.StatusItem → List ℕ → Read (status.StatusItem × List ℕ)
some_status None rest = Err NotUnderstood
some_status (Some item) rest = Ok (item, rest)

unfoldable pub status_at : List ℕ → Read (status.StatusItem × List ℕ)
status_at bytes = token_at bytes >>= λ word. some_status (status_item word.0) word.1

-- an item more
abbrev pub add_status : List status.StatusItem → List ℕ → Read (List status.StatusItem × List ℕ)
add_status before bytes = status_at bytes >>= λ found. Ok (before ++ found.0 ∷ [], found.1)

abbrev pub inner_statuses_at : List ℕ → Read (List status.StatusItem × List ℕ)
inner_statuses_at bytes = separated 32 add_status (length bytes) [] bytes

-- a list of them in parentheses
unfoldable pub status_list_at : List ℕ → Read (List status.StatusItem × List ℕ)
status_list_at bytes = do
  inner ← byte_at 40 bytes
  found ← inner_statuses_at inner
  rest ← byte_at 41 found.1
  Ok (found.0, rest)
