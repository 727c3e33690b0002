-- What FETCH says of a message (RFC 3501, section 7.4.2).
use Rattle.std.specs.Prelude.{◌≡◌, ℕ, List, [], ◌∷◌, ◌++◌}
use Rattle.imap_arguments.specs.declared.item.Item.{Item}
use Rattle.imap_reply.specs.Texts.{behind_spaces, spaced}
use Rattle.looked_message.specs.Messages.{LookedAt}
use Rattle.body_sections.specs.Labels.{item_label}
use Rattle.body_sections.specs.Values.{IsValue}

-- the text of an item: its name, a space and its value
pub record IsItem (item : Item) (m : LookedAt) (text : List ℕ) : Type 0 where
  pub value : List ℕ
  pub is : IsValue item m value
  pub written : text ≡ item_label item ++ 32 ∷ value

-- the message has no other such item
abbrev pub IsOnlyItem : Item → LookedAt → List ℕ → Type 0
IsOnlyItem item m text = (other : List ℕ) → IsItem item m other → other ≡ text

-- the texts of items, one by one
abbrev pub AreItems : List Item → LookedAt → List (List ℕ) → Type 0
AreItems [] m [] = Unit {0}
AreItems [] m (text ∷ texts) = ⊥
AreItems (item ∷ items) m [] = ⊥
AreItems (item ∷ items) m (text ∷ texts) = IsItem item m text × AreItems items m texts

-- the same, each behind a space
pub record AreMoreItems (items : List Item) (m : LookedAt) (bytes : List ℕ) : Type 0 where
  pub texts : List (List ℕ)
  pub are : AreItems items m texts
  pub written : bytes ≡ behind_spaces texts

-- the same with one space between
pub record AreSpacedItems (items : List Item) (m : LookedAt) (bytes : List ℕ) : Type 0 where
  pub texts : List (List ℕ)
  pub are : AreItems items m texts
  pub written : bytes ≡ spaced texts
