-- What is looked at in a message, and what FETCH says of it (RFC 3501, sections 6.4.5 and 7.4.2).
use Rattle.std.specs.Prelude.{ℕ, Bool, true, false, List, [], ◌∷◌, ◌++◌, ◌≡◌, codes, decimal}
use Rattle.imap_arguments.specs.declared.item.Item.{Item}
use Rattle.imap_arguments.specs.declared.item.Item.TheVariants as items
use Rattle.imap_reply.specs.Texts.{in_parentheses, system_flags, text_if}
use Rattle.mail_fields.specs.Stamps.{parts_of}
use Rattle.mail_fields.specs.ImapDate.{imap_date_text}
use Rattle.store_trait.specs.declared.store.Info.{Info}
use Rattle.imap_session.specs.Names.{names_of}

-- a message by its number, with what the session knows of it
pub record LookedAt : Type 0 where
  pub number : ℕ
  pub info : Info
  pub recent : Bool
  pub words : List (List ℕ)
  pub text : List ℕ

-- its flags: system flags, keywords by number, and last whether it is recent
abbrev pub flags_text : LookedAt → List ℕ
flags_text m = in_parentheses (system_flags m.info.flags ++ (names_of m.info.words m.words ++ text_if m.recent (codes "\\Recent")))

-- The text of an item of a message. Items that aren't built yet have none.
abbrev pub IsItem : Item → LookedAt → List ℕ → Type 0
IsItem items.Flags m text = text ≡ codes "FLAGS " ++ flags_text m
IsItem items.InternalDate m text = text ≡ codes "INTERNALDATE \"" ++ (imap_date_text (parts_of m.info.stamp) ++ codes "\"")
IsItem items.Size m text = text ≡ codes "RFC822.SIZE " ++ decimal m.info.size
IsItem items.Uid m text = text ≡ codes "UID " ++ decimal m.info.uid
IsItem item m text = ⊥

-- the texts of items, one by one
abbrev pub AreItems : List Item → LookedAt → List (List ℕ) → Type 0
AreItems [] m [] = Unit {0}
AreItems [] m (text ∷ texts) = ⊥
AreItems (item ∷ items) m [] = ⊥
AreItems (item ∷ items) m (text ∷ texts) = IsItem item m text × AreItems items m texts

-- the items that are built
abbrev pub is_built : Item → Bool
is_built items.Flags = true
is_built items.InternalDate = true
is_built items.Size = true
is_built items.Uid = true
is_built item = false
