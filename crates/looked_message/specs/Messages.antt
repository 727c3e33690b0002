-- A message of a selected mailbox, as FETCH and SEARCH look at it (RFC 3501, section 2.3).
use Rattle.std.specs.Prelude.{ℕ, Bool, List, [], ◌∷◌, ◌/◌, if◌then◌else◌}
use Rattle.mail_types.specs.Flags.{has_bit}
use Rattle.mail_types.specs.declared.message.Record.{Record}
use Rattle.store_trait.specs.declared.store.Info.{Info}
use Rattle.store_trait.specs.Views.{info_of}
use Rattle.looked_message.specs.declared.message.Looked.{Looked}

-- its number, what its store tells of it, its modification number, whether it is recent in this session,
-- the mailbox's keyword names, and its text
pub record LookedAt : Type 0 where
  pub number : ℕ
  pub info : Info
  pub modseq : ℕ
  pub recent : Bool
  pub words : List (List ℕ)
  pub text : List ℕ

-- a record of a mailbox with these keyword names
abbrev pub record_looked_at : (number : ℕ) → Record → (recent : Bool) → (words : List (List ℕ)) → LookedAt
record_looked_at number r recent words = record { number = number; info = info_of r; modseq = r.number; recent = recent; words = words; text = r.text }

-- what a call is given
abbrev pub looked_at : Looked → LookedAt
looked_at m = record { number = m.number; info = m.info; modseq = m.modseq; recent = m.recent; words = m.words.now; text = m.text.now }

-- the same message with another text
abbrev pub with_text : LookedAt → List ℕ → LookedAt
with_text m text = record m { text = text }

-- the names whose bits are set, the first name's the lowest
abbrev pub names_of : (bits : ℕ) → List (List ℕ) → List (List ℕ)
names_of bits [] = []
names_of bits (name ∷ names) = if has_bit 1 bits then name ∷ names_of (bits / 2) names else names_of (bits / 2) names

-- its keywords (RFC 3501, section 2.3.2)
abbrev pub keywords_of : LookedAt → List (List ℕ)
keywords_of m = names_of m.info.words m.words
