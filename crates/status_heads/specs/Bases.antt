-- The base of a mailbox, which a field of its first message says: `validity last names`.
use Rattle.std.specs.Prelude.{ℕ, List, [], ◌∷◌, Option, Some, None}
use Rattle.mail_fields.specs.Numbers.{◌>>=◌}
use Rattle.mail_types.specs.Mailboxes.{greatest_number}
use Rattle.status_heads.specs.Fields.{value_named, fields_in}
use Rattle.status_heads.specs.Names.{words_of, with_names}
use Rattle.status_heads.specs.Numbers.{number_between, greatest_uid}
use Rattle.status_heads.specs.declared.base.Base.{Base}

-- the number that the first of some words is, and the words behind it
abbrev pub number_first : ℕ → ℕ → List (List ℕ) → Option (ℕ × List (List ℕ))
number_first low high [] = None
number_first low high (word ∷ words) = do
  number ← number_between low high word
  Some (number, words)

-- the base that words say: a validity that isn't 0, a last UID, and names
unfoldable pub base_of_words : List (List ℕ) → Option Base
base_of_words words = do
  validity ← number_first 1 greatest_number words
  last ← number_first 0 greatest_uid validity.1
  Some (record { validity = validity.0; last = last.0; words = with_names [] last.1 })

-- the base that the field of a name says in a text
abbrev pub base_of : List ℕ → List ℕ → Option Base
base_of text name = base_of_words (words_of (value_named name (fields_in text)))
