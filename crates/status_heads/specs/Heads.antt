-- What the status fields of a message say.
use Rattle.std.specs.Prelude.{ℕ, Bool, List, nat_eq, codes}
use Rattle.std.specs.List.{list_any}
use Rattle.mail_types.specs.declared.flags.Flags.{Flags}
use Rattle.status_heads.specs.Fields.{value_named, fields_in}
use Rattle.status_heads.specs.Names.{names_of}
use Rattle.status_heads.specs.Numbers.{number_between, greatest_uid}
use Rattle.status_heads.specs.declared.heads.Heads.{Heads}

-- a letter stands in a value; its case counts
abbrev pub has_letter : ℕ → List ℕ → Bool
has_letter letter value = list_any (nat_eq letter) value

-- the letters R and O of Status, and D, F, A and T of X-Status
abbrev pub flags_of : List ℕ → List ℕ → Flags
flags_of status more = record {
  seen = has_letter 82 status;
  answered = has_letter 65 more;
  flagged = has_letter 70 more;
  deleted = has_letter 68 more;
  draft = has_letter 84 more;
  old = has_letter 79 status;
}

-- the heads that fields say
unfoldable pub heads_in : List (List ℕ × List ℕ) → Heads
heads_in fields = record {
  seen_old = flags_of (value_named (codes "Status") fields) (value_named (codes "X-Status") fields);
  words = names_of (value_named (codes "X-Keywords") fields);
  uid = number_between 1 greatest_uid (value_named (codes "X-UID") fields);
}

-- the heads of a text
abbrev pub heads_of : List ℕ → Heads
heads_of text = heads_in (fields_in text)
