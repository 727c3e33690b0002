-- What makes a mailbox (RFC 3501, sections 2.3.1.1 and 2.3.2).
use Rattle.std.specs.Prelude.{ℕ, Bool, true, List, [], ◌∷◌, ◌≤◌, ◌≡◌, ◌≢◌, ◌==◌, ◌&&◌, not, nat_lt, nat_le, length}
use Rattle.std.specs.List.{list_all}
use Rattle.mail_fields.specs.Names.{are_distinct}
use Rattle.mail_types.specs.declared.mailbox.Mailbox.{Mailbox}
use Rattle.mail_types.specs.declared.message.Record.{Record}

-- UIDs that rise strictly above one
abbrev pub uids_rise : ℕ → List Record → Bool
uids_rise above [] = true
uids_rise above (r ∷ rest) = nat_lt above r.uid && uids_rise r.uid rest

abbrev pub has_no_nul : List ℕ → Bool
has_no_nul text = list_all (λ byte. not (byte == 0)) text

-- the greatest number of 32 bits
abbrev pub greatest_number : ℕ
greatest_number = 4294967295

-- a UIDVALIDITY, at most 30 keyword names, and messages by rising UID, up to the highest that was given, with modification numbers up to the mailbox's
pub record IsMailbox (m : Mailbox) : Type 0 where
  pub validity : m.validity ≢ 0
  pub validity_fits : m.validity ≤ greatest_number
  pub number_fits : m.number ≤ greatest_number
  pub last_fits : m.last ≤ greatest_number
  pub few : length m.words ≤ 30
  pub distinct : are_distinct m.words ≡ true
  pub rise : uids_rise 0 m.records ≡ true
  pub within : list_all (λ r. nat_le r.uid m.last) m.records ≡ true
  pub clean : list_all (λ r. has_no_nul r.text) m.records ≡ true
  pub numbered : list_all (λ r. nat_le r.number m.number) m.records ≡ true
