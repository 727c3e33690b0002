-- The mailbox that is opened from the contents of a store.
use Rattle.std.specs.Prelude.{◌≡◌, ◌≢◌, ◌≤◌, ℕ, zero, suc, Bool, true, List, [], ◌∷◌, ◌+◌, ◌==◌, ◌&&◌, ◌||◌, nat_lt, nat_le, max, Option, if◌then◌else◌, length, map, unwrap_or, is_some}
use Rattle.std.specs.List.{list_all}
use Rattle.mail_types.specs.declared.contents.StoreContents.{StoreContents}
use Rattle.mail_types.specs.declared.mailbox.Mailbox.{Mailbox}
use Rattle.mail_types.specs.declared.message.Record.{Record}
use Rattle.mail_types.specs.declared.uids.Numbering.{Numbering}
use Rattle.mail_fields.specs.Names.{are_distinct}
use Rattle.mail_types.specs.Mailboxes.{has_no_nul, greatest_number}

-- ---- UIDs as files have them, 0 for none

abbrev pub greatest : List ℕ → ℕ
greatest [] = 0
greatest (n ∷ rest) = max n (greatest rest)

-- how many messages have none
abbrev pub missing : List ℕ → ℕ
missing [] = 0
missing (uid ∷ rest) = if uid == 0 then 1 + missing rest else missing rest

-- UIDs that rise strictly above one, and then a run without UIDs
abbrev pub rise_then_none : ℕ → List ℕ → Bool
rise_then_none above [] = true
rise_then_none above (uid ∷ rest) = if uid == 0 then list_all (λ later. later == 0) rest else (nat_lt above uid && rise_then_none uid rest)

-- the highest UID, given or found
abbrev pub highest : ℕ → List ℕ → ℕ
highest last uids = max last (greatest uids)

-- the greatest UID that is ever given
abbrev pub greatest_given : ℕ
greatest_given = 4294967294

-- a run without UIDs finds room behind the highest one
abbrev pub has_room : ℕ → List ℕ → Bool
has_room last uids = missing uids == 0 || nat_le (highest last uids + missing uids) greatest_given

-- UIDs last where there is a UIDVALIDITY, they rise, and the run without them finds room (RFC 3501, section 2.3.1.1)
abbrev pub uids_last : Option ℕ → ℕ → List ℕ → Bool
uids_last validity last uids = is_some validity && rise_then_none 0 uids && has_room last uids

-- messages without a UID get the next ones
abbrev pub given_uids : (next : ℕ) → List ℕ → List ℕ
given_uids next [] = []
given_uids next (uid ∷ rest) = if uid == 0 then next ∷ given_uids (next + 1) rest else uid ∷ given_uids next rest

-- so many numbers from one on
abbrev pub numbers_from : ℕ → ℕ → List ℕ
numbers_from next zero = []
numbers_from next (suc count) = next ∷ numbers_from (next + 1) count

-- the UIDs of an opened mailbox: those that last, or else 1 to n
abbrev pub opened_uids : Option ℕ → ℕ → List ℕ → List ℕ
opened_uids validity last uids = if uids_last validity last uids then given_uids (highest last uids + 1) uids else numbers_from 1 (length uids)

-- its UIDVALIDITY and its highest UID
abbrev pub opened_numbering : Option ℕ → ℕ → List ℕ → (fresh : ℕ) → Numbering
opened_numbering validity last uids fresh =
    if uids_last validity last uids then record { validity = unwrap_or validity fresh; last = highest last uids + missing uids }
    else record { validity = fresh; last = length uids }

-- ---- The mailbox

abbrev pub uids_of : List Record → List ℕ
uids_of records = map (λ r. r.uid) records

-- the same messages under these UIDs
abbrev pub with_uids : List ℕ → List Record → List Record
with_uids uids [] = []
with_uids [] (r ∷ rest) = []
with_uids (uid ∷ uids) (r ∷ rest) = record r { uid = uid } ∷ with_uids uids rest

-- the mailbox that these contents open as, with a UIDVALIDITY of its own where the UIDs don't last
abbrev pub opened_mailbox : StoreContents → (fresh : ℕ) → Mailbox
opened_mailbox contents fresh =
    let uids = uids_of contents.records in
    let numbering = opened_numbering contents.validity contents.last uids fresh in
    record {
      validity = numbering.validity;
      number = contents.number;
      last = numbering.last;
      words = contents.words;
      records = with_uids (opened_uids contents.validity contents.last uids) contents.records;
    }

-- contents that open as a mailbox: no UIDVALIDITY of 0, numbers of 32 bits, at most 30 names of which no two are the same, texts without NUL, and modification numbers up to that of the whole
pub record IsOpenable (contents : StoreContents) : Type 0 where
  pub validity : unwrap_or contents.validity 1 ≢ 0
  pub validity_fits : unwrap_or contents.validity 1 ≤ greatest_number
  pub number_fits : contents.number ≤ greatest_number
  pub last_fits : highest contents.last (uids_of contents.records) ≤ greatest_number
  pub few : length contents.words ≤ 30
  pub distinct : are_distinct contents.words ≡ true
  pub clean : list_all (λ r. has_no_nul r.text) contents.records ≡ true
  pub numbered : list_all (λ r. nat_le r.number contents.number) contents.records ≡ true
