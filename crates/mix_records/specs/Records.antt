-- Texts of records, one behind the other, whose UIDs rise.
use Rattle.std.specs.Prelude.{◌≡◌, ◌<◌, ◌++◌, ℕ, zero, suc, Bool, true, List, [], ◌∷◌, Option, Some, None, Result, Ok, Err, nat_lt, ◌==◌, ◌&&◌, if◌then◌else◌, length}
use Rattle.std.specs.List.{flat_map}
use Rattle.mail_fields.specs.Numbers.{◌>>=◌}

-- a kind of record: the one at the front of a text, with what stands behind it; its UID; which of them may be written, and their text
pub record RecordForm (P : Type 0) : Type 0 where
  pub front : List ℕ → Option (P × List ℕ)
  pub uid : P → ℕ
  pub may_stand : P → Bool
  pub text : P → List ℕ

-- what is written of a record is read again, whatever stands behind it
pub record IsReadAgain {P : Type 0} (form : RecordForm P) (parts : P) : Type 0 where
  pub some : 0 < length (form.text parts)
  pub front : (rest : List ℕ) → form.front (form.text parts ++ rest) ≡ Some (parts, rest)

-- the record at the front of a text, if its UID is above another
abbrev pub next_record : {P : Type 0} → RecordForm P → ℕ → List ℕ → Option (P × List ℕ)
next_record form last text = do
  found ← form.front text
  if nat_lt last (form.uid found.0) then Some found else None

-- some records and the text behind them, where a first record is found; else none, and the whole text
abbrev pub from_first : {P : Type 0} → Option (P × List ℕ) → List ℕ → (P × List ℕ → List P × List ℕ) → List P × List ℕ
from_first None text later = ([], text)
from_first (Some found) text later = (found.0 ∷ (later found).0, (later found).1)

-- the records at the front of a text, at most so many, each of a greater UID than the one before; and what stands behind them
abbrev pub records_front : {P : Type 0} → RecordForm P → ℕ → ℕ → List ℕ → List P × List ℕ
records_front form zero last text = ([], text)
records_front form (suc more) last text =
    from_first (next_record form last text) text (λ found. records_front form more (form.uid found.0) found.1)

-- the records that a text is; where it isn't records alone, how many stand before the first byte that begins none
unfoldable pub records_of : {P : Type 0} → RecordForm P → List ℕ → Result (List P) ℕ
records_of form text =
    let found = records_front form (length text) 0 text in
    if length found.1 == 0 then Ok found.0 else Err (length found.0)

-- the UIDs of records rise from another on; they are above 0 where they rise from 0 on
abbrev pub rise_from : {P : Type 0} → RecordForm P → ℕ → List P → Bool
rise_from form last [] = true
rise_from form last (first ∷ later) = nat_lt last (form.uid first) && rise_from form (form.uid first) later

-- the text of records
abbrev pub records_text : {P : Type 0} → RecordForm P → List P → List ℕ
records_text form records = flat_map form.text records
