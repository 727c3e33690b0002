-- Records read one by one, and the text of records read again.
use Rattle.std.proofs.Common.{◌≡◌, ℕ, zero, suc, ◌+◌, ◌-◌, ◌<◌, ◌≤◌, List, [], ◌∷◌, ◌++◌, length, Bool, Some, None, Result, Ok, Err, refl, ap, subst, sym, ◌∙◌, arith, true, false, map, append_assoc, append-nil, length-append, drop, slice_index_or, nat_lt, ◌&&◌, ◌==◌, if◌then◌else◌, cond, Option}
use Rattle.std.specs.List.{All}
use Rattle.std.proofs.lemmas.Bool.{ne_eqb}
use Rattle.std.proofs.lemmas.List.Elements.{All-push, All-same}
use Rattle.std.specs.Cmp.Derive.{both_true}
use Rattle.std.proofs.lemmas.List.{map-append, drop_more, drop_all}
use Rattle.mail_fields.specs.Numbers.{◌>>=◌}
use Rattle.mix_records.specs.Records.{RecordForm, IsReadAgain, next_record, from_first, records_front, records_of, rise_from, records_text}

-- some records before others
abbrev pub behind : {P : Type 0} → List P → List P × List ℕ → List P × List ℕ
behind read found = (read ++ found.0, found.1)

-- one record more is read
front-step : {P : Type 0} (form : RecordForm P) (read : List P) (fuel last : ℕ) (text : List ℕ) (first : P) (rest : List ℕ) → 0 < fuel → next_record form last text ≡ Some (first, rest)
    → behind (read ++ first ∷ []) (records_front form (fuel - 1) (form.uid first) rest) ≡ behind read (records_front form fuel last text)
front-step form read zero last text first rest some next = absurd (omega arith)
front-step {P} form read (suc more) last text first rest some next =
    let less : suc more - 1 ≡ more = omega arith in
    let later : List P × List ℕ = records_front form more (form.uid first) rest in
    ap (λ fuel. behind (read ++ first ∷ []) (records_front form fuel (form.uid first) rest)) less
    ∙ ap (λ records. (records, later.1)) (append_assoc read (first ∷ []) later.0)
    ∙ ap (λ found. behind read (from_first found text (λ (f : P × List ℕ). records_front form more (form.uid f.0) f.1))) (sym next)

-- no record is left
pub front-end : {P : Type 0} (form : RecordForm P) (fuel last : ℕ) (text : List ℕ) → next_record form last text ≡ None → records_front form fuel last text ≡ ([], text)
front-end form zero last text none = refl
front-end {P} form (suc more) last text none =
    ap (λ found. from_first found text (λ (f : P × List ℕ). records_front form more (form.uid f.0) f.1)) none

-- the same, as a loop goes on by one record
pub read-step : {P X : Type 0} (form : RecordForm P) (parts : X → P) (old new : List X) (item : X) (last uid : ℕ) (bytes text rest : List ℕ)
    → next_record form last text ≡ Some (parts item, rest) → length rest < length text → new ≡ old ++ item ∷ [] → uid ≡ form.uid (parts item) → length old + length text ≤ length bytes
    → (length new + length rest ≤ length bytes)
    × (behind (map parts new) (records_front form (length bytes - length new) uid rest) ≡ behind (map parts old) (records_front form (length bytes - length old) last text))
read-step form parts old new item last uid bytes text rest next shorter is same room =
    let long : length new ≡ length old + 1 = omega (arith, ap length is, length-append old (item ∷ [])) in
    let fuel : length bytes - length new ≡ length bytes - length old - 1 = omega arith in
    let items : map parts new ≡ map parts old ++ parts item ∷ [] = ap (map parts) is ∙ map-append parts old (item ∷ []) in (
      omega arith,
      ap (λ fuel. behind (map parts new) (records_front form fuel uid rest)) fuel
          ∙ ap (λ uid. behind (map parts new) (records_front form (length bytes - length old - 1) uid rest)) same
          ∙ ap (λ items. behind items (records_front form (length bytes - length old - 1) (form.uid (parts item)) rest)) items
          ∙ front-step form (map parts old) (length bytes - length old) last text (parts item) rest (omega arith) next,
    )

-- the answer on what was found
abbrev answer : {P : Type 0} → List P × List ℕ → Result (List P) ℕ
answer found = cond (length found.1 == 0) (Ok found.0) (Err (length found.0))

whole-front : {P : Type 0} (form : RecordForm P) (read : List P) (fuel last : ℕ) (bytes rest : List ℕ) → next_record form last rest ≡ None
    → behind read (records_front form fuel last rest) ≡ records_front form (length bytes) 0 bytes → records_front form (length bytes) 0 bytes ≡ (read, rest)
whole-front form read fuel last bytes rest none same =
    sym same ∙ ap (behind read) (front-end form fuel last rest none) ∙ ap (λ records. (records, rest)) (append-nil read)

-- a text of records alone, and one that is not
pub all-read : {P : Type 0} (form : RecordForm P) (read : List P) (fuel last : ℕ) (bytes rest : List ℕ) → next_record form last rest ≡ None
    → behind read (records_front form fuel last rest) ≡ records_front form (length bytes) 0 bytes → length rest ≡ 0 → records_of form bytes ≡ Ok read
unfolding records_of
all-read form read fuel last bytes rest none same empty =
    ap answer (whole-front form read fuel last bytes rest none same) ∙ ap (λ n. cond (n == 0) (Ok read) (Err (length read))) empty

pub part-read : {P : Type 0} (form : RecordForm P) (read : List P) (fuel last : ℕ) (bytes rest : List ℕ) → next_record form last rest ≡ None
    → behind read (records_front form fuel last rest) ≡ records_front form (length bytes) 0 bytes → 0 < length rest → records_of form bytes ≡ Err (length read)
unfolding records_of
part-read form read fuel last bytes rest none same some =
    ap answer (whole-front form read fuel last bytes rest none same)
    ∙ ap (λ test. cond test (Ok read) (Err (length read))) (ne_eqb (length rest) 0 (λ is. omega arith))

both : (one other : Bool) → (one && other) ≡ true → (one ≡ true) × (other ≡ true)
both true other is = (refl, is)
both false other is = absurd (cc)

-- records whose texts are read again, in their order
pub front-again : {P X : Type 0} (form : RecordForm P) (parts : X → P) (records : List X) (fuel last : ℕ) → form.front [] ≡ None → All (λ item. IsReadAgain form (parts item)) records
    → rise_from form last (map parts records) ≡ true → length records ≤ fuel → records_front form fuel last (records_text form (map parts records)) ≡ (map parts records, [])
front-again form parts [] fuel last nothing all rising room = front-end form fuel last [] (ap (λ found. found >>= (λ f. if nat_lt last (form.uid f.0) then Some f else None)) nothing)
front-again form parts (first ∷ later) zero last nothing all rising room = absurd (omega arith)
front-again form parts (first ∷ later) (suc more) last nothing all rising room =
    let again = all 0 first (omega arith) in
    let rest = records_text form (map parts later) in
    let above = (both (nat_lt last (form.uid (parts first))) (rise_from form (form.uid (parts first)) (map parts later)) rising).0 in
    let next : next_record form last (form.text (parts first) ++ rest) ≡ Some (parts first, rest) =
    ap (λ found. found >>= (λ f. if nat_lt last (form.uid f.0) then Some f else None)) (again.front rest) ∙ ap (λ test. cond test (Some (parts first, rest)) None) above in
    let found = front-again form parts later more (form.uid (parts first)) nothing (λ k d inside. all (suc k) d (omega arith)) (both (nat_lt last (form.uid (parts first))) (rise_from form (form.uid (parts first)) (map parts later)) rising).1 (omega arith) in
    ap (λ found. from_first found (form.text (parts first) ++ rest) (λ f. records_front form more (form.uid f.0) f.1)) next
    ∙ ap (λ records. (parts first ∷ records.0, records.1)) found

-- each of them takes a byte
records-short : {P X : Type 0} (form : RecordForm P) (parts : X → P) (records : List X) → All (λ item. IsReadAgain form (parts item)) records
    → length records ≤ length (records_text form (map parts records))
records-short form parts [] all = omega arith
records-short form parts (first ∷ later) all =
    let again = all 0 first (omega arith) in
    let shorter = records-short form parts later (λ k d inside. all (suc k) d (omega arith)) in
    omega (arith, again.some, length-append (form.text (parts first)) (records_text form (map parts later)))

-- so the text of records is read again
pub records-again : {P X : Type 0} (form : RecordForm P) (parts : X → P) (records : List X) → form.front [] ≡ None → All (λ item. IsReadAgain form (parts item)) records
    → rise_from form 0 (map parts records) ≡ true → records_of form (records_text form (map parts records)) ≡ Ok (map parts records)
unfolding records_of
records-again form parts records nothing all rising =
    ap answer (front-again form parts records (length (records_text form (map parts records))) 0 nothing all rising (records-short form parts records all))

-- one record more is written
pub written-step : {P X : Type 0} (form : RecordForm P) (parts : X → P) (records : List X) (index : ℕ) (old new : List ℕ) (item : X) → index < length records
    → item ≡ slice_index_or records index item → new ≡ old ++ form.text (parts item)
    → new ++ records_text form (map parts (drop (index + 1) records)) ≡ old ++ records_text form (map parts (drop index records))
written-step form parts records index old new item inside is put =
    let first : drop index records ≡ slice_index_or records index item ∷ drop (index + 1) records = drop_more records index item inside in
    ap (λ text. text ++ records_text form (map parts (drop (index + 1) records))) put
    ∙ append_assoc old (form.text (parts item)) (records_text form (map parts (drop (index + 1) records)))
    ∙ ap (λ one. old ++ records_text form (parts one ∷ map parts (drop (index + 1) records))) is
    ∙ ap (λ rest. old ++ records_text form (map parts rest)) (sym first)

-- and all
pub written-all : {P X : Type 0} (form : RecordForm P) (parts : X → P) (records : List X) (index : ℕ) (text : List ℕ) → length records ≤ index
    → text ++ records_text form (map parts (drop index records)) ≡ records_text form (map parts records) → text ≡ records_text form (map parts records)
written-all form parts records index text done same =
    sym (append-nil text) ∙ ap (λ rest. text ++ records_text form (map parts rest)) (sym (drop_all index records done)) ∙ same

-- the UIDs of the records that are read rise
first-rises : {P : Type 0} (form : RecordForm P) (last : ℕ) (text : List ℕ) (later : P × List ℕ → List P × List ℕ) (front : Option (P × List ℕ))
    → ((found : P × List ℕ) → rise_from form (form.uid found.0) (later found).0 ≡ true)
    → rise_from form last (from_first (front >>= (λ found. if nat_lt last (form.uid found.0) then Some found else None)) text later).0 ≡ true
first-rises form last text later None rises = refl
first-rises {P} form last text later (Some first) rises = tested (nat_lt last (form.uid first.0)) refl
  where
    tested : (test : Bool) → nat_lt last (form.uid first.0) ≡ test → rise_from form last (from_first (cond test (Some first) None) text later).0 ≡ true
    tested true is = both_true is (rises first)
    tested false is = refl

front-rises : {P : Type 0} (form : RecordForm P) (fuel last : ℕ) (text : List ℕ) → rise_from form last (records_front form fuel last text).0 ≡ true
front-rises form zero last text = refl
front-rises form (suc more) last text =
    first-rises form last text (λ found. records_front form more (form.uid found.0) found.1) (form.front text) (λ found. front-rises form more (form.uid found.0) found.1)

ok-is : {P : Type 0} (test : Bool) (found : List P) (count : ℕ) (records : List P) → ◌≡◌ {A = Result (List P) ℕ} (cond test (Ok found) (Err count)) (Ok records) → found ≡ records
ok-is true found count records is = cc
ok-is false found count records is = absurd (cc)

pub records-rise : {P : Type 0} (form : RecordForm P) (text : List ℕ) (records : List P) → records_of form text ≡ Ok records → rise_from form 0 records ≡ true
unfolding records_of
records-rise {P} form text records is =
    let found : List P × List ℕ = records_front form (length text) 0 text in
    subst (λ items. rise_from form 0 items ≡ true) (ok-is (length found.1 == 0) found.0 (length found.0) records is) (front-rises form (length text) 0 text)

-- what holds of each item holds of each and one more
pub all-pushed : {X : Type 0} (fact : X → Type 0) (old new : List X) (item : X) → new ≡ old ++ item ∷ [] → All fact old → fact item → All fact new
all-pushed fact old new item is all one = All-same fact new (old ++ item ∷ []) is (All-push fact old item all one)
