-- An opened mailbox is a mailbox, and so is a changed one.
use Rattle.std.proofs.Common.{◌≡◌, ◌≢◌, ℕ, zero, suc, ◌+◌, ◌<◌, ◌≤◌, ◌==◌, Bool, true, false, ◌&&◌, ◌||◌, List, [], ◌∷◌, ◌++◌, length, map, max, min, nat_lt, nat_le, Option, Some, None, unwrap_or, refl, sym, ◌∙◌, ap, subst, arith, cond, nat_eq}
use Rattle.std.specs.List.{list_all, list_any}
use Rattle.std.proofs.lemmas.Bool.{and_parts, false≢true}
use Rattle.std.proofs.lemmas.List.Folds.{list_all-append}
use Rattle.std.proofs.lemmas.Simd.{map-map}
use Rattle.mail_types.specs.declared.contents.StoreContents.{StoreContents}
use Rattle.mail_types.specs.declared.mailbox.Mailbox.{Mailbox}
use Rattle.mail_types.specs.declared.driver.Keeps.{Keeps}
use Rattle.mail_types.specs.declared.message.FlagChange.{FlagChange}
use Rattle.mail_types.specs.declared.message.NewMessage.{NewMessage}
use Rattle.mail_types.specs.declared.message.Record.{Record}
use Rattle.mail_types.specs.declared.uids.Numbering.{Numbering}
use Rattle.mail_types.specs.Lists.{undropped, drop_records, changed_records, change_flags, cleared, added_records, add_messages, next_number, differs, any_differs, with_numbers}
use Rattle.mail_fields.specs.Names.{are_distinct}
use Rattle.mail_types.specs.Mailboxes.{uids_rise, has_no_nul, greatest_number, IsMailbox}
use Rattle.mail_types.specs.Opening.{greatest, missing, rise_then_none, given_uids, numbers_from, with_uids, uids_of, highest, has_room, uids_last, opened_mailbox, IsOpenable, greatest_given}
use Rattle.mail_types.proofs.CleanTexts.{form_is_clean}
use Rattle.mail_types.proofs.ChangingFlags.{changed_uids, changed_texts, changed_numbers, with_numbers_same}
use Rattle.mail_types.proofs.Dropping.{all_left}

-- ---- Rising numbers

-- numbers that rise strictly above one
abbrev rises : ℕ → List ℕ → Bool
rises above [] = true
rises above (u ∷ us) = nat_lt above u && rises u us

both : {a b : Bool} → a ≡ true → b ≡ true → (a && b) ≡ true
both {a} {b} is at = ap (λ x. x && b) is ∙ at

rise_of_uids : (above : ℕ) (rs : List Record) → uids_rise above rs ≡ rises above (uids_of rs)
rise_of_uids above [] = refl
rise_of_uids above (r ∷ rs) = ap (λ b. nat_lt above r.uid && b) (rise_of_uids r.uid rs)

with_are : (us : List ℕ) (rs : List Record) → length us ≡ length rs → uids_of (with_uids us rs) ≡ us
with_are [] [] same = refl
with_are (u ∷ us) [] same = absurd (omega (arith, same))
with_are [] (r ∷ rs) same = absurd (omega (arith, same))
with_are (u ∷ us) (r ∷ rs) same = ap (λ l. u ∷ l) (with_are us rs (omega (arith, same)))

zeros_rise : (next : ℕ) (us : List ℕ) → list_all (λ later. later == 0) us ≡ true → rises next (given_uids (next + 1) us) ≡ true
zeros_rise next [] all = refl
zeros_rise next (u ∷ us) all =
    let parts = and_parts (u == 0) (list_all (λ later. later == 0) us) all in
    let above : nat_lt next (next + 1) ≡ true = grind arith in
    ap (λ b. rises next (cond b ((next + 1) ∷ given_uids (next + 1 + 1) us) (u ∷ given_uids (next + 1) us))) parts.0
    ∙ both above (zeros_rise (next + 1) us parts.1)

given_rise : (above next : ℕ) (us : List ℕ) → rise_then_none above us ≡ true → above < next → greatest us < next → rises above (given_uids next us) ≡ true
given_rise above next [] rise below great = refl
given_rise above next (u ∷ us) rise below great = step (u == 0) refl (λ on here rest. given_rise u next us on here rest) rise
  where
    step : (b : Bool) → (u == 0) ≡ b → (rise_then_none u us ≡ true → u < next → greatest us < next → rises u (given_uids next us) ≡ true) → cond b (list_all (λ later. later == 0) us) (nat_lt above u && rise_then_none u us) ≡ true
        → rises above (cond b (next ∷ given_uids (next + 1) us) (u ∷ given_uids next us)) ≡ true
    step true is later all = let e : nat_lt above next ≡ true = grind arith in both e (zeros_rise next us all)
    step false is later on =
        let parts = and_parts (nat_lt above u) (rise_then_none u us) on in
        let here : u < next = let g : max u (greatest us) < next = great in omega (arith, g) in
        let rest : greatest us < next = let g : max u (greatest us) < next = great in omega (arith, g) in
        both parts.0 (later parts.1 here rest)

numbers_rise : (k n : ℕ) → rises k (numbers_from (k + 1) n) ≡ true
numbers_rise k zero = refl
numbers_rise k (suc n) = let e : nat_lt k (k + 1) ≡ true = grind arith in both e (numbers_rise (k + 1) n)

-- ---- Numbers within a bound

given_within : (next last : ℕ) (us : List ℕ) → greatest us ≤ last → next + missing us ≤ last + 1 → list_all (λ u. nat_le u last) (given_uids next us) ≡ true
given_within next last [] great room = refl
given_within next last (u ∷ us) great room = step (u == 0) refl
    (λ space. given_within (next + 1) last us (omega (arith, great)) space) (λ space. given_within next last us (omega (arith, great)) space) room
  where
    step : (b : Bool) → (u == 0) ≡ b → (next + 1 + missing us ≤ last + 1 → list_all (λ u. nat_le u last) (given_uids (next + 1) us) ≡ true)
        → (next + missing us ≤ last + 1 → list_all (λ u. nat_le u last) (given_uids next us) ≡ true)
        → next + cond b (1 + missing us) (missing us) ≤ last + 1
        → list_all (λ u. nat_le u last) (cond b (next ∷ given_uids (next + 1) us) (u ∷ given_uids next us)) ≡ true
    step true is one two space = let e : nat_le next last ≡ true = grind arith in both e (one (omega (arith, space)))
    step false is one two space = let g : max u (greatest us) ≤ last = great in let e : nat_le u last ≡ true = grind arith in both e (two space)

numbers_within : (k n last : ℕ) → k + n ≤ last + 1 → list_all (λ u. nat_le u last) (numbers_from k n) ≡ true
numbers_within k zero last room = refl
numbers_within k (suc n) last room = let e : nat_le k last ≡ true = grind arith in both e (numbers_within (k + 1) n last (omega (arith, room)))

-- a test of one part of each message
all_of : {B : Type 0} (part : Record → B) (test : B → Bool) (rs : List Record) → list_all (λ r. test (part r)) rs ≡ list_all test (map part rs)
all_of part test [] = refl
all_of part test (r ∷ rs) = ap (λ b. test (part r) && b) (all_of part test rs)

-- a part that is no UID stays under other UIDs
with_same : {B : Type 0} (part : Record → B) → ((u : ℕ) (r : Record) → part (record r { uid = u }) ≡ part r) → (us : List ℕ) (rs : List Record) → length us ≡ length rs → map part (with_uids us rs) ≡ map part rs
with_same part blind [] [] same = refl
with_same part blind (u ∷ us) [] same = absurd (omega (arith, same))
with_same part blind [] (r ∷ rs) same = absurd (omega (arith, same))
with_same part blind (u ∷ us) (r ∷ rs) same = λ j. blind u r j ∷ with_same part blind us rs (omega (arith, same)) j

-- ---- Opening

numbers_count : (k n : ℕ) → length (numbers_from k n) ≡ n
numbers_count k zero = refl
numbers_count k (suc n) = ap (λ m. suc m) (numbers_count (k + 1) n)

given_count : (k : ℕ) (us : List ℕ) → length (given_uids k us) ≡ length us
given_count k [] = refl
given_count k (u ∷ us) = step (u == 0) (given_count (k + 1) us) (given_count k us)
  where
    step : (b : Bool) → length (given_uids (k + 1) us) ≡ length us → length (given_uids k us) ≡ length us → length (cond b (k ∷ given_uids (k + 1) us) (u ∷ given_uids k us)) ≡ suc (length us)
    step true one two = ap (λ n. suc n) one
    step false one two = ap (λ n. suc n) two

uids_count : (rs : List Record) → length (uids_of rs) ≡ length rs
uids_count [] = refl
uids_count (r ∷ rs) = ap (λ n. suc n) (uids_count rs)

-- a mailbox of these messages under rising UIDs
made : (validity number last : ℕ) (words : List (List ℕ)) (us : List ℕ) (rs : List Record) → validity ≢ 0 → validity ≤ greatest_number → last ≤ greatest_number → length words ≤ 30 → are_distinct words ≡ true
    → list_all (λ r. has_no_nul r.text) rs ≡ true → length us ≡ length rs → rises 0 us ≡ true → list_all (λ u. nat_le u last) us ≡ true
    → number ≤ greatest_number → list_all (λ r. nat_le r.number number) rs ≡ true
    → IsMailbox (record { validity = validity; number = number; last = last; words = words; records = with_uids us rs })
made validity number last words us rs lasts fits high few distinct clean same rise within most numbered = record {
  validity = lasts;
  validity_fits = fits;
  number_fits = most;
  last_fits = high;
  few = few;
  distinct = distinct;
  rise = rise_of_uids 0 (with_uids us rs) ∙ ap (rises 0) (with_are us rs same) ∙ rise;
  within = all_of (λ r. r.uid) (λ u. nat_le u last) (with_uids us rs) ∙ ap (list_all (λ u. nat_le u last)) (with_are us rs same) ∙ within;
  clean = still (λ r. r.text) (λ u r. refl) has_no_nul clean;
  numbered = still (λ r. r.number) (λ u r. refl) (λ n. nat_le n number) numbered;
}
  where
    still : {B : Type 0} (part : Record → B) → ((u : ℕ) (r : Record) → part (record r { uid = u }) ≡ part r) → (test : B → Bool)
        → list_all (λ r. test (part r)) rs ≡ true → list_all (λ r. test (part r)) (with_uids us rs) ≡ true
    still part blind test all = all_of part test (with_uids us rs) ∙ ap (list_all test) (with_same part blind us rs same) ∙ sym (all_of part test rs) ∙ all

roomy : (last : ℕ) (us : List ℕ) → highest last us ≤ greatest_number → has_room last us ≡ true → highest last us + missing us ≤ greatest_number
roomy last us fits room = step (missing us == 0) refl room
  where
    step : (b : Bool) → (missing us == 0) ≡ b → (b || nat_le (highest last us + missing us) greatest_given) ≡ true → highest last us + missing us ≤ greatest_number
    step true is space = let none : missing us ≡ 0 = grind arith in omega (arith, fits, none)
    step false is space = let below : highest last us + missing us ≤ greatest_given = grind arith in omega (arith, below)

abbrev numbering_if : Bool → Option ℕ → ℕ → List ℕ → ℕ → Numbering
numbering_if b v last us fresh = cond b (record { validity = unwrap_or v fresh; last = highest last us + missing us }) (record { validity = fresh; last = length us })

pub opened_is_mailbox : (c : StoreContents) (fresh : ℕ) → length c.records < 4294967296 → IsOpenable c → fresh ≢ 0 → fresh < 4294967296 → IsMailbox (opened_mailbox c fresh)
opened_is_mailbox c fresh many is some fits = step c.validity is.validity is.validity_fits (uids_last c.validity c.last (uids_of c.records)) refl
  where
    step : (v : Option ℕ) → unwrap_or v 1 ≢ 0 → unwrap_or v 1 ≤ greatest_number → (b : Bool) → uids_last v c.last (uids_of c.records) ≡ b
        → IsMailbox (record {
          validity = (numbering_if b v c.last (uids_of c.records) fresh).validity;
          number = c.number;
          last = (numbering_if b v c.last (uids_of c.records) fresh).last;
          words = c.words;
          records = with_uids (cond b (given_uids (highest c.last (uids_of c.records) + 1) (uids_of c.records)) (numbers_from 1 (length (uids_of c.records)))) c.records;
        })
    step None given below true lasts = absurd (false≢true lasts)
    step (Some v) given below true lasts =
        let us = uids_of c.records in
        let parts = and_parts (rise_then_none 0 us) (has_room c.last us) lasts in
        let high : greatest us < highest c.last us + 1 = let m : highest c.last us ≡ max c.last (greatest us) = refl in omega (arith, m) in
        let last : highest c.last us + missing us ≤ greatest_number = roomy c.last us is.last_fits parts.1 in
        made v c.number (highest c.last us + missing us) c.words (given_uids (highest c.last us + 1) us) c.records given below last is.few is.distinct is.clean
        (given_count (highest c.last us + 1) us ∙ uids_count c.records) (given_rise 0 (highest c.last us + 1) us parts.0 (omega arith) high)
        (given_within (highest c.last us + 1) (highest c.last us + missing us) us (omega (arith, high)) (omega arith)) is.number_fits is.numbered
    step v given below false lasts =
        let us = uids_of c.records in
        made fresh c.number (length us) c.words (numbers_from 1 (length us)) c.records some (omega (arith, fits)) (omega (arith, uids_count c.records, many)) is.few is.distinct is.clean
        (numbers_count 1 (length us) ∙ uids_count c.records) (numbers_rise 0 (length us)) (numbers_within 1 (length us) (length us) (omega arith)) is.number_fits is.numbered

-- ---- Changes

-- the same UIDs and texts, under another list of names and another modification number
same_messages : (m : Mailbox) (number : ℕ) (words : List (List ℕ)) (rs : List Record) → IsMailbox m → length words ≤ 30 → are_distinct words ≡ true
    → uids_of rs ≡ uids_of m.records → map (λ r. r.text) rs ≡ map (λ r. r.text) m.records
    → number ≤ greatest_number → list_all (λ r. nat_le r.number number) rs ≡ true
    → IsMailbox (record { validity = m.validity; number = number; last = m.last; words = words; records = rs })
same_messages m number words rs is few distinct uids texts most numbered = record {
  validity = is.validity;
  validity_fits = is.validity_fits;
  number_fits = most;
  last_fits = is.last_fits;
  few = few;
  distinct = distinct;
  rise = rise_of_uids 0 rs ∙ ap (rises 0) uids ∙ sym (rise_of_uids 0 m.records) ∙ is.rise;
  within = all_of (λ r. r.uid) (λ u. nat_le u m.last) rs ∙ ap (list_all (λ u. nat_le u m.last)) uids ∙ sym (all_of (λ r. r.uid) (λ u. nat_le u m.last) m.records) ∙ is.within;
  clean = all_of (λ r. r.text) has_no_nul rs ∙ ap (list_all has_no_nul) texts ∙ sym (all_of (λ r. r.text) has_no_nul m.records) ∙ is.clean;
  numbered = numbered;
}

-- ---- Modification numbers

-- the next one is no smaller, and of 32 bits
next_high : (keeps : Keeps) (number : ℕ) → number ≤ greatest_number → (number ≤ next_number keeps number) × (next_number keeps number ≤ greatest_number)
next_high keeps number fits = step keeps.numbers
  where
    step : (b : Bool) → (number ≤ cond b (min (number + 1) greatest_number) number) × (cond b (min (number + 1) greatest_number) number ≤ greatest_number)
    step true = (omega (arith, fits), omega arith)
    step false = (omega arith, fits)

-- the greater of a test's two outcomes
number_if : (b : Bool) (number next : ℕ) → number ≤ next → next ≤ greatest_number
    → (number ≤ cond b next number) × (cond b next number ≤ greatest_number) × (b ≡ true → next ≤ cond b next number)
number_if true number next up fits = (up, fits, λ is. omega arith)
number_if false number next up fits = (omega arith, omega (arith, up, fits), λ is. absurd (false≢true is))

higher : (low high : ℕ) (rs : List Record) → low ≤ high → list_all (λ r. nat_le r.number low) rs ≡ true → list_all (λ r. nat_le r.number high) rs ≡ true
higher low high [] up all = refl
higher low high (r ∷ rs) up all =
    let parts = and_parts (nat_le r.number low) (list_all (λ r. nat_le r.number low) rs) all in
    let e : nat_le r.number high ≡ true = let b : nat_le r.number low ≡ true = parts.0 in grind arith in
    both e (higher low high rs up parts.1)

-- messages that differ have the number, and all others their own
numbers_within_high : (number high : ℕ) (before after : List Record) → list_all (λ r. nat_le r.number high) after ≡ true → (any_differs before after ≡ true → number ≤ high)
    → list_all (λ r. nat_le r.number high) (with_numbers number before after) ≡ true
numbers_within_high number high before [] all up = refl
numbers_within_high number high [] (r ∷ rest) all up = all
numbers_within_high number high (old ∷ before) (r ∷ rest) all up =
    let parts = and_parts (nat_le r.number high) (list_all (λ r. nat_le r.number high) rest) all in
    step (differs old r) parts.0 up (λ later. numbers_within_high number high before rest parts.1 later)
  where
    step : (b : Bool) → nat_le r.number high ≡ true → ((b || any_differs before rest) ≡ true → number ≤ high)
        → ((any_differs before rest ≡ true → number ≤ high) → list_all (λ r. nat_le r.number high) (with_numbers number before rest) ≡ true)
        → (nat_le (cond b (record r { number = number }) r).number high && list_all (λ r. nat_le r.number high) (with_numbers number before rest)) ≡ true
    step true own up below = let e : nat_le number high ≡ true = let at : number ≤ high = up refl in grind arith in both e (below (λ is. up refl))
    step false own up below = both own (below up)

pub changed_is_mailbox : (keeps : Keeps) (m : Mailbox) (changes : List FlagChange) (words : List (List ℕ)) → IsMailbox m → length words ≤ 30 → are_distinct words ≡ true
    → IsMailbox (change_flags keeps m changes words)
changed_is_mailbox keeps m changes words is few distinct =
    let before = map (cleared (length m.words) (length words)) m.records in
    let after = changed_records (length words) 0 changes before in
    let next = next_number keeps m.number in
    let up = next_high keeps m.number is.number_fits in
    let high = number_if (any_differs before after) m.number next up.0 up.1 in
    let number = cond (any_differs before after) next m.number in
    let own : list_all (λ r. nat_le r.number m.number) after ≡ true =
    all_of (λ r. r.number) (λ n. nat_le n m.number) after
    ∙ ap (list_all (λ n. nat_le n m.number)) (changed_numbers (length words) 0 changes before ∙ map-map (λ r. r.number) (cleared (length m.words) (length words)) m.records)
    ∙ sym (all_of (λ r. r.number) (λ n. nat_le n m.number) m.records) ∙ is.numbered in
    same_messages m number words (with_numbers next before after) is few distinct
    (with_numbers_same (λ r. r.uid) (λ n r. refl) next before after ∙ changed_uids (length words) 0 changes before ∙ map-map (λ r. r.uid) (cleared (length m.words) (length words)) m.records)
    (with_numbers_same (λ r. r.text) (λ n r. refl) next before after ∙ changed_texts (length words) 0 changes before ∙ map-map (λ r. r.text) (cleared (length m.words) (length words)) m.records)
    high.1 (numbers_within_high next number before after (higher m.number number after high.0 own) high.2)

lower_rise : (low high : ℕ) (rs : List Record) → low ≤ high → uids_rise high rs ≡ true → uids_rise low rs ≡ true
lower_rise low high [] below rise = refl
lower_rise low high (r ∷ rs) below rise =
    let parts = and_parts (nat_lt high r.uid) (uids_rise r.uid rs) rise in
    let e : nat_lt low r.uid ≡ true = let p : nat_lt high r.uid ≡ true = parts.0 in grind arith in
    both e parts.1

dropped_rise : (above i : ℕ) (places : List ℕ) (rs : List Record) → uids_rise above rs ≡ true → uids_rise above (undropped i places rs) ≡ true
dropped_rise above i places [] rise = refl
dropped_rise above i places (r ∷ rs) rise =
    let parts = and_parts (nat_lt above r.uid) (uids_rise r.uid rs) rise in
    let up : above ≤ r.uid = let p : nat_lt above r.uid ≡ true = parts.0 in grind arith in
    step (list_any (nat_eq i) places) parts.0 (dropped_rise r.uid (i + 1) places rs parts.1) (lower_rise above r.uid (undropped (i + 1) places rs) up (dropped_rise r.uid (i + 1) places rs parts.1))
  where
    step : (b : Bool) → nat_lt above r.uid ≡ true → uids_rise r.uid (undropped (i + 1) places rs) ≡ true → uids_rise above (undropped (i + 1) places rs) ≡ true
        → uids_rise above (cond b (undropped (i + 1) places rs) (r ∷ undropped (i + 1) places rs)) ≡ true
    step true here kept gone = gone
    step false here kept gone = both here kept

pub dropped_is_mailbox : (m : Mailbox) (places : List ℕ) → IsMailbox m → IsMailbox (drop_records m places)
dropped_is_mailbox m places is = record {
  validity = is.validity;
  validity_fits = is.validity_fits;
  number_fits = is.number_fits;
  last_fits = is.last_fits;
  few = is.few;
  distinct = is.distinct;
  rise = dropped_rise 0 0 places m.records is.rise;
  within = all_left (λ r. nat_le r.uid m.last) 0 places m.records is.within;
  clean = all_left (λ r. has_no_nul r.text) 0 places m.records is.clean;
  numbered = all_left (λ r. nat_le r.number m.number) 0 places m.records is.numbered;
}

pub read_is_mailbox : (c : StoreContents) (fresh : ℕ) (m : Mailbox) → m ≡ opened_mailbox c fresh → length c.records < 4294967296 → fresh < 4294967296 → IsOpenable c → fresh ≢ 0 → IsMailbox m
read_is_mailbox c fresh m same many fits is some = subst IsMailbox (sym same) (opened_is_mailbox c fresh many is some fits)

-- rising UIDs, and then more that rise above them
append_rise : (above last : ℕ) (xs ys : List Record) → above ≤ last → uids_rise above xs ≡ true → list_all (λ r. nat_le r.uid last) xs ≡ true → uids_rise last ys ≡ true → uids_rise above (xs ++ ys) ≡ true
append_rise above last [] ys below rise within more = lower_rise above last ys below more
append_rise above last (r ∷ xs) ys below rise within more =
    let parts = and_parts (nat_lt above r.uid) (uids_rise r.uid xs) rise in
    let bound = and_parts (nat_le r.uid last) (list_all (λ r. nat_le r.uid last) xs) within in
    let here : r.uid ≤ last = let b : nat_le r.uid last ≡ true = bound.0 in grind arith in
    both parts.0 (append_rise r.uid last xs ys here parts.1 bound.1 more)

added_rise : (keeps : Keeps) (names number last : ℕ) (new : List NewMessage) → uids_rise last (added_records keeps names number (last + 1) new) ≡ true
added_rise keeps names number last [] = refl
added_rise keeps names number last (x ∷ new) = let e : nat_lt last (last + 1) ≡ true = grind arith in both e (added_rise keeps names number (last + 1) new)

added_within : (keeps : Keeps) (names number next last : ℕ) (new : List NewMessage) → next + length new ≤ last + 1 → list_all (λ r. nat_le r.uid last) (added_records keeps names number next new) ≡ true
added_within keeps names number next last [] room = refl
added_within keeps names number next last (x ∷ new) room = let e : nat_le next last ≡ true = grind arith in both e (added_within keeps names number (next + 1) last new (omega (arith, room)))

added_clean : (keeps : Keeps) (names number next : ℕ) (new : List NewMessage) → list_all (λ (x : NewMessage). has_no_nul x.text) new ≡ true → list_all (λ (r : Record). has_no_nul r.text) (added_records keeps names number next new) ≡ true
added_clean keeps names number next [] all = refl
added_clean keeps names number next (x ∷ new) all =
    let parts = and_parts (has_no_nul x.text) (list_all (λ (x : NewMessage). has_no_nul x.text) new) all in
    both (form_is_clean keeps.text x.text parts.0) (added_clean keeps names number (next + 1) new parts.1)

-- each new message has the number, or none where the driver has none
added_numbered : (keeps : Keeps) (names number next high : ℕ) (new : List NewMessage) → ((0 < length new) → number ≤ high) → list_all (λ r. nat_le r.number high) (added_records keeps names number next new) ≡ true
added_numbered keeps names number next high [] up = refl
added_numbered keeps names number next high (x ∷ new) up =
    let at : number ≤ high = up (omega arith) in
    both (one keeps.numbers at) (added_numbered keeps names number (next + 1) high new (λ some. at))
  where
    one : (b : Bool) → number ≤ high → nat_le (cond b number 0) high ≡ true
    one true at = grind arith
    one false at = grind arith

wider : (last more : ℕ) (rs : List Record) → list_all (λ r. nat_le r.uid last) rs ≡ true → list_all (λ r. nat_le r.uid (last + more)) rs ≡ true
wider last more [] all = refl
wider last more (r ∷ rs) all =
    let parts = and_parts (nat_le r.uid last) (list_all (λ r. nat_le r.uid last) rs) all in
    let e : nat_le r.uid (last + more) ≡ true = let b : nat_le r.uid last ≡ true = parts.0 in grind arith in
    both e (wider last more rs parts.1)

pub added_is_mailbox : (keeps : Keeps) (m : Mailbox) (new : List NewMessage) (words : List (List ℕ)) → IsMailbox m → length words ≤ 30 → are_distinct words ≡ true
    → list_all (λ (x : NewMessage). has_no_nul x.text) new ≡ true → m.last + length new ≤ greatest_number → IsMailbox (add_messages keeps m new words)
added_is_mailbox keeps m new words is few distinct clean room =
    let old = map (cleared (length m.words) (length words)) m.records in
    let added = added_records keeps (length words) (next_number keeps m.number) (m.last + 1) new in
    let next = next_number keeps m.number in
    let up = next_high keeps m.number is.number_fits in
    let some = nat_lt 0 (length new) in
    let high = number_if some m.number next up.0 up.1 in
    let number = cond some next m.number in
    let own : list_all (λ r. nat_le r.number m.number) old ≡ true =
    all_of (λ r. r.number) (λ n. nat_le n m.number) old ∙ ap (list_all (λ n. nat_le n m.number)) (map-map (λ r. r.number) (cleared (length m.words) (length words)) m.records)
    ∙ sym (all_of (λ r. r.number) (λ n. nat_le n m.number) m.records) ∙ is.numbered in
    let same = same_messages m m.number words old is few distinct (map-map (λ r. r.uid) (cleared (length m.words) (length words)) m.records) (map-map (λ r. r.text) (cleared (length m.words) (length words)) m.records) is.number_fits own in
    record {
      validity = is.validity;
      validity_fits = is.validity_fits;
      number_fits = high.1;
      last_fits = room;
      few = few;
      distinct = distinct;
      rise = append_rise 0 m.last old added (omega arith) same.rise same.within (added_rise keeps (length words) (next_number keeps m.number) m.last new);
      within = list_all-append (λ r. nat_le r.uid (m.last + length new)) old added
          ∙ both (wider m.last (length new) old same.within) (added_within keeps (length words) (next_number keeps m.number) (m.last + 1) (m.last + length new) new (omega arith));
      clean = list_all-append (λ r. has_no_nul r.text) old added ∙ both same.clean (added_clean keeps (length words) (next_number keeps m.number) (m.last + 1) new clean);
      numbered = list_all-append (λ r. nat_le r.number number) old added
          ∙ both (higher m.number number old high.0 own) (added_numbered keeps (length words) next (m.last + 1) number new (λ at. high.2 (grind arith)));
    }
