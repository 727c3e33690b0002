-- What is told after a change: how many names and messages.
use Rattle.std.proofs.Common.{◌≡◌, ℕ, suc, ◌+◌, ◌≤◌, ◌&&◌, Bool, true, false, cond, List, [], ◌∷◌, length, length-append, map, nat_eq, nat_lt, None, Result, Ok, Err, IfOk, refl, ap, ◌∙◌, arith}
use Rattle.std.proofs.lemmas.Bool.Decides.{nat_tests}
use Rattle.std.proofs.lemmas.List.{length-map}
use Rattle.std.specs.List.{list_any}
use Rattle.mail_types.specs.declared.driver.Keeps.{Keeps}
use Rattle.mail_types.specs.declared.driver.Limit.TheVariants.{File, Text}
use Rattle.mail_types.specs.declared.message.FlagChange.{FlagChange}
use Rattle.mail_types.specs.declared.message.NewMessage.{NewMessage}
use Rattle.mail_types.specs.Limits.{record_limit, file_limit, has_large_text, given_length}
use Rattle.mail_types.specs.Lists.{added_records, undropped}
use Rattle.mail_types.specs.Opening.{greatest_given}
use Rattle.mail_types.proofs.Dropping.{left_count}
use Rattle.store_trait.specs.declared.change.Change.{Change}
use Rattle.store_trait.specs.declared.change.Change.TheVariants.{Append, SetFlags, Expunge}
use Rattle.store_trait.specs.declared.faults.StoreFault.TheVariants.{NoUid, TooMany, TooLarge}
use Rattle.store_trait.specs.declared.store.Info.{Info}
use Rattle.store_trait.specs.Changes.{CanChange, IsSized, first_due}
use Rattle.store_index.specs.States.{ToldState, told_as}
use Rattle.store_index.specs.Steps.{told_due}
use Rattle.store_index.specs.Told.{cleared_info, changed_infos, added_infos, changed_summary}

no_more : {A : Type 0} → (place : ℕ) (places : List ℕ) (rs : List A) → length (undropped place places rs) ≤ length rs
no_more place places [] = omega arith
no_more place places (r ∷ rs) = step (list_any (nat_eq place) places) (no_more (place + 1) places rs)
  where
    step : (b : Bool) → length (undropped (place + 1) places rs) ≤ length rs → length (cond b (undropped (place + 1) places rs) (r ∷ undropped (place + 1) places rs)) ≤ length (r ∷ rs)
    step true e = omega (arith, e)
    step false e = omega (arith, e)

pub changed_infos_count : (names place : ℕ) (cs : List FlagChange) (infos : List Info) → length (changed_infos names place cs infos) ≡ length infos
changed_infos_count names place cs [] = refl
changed_infos_count names place cs (i ∷ infos) = ap suc (changed_infos_count names (place + 1) cs infos)

added_infos_count : (keeps : Keeps) (names next : ℕ) (new : List NewMessage) → length (added_infos keeps names next new) ≡ length new
added_infos_count keeps names next [] = refl
added_infos_count keeps names next (n ∷ new) = ap suc (added_infos_count keeps names (next + 1) new)

-- a change for which no refusal is due leaves no more messages than a store may have
pub many_after : (keeps : Keeps) (s : ToldState) (change : Change) → length s.infos ≤ record_limit → told_due keeps s change ≡ None → length (changed_summary keeps s change).infos ≤ record_limit
many_after keeps s (Append new words) many none =
    let few : nat_lt record_limit (length s.infos + length new) ≡ false = second (nat_lt 0 (length new) && nat_lt greatest_given (s.last + length new)) (nat_lt record_limit (length s.infos + length new)) none in
    let room : length s.infos + length new ≤ record_limit = grind (arith, nat_tests, few) in
    omega (
      arith,
      room,
      length-append (map (cleared_info (length s.words) (length words)) s.infos) (added_infos keeps (length words) (s.last + 1) new),
      length-map s.infos (cleared_info (length s.words) (length words)),
      added_infos_count keeps (length words) (s.last + 1) new,
    )
  where
    second : (a b : Bool) → first_due ((a, NoUid) ∷ (b, TooMany) ∷ (has_large_text (added_records keeps (length words) 0 (s.last + 1) new), TooLarge Text) ∷ (nat_lt file_limit (given_length new), TooLarge File) ∷ []) ≡ None → b ≡ false
    second true b is = absurd (cc)
    second false true is = absurd (cc)
    second false false is = refl
many_after keeps s (SetFlags changes words) many none =
    omega (arith, many, changed_infos_count (length words) 0 changes (map (cleared_info (length s.words) (length words)) s.infos), length-map s.infos (cleared_info (length s.words) (length words)))
many_after keeps s (Expunge places) many none = omega (arith, many, no_more 0 places s.infos)

-- it leaves no more names than the driver may have
pub few_after : (keeps : Keeps) (s : ToldState) (change : Change) → length s.words ≤ keeps.words → CanChange keeps s.words (length s.infos) change → length (changed_summary keeps s change).words ≤ keeps.words
few_after keeps s (Append new words) few can = can.0.few
few_after keeps s (SetFlags changes words) few can = can.0.few
few_after keeps s (Expunge places) few can = few

-- the same of what is told
pub many_next : (keeps : Keeps) (s next : ToldState) (change : Change) → next ≡ changed_summary keeps s change → length s.infos ≤ record_limit → told_due keeps s change ≡ None → length next.infos ≤ record_limit
many_next keeps s next change is many none = let fits = many_after keeps s change many none in omega (arith, fits, ap (λ (n : ToldState). length n.infos) is)

pub few_next : (keeps : Keeps) (s next : ToldState) (change : Change) → next ≡ changed_summary keeps s change → length s.words ≤ keeps.words → CanChange keeps s.words (length s.infos) change → length next.words ≤ keeps.words
few_next keeps s next change is few can = let fits = few_after keeps s change few can in omega (arith, fits, ap (λ (n : ToldState). length n.words) is)

pub many_ok : {E : Type 0} (keeps : Keeps) (s : ToldState) (change : Change) (result : Result ToldState E) → IfOk result (λ next. next ≡ changed_summary keeps s change) → length s.infos ≤ record_limit → told_due keeps s change ≡ None
    → IfOk result (λ next. length next.infos ≤ record_limit)
many_ok keeps s change (Ok next) told many none = many_next keeps s next change told many none
many_ok keeps s change (Err e) told many none = tt

-- what is told has the names and the number of messages that the change gives
pub sized_told : (keeps : Keeps) (s : ToldState) (change : Change) → CanChange keeps s.words (length s.infos) change → IsSized (told_as s) change (told_as (changed_summary keeps s change))
sized_told keeps s (Append new words) can = record {
  words = refl;
  count = omega (
    arith,
    length-append (map (cleared_info (length s.words) (length words)) s.infos) (added_infos keeps (length words) (s.last + 1) new),
    length-map s.infos (cleared_info (length s.words) (length words)),
    added_infos_count keeps (length words) (s.last + 1) new,
  );
}
sized_told keeps s (SetFlags changes words) can = record {
  words = refl;
  count = changed_infos_count (length words) 0 changes (map (cleared_info (length s.words) (length words)) s.infos) ∙ length-map s.infos (cleared_info (length s.words) (length words));
}
sized_told keeps s (Expunge places) can = record { words = refl; count = omega (arith, left_count 0 (length s.infos) places s.infos can (omega arith)) }
