-- What is written of a mailbox that a driver can have is what its files may say: the laws `again` and `found` of a form agree, for each driver.
use Rattle.std.proofs.Common.{◌≡◌, ◌≢◌, ℕ, ◌+◌, ◌≤◌, ◌^◌, ◌%◌, ◌&&◌, suc, Bool, true, false, nat_le, cond, is_some, List, [], ◌∷◌, length, map, Some, None, unwrap_or, refl, sym, ap, ◌∙◌, subst, arith}
use Rattle.std.proofs.lemmas.Bool.{and_parts, false≢true}
use Rattle.std.proofs.lemmas.Bool.Decides.{nat_tests}
use Rattle.std.proofs.lemmas.List.{length-map}
use Rattle.std.specs.List.{AllByRecursion, list_all}
use Rattle.mail_fields.specs.Keyword.{IsKeyword}
use Rattle.mail_fields.specs.Names.{are_distinct}
use Rattle.mail_types.specs.declared.contents.StoreContents.{StoreContents}
use Rattle.mail_types.specs.declared.driver.Driver.{Driver}
use Rattle.mail_types.specs.declared.driver.Driver.TheVariants.{Unix, Mmdf, Mbx, Mtx, Tenex, Mh, Mix}
use Rattle.mail_types.specs.declared.driver.Keeps.{Keeps}
use Rattle.mail_types.specs.declared.mailbox.Mailbox.{Mailbox}
use Rattle.mail_types.specs.declared.message.Record.{Record}
use Rattle.mail_types.specs.Drivers.{keeps_of}
use Rattle.mail_types.specs.Keeping.{take_record, kept_record}
use Rattle.mail_types.specs.Lists.{named}
use Rattle.mail_types.specs.Mailboxes.{has_no_nul, greatest_number}
use Rattle.mail_types.specs.Opening.{greatest, highest, uids_of}
use Rattle.mail_types.specs.Stored.{stored_record, stored_contents, stored_numbers, number_of_uid}
use Rattle.mail_types.proofs.Twice.{kept_twice}
use Rattle.store_trait.specs.Having.{CanSpell, IsFound, IsPlaced, contents_of}
use Rattle.store_trait.specs.OwnPaths.{is_directory_driver}
use Rattle.store_trait.proofs.Anew.{in_place, stored_same}
use Rattle.store_trait.proofs.Backed.{no_names}
use Rattle.store_trait.proofs.CanHave.{given_written}
use Rattle.store_trait.proofs.Rewriting.{stored_text}

module _ (keeps : Keeps) where
  stored_twice : (r : Record) → stored_record keeps (stored_record keeps r) ≡ stored_record keeps r
  stored_twice r = step keeps.uids
    where
      step : (b : Bool) → cond b (kept_record keeps (cond b (kept_record keeps r) (record (kept_record keeps r) { uid = 0 }))) (record (kept_record keeps (cond b (kept_record keeps r) (record (kept_record keeps r) { uid = 0 }))) { uid = 0 })
          ≡ cond b (kept_record keeps r) (record (kept_record keeps r) { uid = 0 })
      step true = kept_twice keeps r
      step false = λ k. record (kept_twice keeps r k) { uid = 0 }

  stored_words : (r : Record) → take_record keeps r ≡ r → (stored_record keeps r).words ≡ r.words
  stored_words r form = step keeps.uids
    where
      step : (b : Bool) → (cond b (kept_record keeps r) (record (kept_record keeps r) { uid = 0 })).words ≡ r.words
      step true = ap (λ q. q.words) form
      step false = ap (λ q. q.words) form

  stored_uid : (r : Record) → (stored_record keeps r).uid ≤ r.uid
  stored_uid r = step keeps.uids
    where
      step : (b : Bool) → (cond b (kept_record keeps r) (record (kept_record keeps r) { uid = 0 })).uid ≤ r.uid
      step true = omega arith
      step false = omega arith

  all_twice : (rs : List Record) → AllByRecursion (λ r. stored_record keeps r ≡ r) (map (stored_record keeps) rs)
  all_twice [] = tt
  all_twice (r ∷ rs) = (stored_twice r, all_twice rs)

  all_named : (names : ℕ) (rs : List Record) → AllByRecursion (λ r. take_record keeps r ≡ r) rs → AllByRecursion (λ r. named names r ≡ r) rs → AllByRecursion (λ r. named names r ≡ r) (map (stored_record keeps) rs)
  all_named names [] forms all = tt
  all_named names (r ∷ rs) forms all =
      let words = stored_words r forms.0 in
      let same : (stored_record keeps r).words % 2 ^ names ≡ (stored_record keeps r).words = ap (λ w. w % 2 ^ names) words ∙ ap (λ (q : Record). q.words) all.0 ∙ sym words in
      ((λ k. record (stored_record keeps r) { words = same k }), all_named names rs forms.1 all.1)

  uids_small : (bound : ℕ) (rs : List Record) → list_all (λ r. nat_le r.uid bound) rs ≡ true → greatest (uids_of (map (stored_record keeps) rs)) ≤ bound
  uids_small bound [] all = omega arith
  uids_small bound (r ∷ rs) all =
      let parts = and_parts (nat_le r.uid bound) (list_all (λ r. nat_le r.uid bound) rs) all in
      let here : r.uid ≤ bound = grind (arith, nat_tests, parts.0) in
      omega (arith, stored_uid r, here, uids_small bound rs parts.1)

  all_clean : (rs : List Record) → AllByRecursion (λ r. take_record keeps r ≡ r) rs → list_all (λ r. has_no_nul r.text) rs ≡ true → list_all (λ r. has_no_nul r.text) (map (stored_record keeps) rs) ≡ true
  all_clean [] forms all = refl
  all_clean (r ∷ rs) forms all =
      let parts = and_parts (has_no_nul r.text) (list_all (λ r. has_no_nul r.text) rs) all in
      rw (ap has_no_nul (stored_text keeps r forms.0) ∙ parts.0, all_clean rs forms.1 parts.1) refl

-- a UIDVALIDITY that is written isn't 0
validity_some : (b : Bool) (v : ℕ) → v ≢ 0 → unwrap_or (cond b (Some v) None) 1 ≢ 0
validity_some true v some same = some same
validity_some false v some same = absurd (omega (arith, same))

validity_small : (b : Bool) (v : ℕ) → v ≤ greatest_number → unwrap_or (cond b (Some v) None) 1 ≤ greatest_number
validity_small true v fits = fits
validity_small false v fits = omega arith

last_small : (b : Bool) (last : ℕ) → cond b last 0 ≤ last
last_small true last = omega arith
last_small false last = omega arith

never_last : (b : Bool) (v last : ℕ) → b ≡ false → (cond b (Some v) None ≡ None) × (cond b last 0 ≡ 0)
never_last true v last never = absurd (false≢true (sym never))
never_last false v last never = (refl, refl)

numbers_all : (prior : List Record) (old : List ℕ) (next : ℕ) (rs : List Record) → length (stored_numbers prior old next rs) ≡ length rs
numbers_all prior old next [] = refl
numbers_all prior old next (r ∷ rs) = ap suc (numbers_all prior old (cond (is_some (number_of_uid prior old r.uid)) next (next + 1)) rs)

placed_again : (d : Driver) (m : Mailbox) → IsPlaced d (contents_of d m)
placed_again Unix m = refl
placed_again Mmdf m = refl
placed_again Mbx m = refl
placed_again Mtx m = refl
placed_again Tenex m = refl
placed_again Mh m = (_, _, refl, numbers_all [] [] 1 m.records ∙ sym (length-map m.records (stored_record (keeps_of Mh))))
placed_again Mix m = refl

-- modification numbers stay below the mailbox's, or are 0
number_small : (b : Bool) (number : ℕ) → number ≤ greatest_number → cond b number 0 ≤ greatest_number
number_small true number fits = fits
number_small false number fits = omega arith

stored_number : (keeps : Keeps) (r : Record) → (stored_record keeps r).number ≡ cond keeps.numbers r.number 0
stored_number keeps r = step keeps.uids
  where
    step : (b : Bool) → (cond b (kept_record keeps r) (record (kept_record keeps r) { uid = 0 })).number ≡ cond keeps.numbers r.number 0
    step true = refl
    step false = refl

all_numbered : (keeps : Keeps) (most : ℕ) (rs : List Record) → list_all (λ r. nat_le r.number most) rs ≡ true
    → list_all (λ r. nat_le r.number (cond keeps.numbers most 0)) (map (stored_record keeps) rs) ≡ true
all_numbered keeps most [] all = refl
all_numbered keeps most (r ∷ rs) all =
    let parts = and_parts (nat_le r.number most) (list_all (λ r. nat_le r.number most) rs) all in
    ap (λ b. b && list_all (λ r. nat_le r.number (cond keeps.numbers most 0)) (map (stored_record keeps) rs)) (ap (λ n. nat_le n (cond keeps.numbers most 0)) (stored_number keeps r) ∙ one keeps.numbers parts.0)
    ∙ all_numbered keeps most rs parts.1
  where
    one : (b : Bool) → nat_le r.number most ≡ true → nat_le (cond b r.number 0) (cond b most 0) ≡ true
    one true is = is
    one false is = refl

pub found_again : (d : Driver) (m : Mailbox) → CanSpell d m → IsFound d (contents_of d m)
found_again d m is =
    let keeps = keeps_of d in
    let words = no_names d m.words is.few in
    let high : highest (cond keeps.uids m.last 0) (uids_of (map (stored_record keeps) m.records)) ≤ m.last = omega (arith, last_small keeps.uids m.last, uids_small keeps m.last m.records is.mailbox.within) in
    record {
      openable = record {
        validity = validity_some keeps.uids m.validity is.mailbox.validity;
        validity_fits = validity_small keeps.uids m.validity is.mailbox.validity_fits;
        last_fits = omega (arith, high, is.last, (given_written d).1);
        few = omega (arith, ap (λ l. length l) words, is.mailbox.few);
        distinct = ap are_distinct words ∙ is.mailbox.distinct;
        clean = all_clean keeps m.records is.in_form is.mailbox.clean;
        number_fits = number_small keeps.numbers m.number is.mailbox.number_fits;
        numbered = all_numbered keeps m.number m.records is.mailbox.numbered;
      };
      names = subst (AllByRecursion IsKeyword) (sym words) is.names;
      few = omega (arith, ap (λ l. length l) words, is.few);
      in_form = all_twice keeps m.records;
      named = subst (λ l. AllByRecursion (λ r. named (length l) r ≡ r) (map (stored_record keeps) m.records)) (sym words) (all_named keeps (length m.words) m.records is.in_form is.named);
      last = omega (arith, high, is.last);
      lasting = λ never. never_last keeps.uids m.validity m.last never;
      placed = placed_again d m;
      unnumbered = λ none. ap (λ b. cond b m.number 0) none;
    }

-- the same of what a change leaves of one file: the laws `goes_on` and `found` agree
pub found_changed : (d : Driver) → is_directory_driver d ≡ false → (before : StoreContents) (prior now : Mailbox) → IsFound d before → CanSpell d now → IsFound d (stored_contents d before prior now)
found_changed d kind before prior now found is = subst (IsFound d) (stored_same d kind before prior now (in_place d kind before found.placed)) (found_again d now is)
