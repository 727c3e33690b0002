-- A change of nothing leaves a store of one file as it is.
use Rattle.std.proofs.Common.{◌≡◌, ◌⊎◌, ℕ, ◌+◌, ◌^◌, ◌==◌, ◌&&◌, ◌||◌, not, nat_eq, true, false, cond, inl, inr, List, [], ◌∷◌, ◌++◌, length, length-append, map, Ok, IsTrue, refl, sym, ap, ◌∙◌, subst, arith, append-nil, add-zero}
use Rattle.std.proofs.Math.Nat.{mod-add-div}
use Rattle.std.proofs.lemmas.Bool.{and_parts}
use Rattle.std.proofs.lemmas.Bool.Decides.{nat_tests}
use Rattle.file_model.specs.Disk.{Disk, seen}
use Rattle.file_model.specs.Histories.{History, Now, Ended}
use Rattle.mail_types.specs.declared.driver.Driver.{Driver}
use Rattle.mail_types.specs.declared.driver.Keeps.{Keeps}
use Rattle.mail_types.specs.declared.mailbox.Mailbox.{Mailbox}
use Rattle.mail_types.specs.declared.message.Record.{Record}
use Rattle.mail_types.specs.Drivers.{keeps_of}
use Rattle.mail_types.specs.Flags.{flag_bits}
use Rattle.mail_types.specs.Lists.{cleared, changed_records, next_number, differs, any_differs, with_numbers}
use Rattle.mail_types.specs.Stored.{stored_contents}
use Rattle.mail_types.proofs.Dropping.{undropped_none}
use Rattle.store_trait.specs.declared.change.Change.{Change}
use Rattle.store_trait.specs.declared.change.Change.TheVariants.{Append, SetFlags, Expunge}
use Rattle.store_trait.specs.Changes.{CanChange, IsSized, changed_mailbox, is_nothing}
use Rattle.store_trait.specs.Forms.{grammar_of}
use Rattle.store_trait.specs.Meaning.{IsWritten}
use Rattle.store_trait.specs.Promises.{ChangesStore}
use Rattle.store_trait.specs.Views.{View}
use Rattle.store_index.specs.States.{ToldState, told_as}
use Rattle.store_index.specs.Fronts.{FrontState}
use Rattle.file_store.specs.Forms.{ReadForm, forms_of}
use Rattle.file_store.specs.Standing.{StandsOn, file_view}

cleared_none : (names : ℕ) (rs : List Record) → map (cleared names names) rs ≡ rs
cleared_none names [] = refl
cleared_none names (r ∷ rs) = λ i. record r { words = mod-add-div r.words (2 ^ names) i } ∷ cleared_none names rs i

changed_none : (names place : ℕ) (rs : List Record) → changed_records names place [] rs ≡ rs
changed_none names place [] = refl
changed_none names place (r ∷ rs) = ap (λ l. r ∷ l) (changed_none names (place + 1) rs)

-- no message differs from itself
same_message : (r : Record) → differs r r ≡ false
same_message r =
    let words : nat_eq r.words r.words ≡ true = grind (arith, nat_tests) in
    let flags : nat_eq (flag_bits (record r.flags { old = false })) (flag_bits (record r.flags { old = false })) ≡ true = grind (arith, nat_tests) in
    ap (λ b. not (b && nat_eq (flag_bits (record r.flags { old = false })) (flag_bits (record r.flags { old = false })))) words ∙ ap not flags

none_differs : (rs : List Record) → any_differs rs rs ≡ false
none_differs [] = refl
none_differs (r ∷ rs) = ap (λ b. b || any_differs rs rs) (same_message r) ∙ none_differs rs

same_numbers : (number : ℕ) (rs : List Record) → with_numbers number rs rs ≡ rs
same_numbers number [] = refl
same_numbers number (r ∷ rs) = λ i. cond (same_message r i) (record r { number = number }) r ∷ same_numbers number rs i

no_more_names : (old words more : List (List ℕ)) → words ≡ old ++ more → length words ≡ length old → words ≡ old
no_more_names old words [] is same = is ∙ append-nil old
no_more_names old words (name ∷ more) is same = absurd (omega (arith, same, ap length is, length-append old (name ∷ more)))

both_zero : (a b c : ℕ) → ((a == 0) && (b == c)) ≡ true → (a ≡ 0) × (b ≡ c)
both_zero a b c is = let parts = and_parts (a == 0) (b == c) is in (grind (arith, nat_tests, parts.0), grind (arith, nat_tests, parts.1))

pub nothing_changed : (keeps : Keeps) (count : ℕ) (m : Mailbox) (change : Change) → is_nothing m.words change ≡ true → CanChange keeps m.words count change → changed_mailbox keeps m change ≡ m
nothing_changed keeps count m (Append [] words) none can =
    let same = no_more_names m.words words can.0.more can.0.begins (both_zero 0 (length words) (length m.words) none).1 in
    let names : length m.words ≡ length words = sym (ap length same) in
    λ i. record {
      validity = m.validity;
      number = m.number;
      last = add-zero m.last i;
      words = same i;
      records = (ap (λ n. map (cleared (length m.words) n) m.records ++ []) (sym names) ∙ append-nil (map (cleared (length m.words) (length m.words)) m.records) ∙ cleared_none (length m.words) m.records) i;
    }
nothing_changed keeps count m (Append (x ∷ new) words) none can = absurd (omega (arith, (both_zero (length (x ∷ new)) (length words) (length m.words) none).0))
nothing_changed keeps count m (SetFlags [] words) none can =
    let same = no_more_names m.words words can.0.more can.0.begins (both_zero 0 (length words) (length m.words) none).1 in
    let names : length m.words ≡ length words = sym (ap length same) in
    let next = next_number keeps m.number in
    let before = map (cleared (length m.words) (length words)) m.records in
    let after : changed_records (length words) 0 [] before ≡ before = changed_none (length words) 0 before in
    λ i. record {
      validity = m.validity;
      number = (ap (λ rs. cond (any_differs before rs) next m.number) after ∙ ap (λ b. cond b next m.number) (none_differs before)) i;
      last = m.last;
      words = same i;
      records = (ap (λ rs. with_numbers next before rs) after ∙ same_numbers next before ∙ ap (λ n. map (cleared (length m.words) n) m.records) (sym names) ∙ cleared_none (length m.words) m.records) i;
    }
nothing_changed keeps count m (SetFlags (c ∷ changes) words) none can = absurd (omega (arith, (both_zero (length (c ∷ changes)) (length words) (length m.words) none).0))
nothing_changed keeps count m (Expunge []) none can = ap (λ rs. record { validity = m.validity; number = m.number; last = m.last; words = m.words; records = rs }) (undropped_none 0 m.records)
nothing_changed keeps count m (Expunge (p ∷ places)) none can = let no : length (p ∷ places) ≡ 0 = grind (arith, nat_tests, none) in absurd (omega (arith, no))

-- nothing is told that wasn't
sized_nothing : (keeps : Keeps) (s : ToldState) (change : Change) → is_nothing s.words change ≡ true → CanChange keeps s.words (length s.infos) change → IsSized (told_as s) change (told_as s)
sized_nothing keeps s (Append new words) none can =
    let zero = both_zero (length new) (length words) (length s.words) none in
    record { words = sym (no_more_names s.words words can.0.more can.0.begins zero.1); count = omega (arith, zero.0) }
sized_nothing keeps s (SetFlags changes words) none can =
    let zero = both_zero (length changes) (length words) (length s.words) none in
    record { words = sym (no_more_names s.words words can.0.more can.0.begins zero.1); count = refl }
sized_nothing keeps s (Expunge places) none can = let no : length places ≡ 0 = grind (arith, nat_tests, none) in record { words = refl; count = omega (arith, no) }

ended_from : (R : Disk → Disk → Type 0) (P : Disk → Type 0) → ((d : Disk) → P d → R d d) → (h : History) → Now h (λ w. P w.disk) → Ended R h h
ended_from R P same [] now = refl
ended_from R P same (w ∷ past) now = same w.disk now

pub nothing_file : (driver : Driver) (form : ReadForm) (held : List ℕ → Type 0) (s : FrontState) (change : Change) (h : History) → is_nothing s.told.words change ≡ true
    → CanChange (keeps_of driver) s.told.words (length s.told.infos) change → s.broken ≡ false → IsTrue s.broken ⊎ Now h (λ w. StandsOn driver form held s.path s.told (seen w.disk))
    → ChangesStore (forms_of driver form) (file_view driver form held s) (file_view driver form held s) change (Ok tt) h h
nothing_file driver form held s change h none can whole (inl broken) = absurd (cc)
nothing_file driver form held s change h none can whole (inr stands) =
    let view : View = file_view driver form held s in
    let same : (d : Disk) → changed_mailbox (keeps_of driver) (view.mailbox (seen d)) change ≡ view.mailbox (seen d) = λ d. nothing_changed (keeps_of driver) (length s.told.infos) (view.mailbox (seen d)) change none can in
    record {
      done = ended_from _ (λ d. Unit {0}) (λ d p. sym (same d)) h (always h);
      sized = sized_nothing (keeps_of driver) s.told change none can;
      rewrites = ended_from _ (λ d. Unit {0}) (λ d p some. absurd (cc)) h (always h);
      files = ended_from _ (λ d. Unit {0}) (λ d p some. absurd (cc)) h (always h);
      stored = ended_from _ (λ d. Unit {0}) (λ d p before was. (
        subst (IsWritten (grammar_of (forms_of driver form) driver s.path) (seen d))
            (ap (λ b. cond b before (stored_contents driver before (view.mailbox (seen d)) (changed_mailbox (keeps_of driver) (view.mailbox (seen d)) change))) (sym none)) was,
        (λ some. absurd (cc)),
      )) h (always h);
      stands = stands;
      refused = λ refuses. absurd refuses;
    }
  where
    always : (h : History) → Now h (λ w. Unit {0})
    always [] = tt
    always (w ∷ past) = tt
