-- What the change that adds messages to a mailbox needs and makes.
use Rattle.std.proofs.Common.{ℕ, zero, suc, Bool, true, false, List, [], ◌∷◌, ◌++◌, ◌+◌, ◌≤◌, ◌<◌, ◌≡◌, ◌==◌, ◌&&◌, ◌^◌, refl, sym, ◌∙◌, ap, append_assoc, min, drop, length, length-append, map, nat_lt, arith, if◌then◌else◌, None}
use Rattle.std.specs.List.{list_all}
use Rattle.std.proofs.lemmas.Bool.Decides.{nat_tests}
use Rattle.std.proofs.lemmas.List.{length-map}
use Rattle.mail_types.specs.declared.contents.StoreContents.{StoreContents}
use Rattle.mail_types.specs.declared.driver.Driver.{Driver}
use Rattle.mail_types.specs.declared.driver.Keeps.{Keeps}
use Rattle.mail_types.specs.declared.mailbox.Mailbox.{Mailbox}
use Rattle.mail_types.specs.declared.message.NewMessage.{NewMessage}
use Rattle.mail_types.specs.declared.message.Record.{Record}
use Rattle.mail_types.specs.Drivers.{keeps_of}
use Rattle.mail_types.specs.Limits.{lacks_uids}
use Rattle.mail_types.specs.Lists.{cleared, added_records, next_number}
use Rattle.mail_types.specs.Mailboxes.{has_no_nul}
use Rattle.mail_types.specs.Opening.{greatest_given, numbers_from}
use Rattle.store_trait.specs.declared.change.Change.TheVariants.{Append}
use Rattle.store_trait.specs.declared.faults.StoreFault.{StoreFault}
use Rattle.store_trait.specs.declared.faults.StoreFault.TheVariants.{NoUid}
use Rattle.store_trait.specs.Changes.{CanChange, append_tests, due_refusal, first_due, changed_mailbox}
use Rattle.store_trait.specs.Views.{info_of}
use Rattle.imap_session.specs.declared.adding.Brought.{Brought}
use Rattle.imap_session.specs.Adding.{new_message, names_with, addition, are_clean}
use Rattle.imap_session.proofs.Storing.{next_words}

-- ---- What it needs

clean_new : (told : Bool) (names : List (List ℕ)) (brought : List Brought) → are_clean brought ≡ true → list_all (λ (message : NewMessage). has_no_nul message.text) (map (new_message told names) brought) ≡ true
clean_new told names [] clean = refl
clean_new told names (b ∷ brought) clean = both (has_no_nul b.text) (are_clean brought) (list_all (λ (message : NewMessage). has_no_nul message.text) (map (new_message told names) brought)) clean (clean_new told names brought)
  where
    both : (one rest other : Bool) → one && rest ≡ true → (rest ≡ true → other ≡ true) → one && other ≡ true
    both true rest other is go_on = go_on is
    both false rest other is go_on = absurd (cc)

-- names that go on from those that stand, and texts without a NUL
pub addition_can : (told : Bool) (driver : Driver) (words : List (List ℕ)) (brought : List Brought) (names : List (List ℕ)) (count : ℕ) → length words ≤ (keeps_of driver).words → are_clean brought ≡ true
    → CanChange (keeps_of driver) words count (addition told driver words brought names)
addition_can told driver words brought names count few clean =
    (next_words (keeps_of driver) words names (nat_lt 0 (length brought)) few, clean_new told (names_with driver words brought names) brought clean)

-- ---- What it makes

added_length : (keeps : Keeps) (names number next : ℕ) (new : List NewMessage) → length (added_records keeps names number next new) ≡ length new
added_length keeps names number next [] = refl
added_length keeps names number next (message ∷ new) = ap suc (added_length keeps names number (next + 1) new)

-- so many messages more
pub added_count : (keeps : Keeps) (m : Mailbox) (new : List NewMessage) (words : List (List ℕ)) → length (map info_of (changed_mailbox keeps m (Append new words)).records) ≡ length (map info_of m.records) + length new
added_count keeps m new words =
    length-map (map (cleared (length m.words) (length words)) m.records ++ more) info_of
    ∙ length-append (map (cleared (length m.words) (length words)) m.records) more
    ∙ ap (λ n. n + length more) (length-map m.records (cleared (length m.words) (length words)) ∙ sym (length-map m.records info_of))
    ∙ ap (λ n. length (map info_of m.records) + n) (added_length keeps (length words) (next_number keeps m.number) (m.last + 1) new)
  where
    more : List Record
    more = added_records keeps (length words) (next_number keeps m.number) (m.last + 1) new

-- ---- The UIDs of the new messages

-- one more of them
pub one_uid : (first n : ℕ) → numbers_from first (n + 1) ≡ numbers_from first n ++ (first + n) ∷ []
one_uid first n = ap (numbers_from first) (behind n) ∙ by_count first n
  where
    behind : (n : ℕ) → n + 1 ≡ suc n
    behind n = omega arith

    at_start : (first : ℕ) → first + 0 ≡ first
    at_start first = omega arith

    along : (first n : ℕ) → first + 1 + n ≡ first + suc n
    along first n = omega arith

    by_count : (first n : ℕ) → numbers_from first (suc n) ≡ numbers_from first n ++ (first + n) ∷ []
    by_count first zero = ap (λ k. k ∷ []) (sym (at_start first))
    by_count first (suc n) = ap (λ l. first ∷ l) (by_count (first + 1) n ∙ ap (λ k. numbers_from (first + 1) n ++ k ∷ []) (along first n))

-- one more behind those that were recent
pub more_recent : (recent all grown : List ℕ) (last count was uid : ℕ) → (last + count < 2 ^ 32 → all ≡ recent ++ numbers_from (last + 1) count) → was ≡ min (last + count) 4294967295
    → uid ≡ min (was + 1) 4294967295 → grown ≡ all ++ uid ∷ [] → last + (count + 1) < 2 ^ 32 → grown ≡ recent ++ numbers_from (last + 1) (count + 1)
more_recent recent all grown last count was uid before was_is uid_is grown_is fits =
    grown_is
    ∙ ap (λ l. l ++ uid ∷ []) (before (omega (arith, fits)))
    ∙ append_assoc recent (numbers_from (last + 1) count) (uid ∷ [])
    ∙ ap (λ n. recent ++ (numbers_from (last + 1) count ++ n ∷ [])) (next last count was uid was_is uid_is fits)
    ∙ ap (λ l. recent ++ l) (sym (one_uid (last + 1) count))
  where
    next : (last count was uid : ℕ) → was ≡ min (last + count) 4294967295 → uid ≡ min (was + 1) 4294967295 → last + (count + 1) < 2 ^ 32 → uid ≡ last + 1 + count
    next last count was uid was_is uid_is fits = grind (arith, nat_tests, was_is, uid_is, fits)

-- the tests of an append behind the first
abbrev later_tests : (written_length : Mailbox → ℕ) → Driver → StoreContents → Mailbox → List NewMessage → List (List ℕ) → List (Bool × StoreFault)
later_tests written_length driver before m new words = drop 1 (append_tests written_length driver before m new words)

-- they have 32 bits where no refusal is due
pub uids_fit : (written_length : Mailbox → ℕ) (driver : Driver) (before : StoreContents) (m : Mailbox) (new : List NewMessage) (words : List (List ℕ))
    → due_refusal written_length driver before m (Append new words) ≡ None → 0 < length new → m.last + length new < 2 ^ 32
uids_fit written_length driver before m new words none some =
    by_some (length new == 0) refl
  where
    none_of : (b : Bool) (tests : List (Bool × StoreFault)) → first_due ((b, NoUid) ∷ tests) ≡ None → b ≡ false
    none_of true tests is = absurd (cc)
    none_of false tests is = refl

    fits : lacks_uids m (length new) ≡ false → m.last + length new < 2 ^ 32
    fits lacks = in_bits (m.last) (length new) some lacks
      where
        in_bits : (last count : ℕ) → 0 < count → nat_lt 0 count && nat_lt greatest_given (last + count) ≡ false → last + count < 2 ^ 32
        in_bits last count some lacks = grind (arith, nat_tests, some, lacks)

    by_some : (empty : Bool) → (length new == 0) ≡ empty → m.last + length new < 2 ^ 32
    by_some true at = absurd (grind (arith, nat_tests, at, some))
    by_some false at = fits (none_of (lacks_uids m (length new)) (later_tests written_length driver before m new words) (ap (λ b. if b && (length words == length m.words) then None else first_due (append_tests written_length driver before m new words)) (sym at) ∙ none))
