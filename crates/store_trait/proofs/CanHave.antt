-- What a change makes of a mailbox that the driver can have is one that it can have.
use Rattle.std.proofs.Common.{◌≡◌, ◌≤◌, ◌<◌, ◌+◌, ◌*◌, ◌/◌, ◌%◌, ◌^◌, ◌==◌, ℕ, zero, suc, Bool, true, false, not, ◌&&◌, ◌||◌, List, [], ◌∷◌, ◌++◌, length, map, cond, refl, sym, ◌∙◌, ap, subst, arith, None, nat_lt, nat_eq, min, append_assoc, append-nil, length-append}
use Rattle.std.specs.List.{AllByRecursion, list_any, list_all}
use Rattle.std.proofs.lemmas.Bool.{false≢true, and_parts}
use Rattle.std.proofs.lemmas.Bool.Decides.{nat_tests}
use Rattle.std.proofs.lemmas.List.Folds.{list_any-append}
use Rattle.std.proofs.lemmas.Nat.{mod_below}
use Rattle.std.proofs.lemmas.Slice.Eq.{bytes_eq-Decides}
use Rattle.std.proofs.Math.Nat.{mod-eq_of_lt, div-eq_of_lt, one-le-pow, pow-le-pow_right, mod-mod}
use Rattle.mail_fields.specs.Keyword.{IsKeyword, lower, same_keyword}
use Rattle.mail_fields.specs.Names.{are_distinct}
use Rattle.mail_types.specs.declared.contents.StoreContents.{StoreContents}
use Rattle.mail_types.specs.declared.driver.Driver.{Driver}
use Rattle.mail_types.specs.declared.driver.Driver.TheVariants.{Unix, Mmdf, Mbx, Mtx, Tenex, Mh, Mix}
use Rattle.mail_types.specs.declared.driver.Keeps.{Keeps}
use Rattle.mail_types.specs.declared.driver.Limit.TheVariants.{File, Text}
use Rattle.mail_types.specs.declared.mailbox.Mailbox.{Mailbox}
use Rattle.mail_types.specs.declared.message.FlagChange.{FlagChange}
use Rattle.mail_types.specs.declared.message.NewMessage.{NewMessage}
use Rattle.mail_types.specs.declared.message.Record.{Record}
use Rattle.mail_types.specs.Drivers.{keeps_of}
use Rattle.mail_types.specs.Keeping.{take_record, text_in_form, stamp_in_form, words_below}
use Rattle.mail_types.specs.Limits.{has_many, has_large_text, lacks_uids, lacks_numbers, is_too_long, text_limit, record_limit}
use Rattle.mail_types.specs.Lists.{cleared, named, with_uid, added_record, added_records, add_messages, changed_record, changed_records, change_flags, next_number, any_differs, with_numbers, undropped, drop_records, RiseBelow}
use Rattle.mail_types.specs.Mailboxes.{greatest_number, has_no_nul}
use Rattle.mail_types.specs.Opening.{greatest_given}
use Rattle.mail_types.proofs.ChangingFlags.{changed_count, changed_texts, with_numbers_same, with_numbers_count, with_numbers_have}
use Rattle.mail_types.proofs.Dropping.{left_count, none_left_any}
use Rattle.mail_types.proofs.Mailboxes.{added_is_mailbox, changed_is_mailbox, dropped_is_mailbox}
use Rattle.mail_types.proofs.Twice.{take_twice}
use Rattle.store_trait.specs.declared.change.Change.{Change}
use Rattle.store_trait.specs.declared.change.Change.TheVariants.{Append, SetFlags, Expunge}
use Rattle.store_trait.specs.declared.faults.StoreFault.{StoreFault}
use Rattle.store_trait.specs.declared.faults.StoreFault.TheVariants.{NoUid, TooMany, TooLarge}
use Rattle.store_trait.specs.Changes.{AddsNames, IsNextWords, CanChange, changed_mailbox, words_after, is_nothing, first_due, append_tests, due_refusal}
use Rattle.store_trait.specs.Having.{CanSpell, greatest_written}
use Rattle.store_trait.specs.OwnPaths.{is_directory_driver}

-- ---- By driver

pub few_words : (d : Driver) → (keeps_of d).words ≤ 30
few_words Unix = omega arith
few_words Mmdf = omega arith
few_words Mbx = omega arith
few_words Mtx = omega arith
few_words Tenex = omega arith
few_words Mh = omega arith
few_words Mix = omega arith

pub given_written : (d : Driver) → (greatest_given ≤ greatest_written d) × (greatest_written d ≤ greatest_number)
given_written Unix = (omega arith, omega arith)
given_written Mmdf = (omega arith, omega arith)
given_written Mbx = (omega arith, omega arith)
given_written Mtx = (omega arith, omega arith)
given_written Tenex = (omega arith, omega arith)
given_written Mh = (omega arith, omega arith)
given_written Mix = (omega arith, omega arith)

-- a driver of one file has no modification numbers
pub file_unnumbered : (d : Driver) → is_directory_driver d ≡ false → (keeps_of d).numbers ≡ false
file_unnumbered Unix kind = refl
file_unnumbered Mmdf kind = refl
file_unnumbered Mbx kind = refl
file_unnumbered Mtx kind = refl
file_unnumbered Tenex kind = refl
file_unnumbered Mh kind = refl
file_unnumbered Mix kind = absurd (false≢true (sym kind))

-- ---- Lists

all_join : {A : Type 0} (P : A → Type 0) (xs ys : List A) → AllByRecursion P xs → AllByRecursion P ys → AllByRecursion P (xs ++ ys)
all_join P [] ys one two = two
all_join P (x ∷ xs) ys one two = (one.0, all_join P xs ys one.1 two)

all_weaker : {A : Type 0} (P Q : A → Type 0) → ((x : A) → P x → Q x) → (xs : List A) → AllByRecursion P xs → AllByRecursion Q xs
all_weaker P Q on [] all = tt
all_weaker P Q on (x ∷ xs) all = (on x all.0, all_weaker P Q on xs all.1)

left_have : (P : Record → Type 0) (place : ℕ) (places : List ℕ) (rs : List Record) → AllByRecursion P rs → AllByRecursion P (undropped place places rs)
left_have P place places [] all = tt
left_have P place places (r ∷ rs) all = step (list_any (nat_eq place) places) (left_have P (place + 1) places rs all.1)
  where
    step : (b : Bool) → AllByRecursion P (undropped (place + 1) places rs) → AllByRecursion P (cond b (undropped (place + 1) places rs) (r ∷ undropped (place + 1) places rs))
    step true later = later
    step false later = (all.0, later)

one_has : (P : Record → Type 0) (names place : ℕ) → ((c : FlagChange) (r : Record) → P r → P (named names (record r { flags = c.flags; words = c.words }))) → (cs : List FlagChange) (r : Record) → P r → P (changed_record names place cs r)
one_has P names place on [] r is = is
one_has P names place on (c ∷ cs) r is = step (place == c.place) (one_has P names place on cs r is)
  where
    step : (b : Bool) → P (changed_record names place cs r) → P (cond b (named names (record r { flags = c.flags; words = c.words })) (changed_record names place cs r))
    step true later = on c r is
    step false later = later

changed_have : (P : Record → Type 0) (names place : ℕ) → ((c : FlagChange) (r : Record) → P r → P (named names (record r { flags = c.flags; words = c.words }))) → (cs : List FlagChange) (rs : List Record) → AllByRecursion P rs → AllByRecursion P (changed_records names place cs rs)
changed_have P names place on cs [] all = tt
changed_have P names place on cs (r ∷ rs) all = (one_has P names place on cs r all.0, changed_have P names (place + 1) on cs rs all.1)

added_have : (P : Record → Type 0) (keeps : Keeps) (names number next : ℕ) → ((uid : ℕ) (new : NewMessage) → P (added_record keeps names number uid new)) → (new : List NewMessage) → AllByRecursion P (added_records keeps names number next new)
added_have P keeps names number next on [] = tt
added_have P keeps names number next on (x ∷ new) = (on next x, added_have P keeps names number (next + 1) on new)

any_of_texts : (test : List ℕ → Bool) (rs : List Record) → list_any (λ r. test r.text) rs ≡ list_any test (map (λ r. r.text) rs)
any_of_texts test [] = refl
any_of_texts test (r ∷ rs) = ap (λ b. test r.text || b) (any_of_texts test rs)

-- ---- Keyword numbers

abbrev IsNamed : ℕ → Record → Type 0
IsNamed names r = named names r ≡ r

words_small : (names words : ℕ) → words % 2 ^ names ≡ words → words < 2 ^ names
words_small names words is = subst (λ n. n < 2 ^ names) is (mod_below words (2 ^ names) (one-le-pow names 2 (omega arith)))

more_room : (one other : ℕ) → one ≤ other → 2 ^ one ≤ 2 ^ other
more_room one other order = pow-le-pow_right (omega arith) order

named_more : (names more : ℕ) → names ≤ more → (r : Record) → IsNamed names r → IsNamed more r
named_more names more order r is =
    let small = words_small names r.words (ap (λ q. q.words) is) in
    let stays : r.words % 2 ^ more ≡ r.words = mod-eq_of_lt (omega (arith, small, more_room names more order)) in
    λ k. record r { words = stays k }

-- no number without a name stands there to be cleared
cleared_none : (old new : ℕ) → old ≤ new → (r : Record) → IsNamed old r → cleared old new r ≡ r
cleared_none old new order r is =
    let same : r.words % 2 ^ old ≡ r.words = ap (λ q. q.words) is in
    let small = words_small old r.words same in
    let none : r.words / 2 ^ new ≡ 0 = div-eq_of_lt (omega (arith, small, more_room old new order)) in
    let stays : r.words % 2 ^ old + 2 ^ new * (r.words / 2 ^ new) ≡ r.words = ap (λ q. r.words % 2 ^ old + 2 ^ new * q) none ∙ omega (arith, same) in
    λ k. record r { words = stays k }

all_cleared : (old new : ℕ) → old ≤ new → (rs : List Record) → AllByRecursion (IsNamed old) rs → map (cleared old new) rs ≡ rs
all_cleared old new order [] all = refl
all_cleared old new order (r ∷ rs) all = λ k. cleared_none old new order r all.0 k ∷ all_cleared old new order rs all.1 k

named_twice : (names : ℕ) (r : Record) → IsNamed names (named names r)
named_twice names r = λ k. record r { words = mod-mod r.words (2 ^ names) k }

-- ---- The driver's form

abbrev InForm : Keeps → Record → Type 0
InForm keeps r = take_record keeps r ≡ r

named_in_form : (keeps : Keeps) (names : ℕ) → names ≤ keeps.words → (r : Record) → text_in_form keeps.text r.text ≡ r.text → stamp_in_form keeps.date r.stamp ≡ r.stamp → cond keeps.numbers r.number 0 ≡ r.number → InForm keeps (named names r)
named_in_form keeps names room r text stamp number =
    let small = mod_below r.words (2 ^ names) (one-le-pow names 2 (omega arith)) in
    let words : words_below keeps.words (words_below names r.words) ≡ words_below names r.words = mod-eq_of_lt (omega (arith, small, more_room names keeps.words room)) in
    λ k. record { uid = r.uid; text = text k; stamp = stamp k; flags = r.flags; words = words k; number = number k }

added_in_form : (keeps : Keeps) (names : ℕ) → names ≤ keeps.words → (number uid : ℕ) (new : NewMessage) → InForm keeps (added_record keeps names number uid new)
added_in_form keeps names room number uid new =
    let twice = take_twice keeps (with_uid uid number new) in
    named_in_form keeps names room (take_record keeps (with_uid uid number new)) (ap (λ q. q.text) twice) (ap (λ q. q.stamp) twice) (ap (λ q. q.number) twice)

-- ---- Names

turned : (one other : List ℕ) → same_keyword one other ≡ false → same_keyword other one ≡ false
turned one other is = step (same_keyword other one) refl
  where
    step : (b : Bool) → same_keyword other one ≡ b → same_keyword other one ≡ false
    step false here = here
    step true here =
        let same = (bytes_eq-Decides (map lower other) (map lower one)).0 here in
        absurd (false≢true (sym is ∙ (bytes_eq-Decides (map lower one) (map lower other)).1 (sym same)))

or_parts : (a b : Bool) → (a || b) ≡ false → (a ≡ false) × (b ≡ false)
or_parts true b is = absurd (false≢true (sym is))
or_parts false b is = (refl, is)

distinct_more : (names : List (List ℕ)) (name : List ℕ) → are_distinct names ≡ true → list_any (same_keyword name) names ≡ false → are_distinct (names ++ name ∷ []) ≡ true
distinct_more [] name distinct new = refl
distinct_more (x ∷ names) name distinct new =
    let parts = and_parts (not (list_any (same_keyword x) names)) (are_distinct names) distinct in
    let fresh = or_parts (same_keyword name x) (list_any (same_keyword name) names) new in
    let last : not (list_any (same_keyword x) names || (same_keyword x name || false)) ≡ true =
    ap (λ b. not (list_any (same_keyword x) names || (b || false))) (turned name x fresh.0) ∙ same_or (list_any (same_keyword x) names) ∙ parts.0 in
    ap (λ b. not b && are_distinct (names ++ name ∷ [])) (list_any-append (same_keyword x) names (name ∷ []))
    ∙ ap (λ b. b && are_distinct (names ++ name ∷ [])) last ∙ distinct_more names name parts.1 fresh.1
  where
    same_or : (a : Bool) → not (a || (false || false)) ≡ not a
    same_or true = refl
    same_or false = refl

adds_distinct : (names more : List (List ℕ)) → are_distinct names ≡ true → AddsNames names more → are_distinct (names ++ more) ≡ true
adds_distinct names [] distinct adds = ap are_distinct (append-nil names) ∙ distinct
adds_distinct names (name ∷ rest) distinct adds =
    ap are_distinct (sym (append_assoc names (name ∷ []) rest)) ∙ adds_distinct (names ++ name ∷ []) rest (distinct_more names name distinct adds.0) adds.1

next_distinct : (keeps : Keeps) (old new : List (List ℕ)) → are_distinct old ≡ true → IsNextWords keeps old new → are_distinct new ≡ true
next_distinct keeps old new distinct next = ap are_distinct next.begins ∙ adds_distinct old next.more distinct next.adds

next_longer : (keeps : Keeps) (old new : List (List ℕ)) → IsNextWords keeps old new → length old ≤ length new
next_longer keeps old new next = omega (arith, ap length next.begins, length-append old next.more)

-- ---- The changes

last_after : (last count bound : ℕ) → greatest_given ≤ bound → last ≤ bound → (nat_lt 0 count && nat_lt greatest_given (last + count)) ≡ false → last + count ≤ bound
last_after last zero bound given fits none = omega (arith, fits)
last_after last (suc count) bound given fits none = grind (arith, nat_tests)

not_due : (a b c : Bool) (x y z : StoreFault) (rest : List (Bool × StoreFault)) → first_due ((a, x) ∷ (b, y) ∷ (c, z) ∷ rest) ≡ None → (a ≡ false) × (b ≡ false) × (c ≡ false)
not_due true b c x y z rest none = absurd (cc)
not_due false true c x y z rest none = absurd (cc)
not_due false false true x y z rest none = absurd (cc)
not_due false false false x y z rest none = (refl, refl, refl)

module _ (d : Driver) (m : Mailbox) (is : CanSpell d m) where
  abbrev keeps : Keeps
  keeps = keeps_of d

  dropped : (places : List ℕ) → RiseBelow 0 (length m.records) places → CanSpell d (drop_records m places)
  dropped places rise = record {
    mailbox = dropped_is_mailbox m places is.mailbox;
    names = is.names;
    few = is.few;
    many = let left = left_count 0 (length m.records) places m.records rise (omega arith) in let few : nat_lt record_limit (length m.records) ≡ false = is.many in grind (arith, nat_tests, left, few);
    large = none_left_any (λ r. nat_lt text_limit (length r.text)) 0 places m.records is.large;
    in_form = left_have (InForm keeps) 0 places m.records is.in_form;
    named = left_have (IsNamed (length m.words)) 0 places m.records is.named;
    last = is.last;
    unnumbered = is.unnumbered;
  }

  -- the next modification number is one of the driver
  next_unnumbered : (keeps_of d).numbers ≡ false → next_number keeps m.number ≡ 0
  next_unnumbered none = ap (λ b. cond b (min (m.number + 1) greatest_number) m.number) none ∙ is.unnumbered none

  next_in_form : cond (keeps_of d).numbers (next_number keeps m.number) 0 ≡ next_number keeps m.number
  next_in_form = step (keeps_of d).numbers refl
    where
      step : (b : Bool) → (keeps_of d).numbers ≡ b → cond b (next_number keeps m.number) 0 ≡ next_number keeps m.number
      step true have = refl
      step false none = sym (next_unnumbered none)

  -- so is the number after a change
  after_unnumbered : (b : Bool) → (keeps_of d).numbers ≡ false → cond b (next_number keeps m.number) m.number ≡ 0
  after_unnumbered true none = next_unnumbered none
  after_unnumbered false none = is.unnumbered none

  module _ (words : List (List ℕ)) (next : IsNextWords (keeps_of d) m.words words) (names : AllByRecursion IsKeyword words) where
    abbrev old : List Record
    old = map (cleared (length m.words) (length words)) m.records

    longer : length m.words ≤ length words
    longer = next_longer (keeps_of d) m.words words next

    olds : old ≡ m.records
    olds = all_cleared (length m.words) (length words) longer m.records is.named

    still_named : AllByRecursion (IsNamed (length words)) m.records
    still_named = all_weaker (IsNamed (length m.words)) (IsNamed (length words)) (named_more (length m.words) (length words) longer) m.records is.named

    flagged : (changes : List FlagChange) → CanSpell d (change_flags keeps m changes words)
    flagged changes = let after = changed_records (length words) 0 changes old in let number = next_number keeps m.number in record {
      mailbox = changed_is_mailbox keeps m changes words is.mailbox (omega (arith, next.few, few_words d)) (next_distinct (keeps_of d) m.words words is.mailbox.distinct next);
      names = names;
      few = next.few;
      many = ap (λ n. nat_lt record_limit n) (with_numbers_count number old after ∙ changed_count (length words) 0 changes old ∙ ap length olds) ∙ is.many;
      large = any_of_texts (λ t. nat_lt text_limit (length t)) (with_numbers number old after)
          ∙ ap (list_any (λ t. nat_lt text_limit (length t))) (with_numbers_same (λ r. r.text) (λ n r. refl) number old after ∙ changed_texts (length words) 0 changes old ∙ ap (map (λ r. r.text)) olds)
          ∙ sym (any_of_texts (λ t. nat_lt text_limit (length t)) m.records) ∙ is.large;
      in_form = with_numbers_have (InForm keeps) number (λ r form k. record (form k) { number = next_in_form k }) old after
          (changed_have (InForm keeps) (length words) 0
          (λ c r form. named_in_form keeps (length words) next.few (record r { flags = c.flags; words = c.words }) (ap (λ q. q.text) form) (ap (λ q. q.stamp) form) (ap (λ q. q.number) form))
          changes old (subst (AllByRecursion (InForm keeps)) (sym olds) is.in_form));
      named = with_numbers_have (IsNamed (length words)) number (λ r have k. record (have k) { number = number }) old after
          (changed_have (IsNamed (length words)) (length words) 0 (λ c r have. named_twice (length words) (record r { flags = c.flags; words = c.words }))
          changes old (subst (AllByRecursion (IsNamed (length words))) (sym olds) still_named));
      last = is.last;
      unnumbered = after_unnumbered (any_differs old after);
    }

    added : (new : List NewMessage) → list_all (λ (x : NewMessage). has_no_nul x.text) new ≡ true → lacks_uids m (length new) ≡ false
        → has_many (add_messages keeps m new words).records ≡ false → has_large_text (added_records keeps (length words) (next_number keeps m.number) (m.last + 1) new) ≡ false → CanSpell d (add_messages keeps m new words)
    added new clean uids many large =
        let bounds = given_written d in
        let fits : m.last + length new ≤ greatest_written d = last_after m.last (length new) (greatest_written d) bounds.0 is.last uids in
        let more = added_records keeps (length words) (next_number keeps m.number) (m.last + 1) new in
        record {
          mailbox = added_is_mailbox keeps m new words is.mailbox (omega (arith, next.few, few_words d)) (next_distinct (keeps_of d) m.words words is.mailbox.distinct next) clean (omega (arith, fits, bounds.1));
          names = names;
          few = next.few;
          many = many;
          large = list_any-append (λ r. nat_lt text_limit (length r.text)) old more ∙ ap (λ b. b || has_large_text more) (ap has_large_text olds ∙ is.large) ∙ large;
          in_form = all_join (InForm keeps) old more (subst (AllByRecursion (InForm keeps)) (sym olds) is.in_form)
              (added_have (InForm keeps) keeps (length words) (next_number keeps m.number) (m.last + 1) (added_in_form keeps (length words) next.few (next_number keeps m.number)) new);
          named = all_join (IsNamed (length words)) old more (subst (AllByRecursion (IsNamed (length words))) (sym olds) still_named)
              (added_have (IsNamed (length words)) keeps (length words) (next_number keeps m.number) (m.last + 1) (λ uid x. named_twice (length words) (take_record keeps (with_uid uid (next_number keeps m.number) x))) new);
          last = fits;
          unnumbered = after_unnumbered (nat_lt 0 (length new));
        }

pub can_spell_changed : (written_length : Mailbox → ℕ) (d : Driver) (before : StoreContents) (m : Mailbox) (change : Change) → CanSpell d m → CanChange (keeps_of d) m.words (length m.records) change
    → is_nothing m.words change ≡ false → due_refusal written_length d before m change ≡ None → AllByRecursion IsKeyword (words_after m.words change) → CanSpell d (changed_mailbox (keeps_of d) m change)
can_spell_changed written_length d before m (Append new words) is can some none names =
    let due : first_due (append_tests written_length d before m new words) ≡ None = sym (ap (λ b. cond b None (first_due (append_tests written_length d before m new words))) some) ∙ none in
    let next = add_messages (keeps_of d) m new words in
    let tests = not_due (lacks_uids m (length new)) (has_many next.records || lacks_numbers before.placing (length new)) (has_large_text (added_records (keeps_of d) (length words) (next_number (keeps_of d) m.number) (m.last + 1) new)) NoUid TooMany (TooLarge Text)
    ((is_too_long written_length d next new, TooLarge File) ∷ []) due in
    added d m is words can.0 names new can.1 tests.0 (or_parts (has_many next.records) (lacks_numbers before.placing (length new)) tests.1).0 tests.2
can_spell_changed written_length d before m (SetFlags changes words) is can some none names = flagged d m is words can.0 names changes
can_spell_changed written_length d before m (Expunge places) is can some none names = dropped d m is places can
