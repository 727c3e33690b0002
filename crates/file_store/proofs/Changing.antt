-- What a change of a store of one file promises, whichever change it is.
use Rattle.std.proofs.Common.{◌≡◌, ◌⊎◌, ℕ, ◌+◌, ◌≤◌, ◌&&◌, ◌||◌, Bool, true, false, nat_lt, min, cond, inl, inr, List, [], ◌∷◌, length, Option, Some, None, unwrap_or, Result, Ok, Err, OnOk, IsErr, IsSome, refl, sym, ap, ◌∙◌, subst, arith}
use Rattle.std.proofs.lemmas.Bool.{false≢true}
use Rattle.std.proofs.lemmas.Bool.Decides.{nat_tests}
use Rattle.std.proofs.lemmas.Option.{same_Some, none-some}
use Rattle.std.specs.List.{AllByRecursion}
use Rattle.file_model.specs.Disk.{Disk, seen}
use Rattle.file_model.specs.Histories.{World, History, Now, Ended}
use Rattle.file_model.specs.Images.{Image, bytes_of, bytes_at, is_directory}
use Rattle.file_model.specs.Paths.{is_top, parent}
use Rattle.file_model.specs.Kept.{IsSound}
use Rattle.file_model.proofs.Runs.{now_weaker}
use Rattle.mail_fields.specs.Keyword.{IsKeyword}
use Rattle.mail_types.specs.declared.contents.Placing.TheVariants.{InPlace}
use Rattle.mail_types.specs.declared.contents.StoreContents.{StoreContents}
use Rattle.mail_types.specs.declared.driver.Driver.{Driver}
use Rattle.mail_types.specs.declared.driver.Driver.TheVariants.{Unix, Mmdf, Mbx, Mtx, Tenex, Mh, Mix}
use Rattle.mail_types.specs.declared.driver.Limit.TheVariants.{File, Text}
use Rattle.mail_types.specs.declared.mailbox.Mailbox.{Mailbox}
use Rattle.mail_types.specs.declared.message.NewMessage.{NewMessage}
use Rattle.mail_types.specs.Drivers.{keeps_of}
use Rattle.mail_types.specs.Limits.{file_limit, record_limit, has_large_text, lacks_numbers, file_length, given_length}
use Rattle.mail_types.specs.Lists.{added_records, add_messages, next_number}
use Rattle.mail_types.specs.Mailboxes.{greatest_number}
use Rattle.mail_types.specs.Opening.{greatest_given}
use Rattle.mail_types.specs.Stored.{stored_contents}
use Rattle.mail_types.proofs.Adding.{added_all}
use Rattle.store_trait.specs.declared.change.Change.{Change}
use Rattle.store_trait.specs.declared.change.Change.TheVariants.{Append, SetFlags, Expunge}
use Rattle.store_trait.specs.declared.faults.StoreFault.{StoreFault}
use Rattle.store_trait.specs.declared.faults.StoreFault.TheVariants.{NoUid, TooMany, TooLarge}
use Rattle.store_trait.specs.Answers.{Answers, Breaks, breaks}
use Rattle.store_trait.specs.Changes.{CanChange, IsSized, changed_mailbox, is_nothing, words_after, due_refusal, first_due, outgrows}
use Rattle.store_trait.specs.Forms.{grammar_of}
use Rattle.store_trait.specs.Having.{CanSpell, IsBacked}
use Rattle.store_trait.specs.Laws.{ComesBy, may_outgrow}
use Rattle.store_trait.specs.Meaning.{IsWritten, IsReadable}
use Rattle.store_trait.specs.OwnPaths.{is_content_name, is_directory_driver}
use Rattle.store_trait.specs.Promises.{AnswersChange, ChangesStore, Rewrites, Stores}
use Rattle.store_trait.specs.Views.{View}
use Rattle.store_index.specs.States.{ToldState, told_as}
use Rattle.store_trait.proofs.Anew.{in_place}
use Rattle.store_trait.proofs.Backed.{backed_stored}
use Rattle.store_trait.proofs.CanHave.{can_spell_changed, file_unnumbered}
use Rattle.store_trait.proofs.Rewriting.{as_spelled, is_file_form, length_is, stores_rewritten}
use Rattle.store_index.specs.Fronts.{FrontState}
use Rattle.store_index.specs.Steps.{told_due}
use Rattle.store_index.specs.Told.{records_at, mailbox_at, changed_summary, changed_texts}
use Rattle.store_index.proofs.ToldChanges.{changed_at}
use Rattle.file_store.specs.Forms.{ReadForm, IsReadForm, IsShortFile, is_long_append, forms_of, texts_of}
use Rattle.file_store.specs.Laws.{told_count, stands_for}
use Rattle.file_store.specs.Standing.{IsSizedBy, IsTold, StandsOn, Fits, IsRefused, IsTurned, file_view, mailbox_in, changed_in, changed_length}
use Rattle.file_store.proofs.OneFile.{part_file}
use Rattle.file_store.proofs.Sizing.{sized_after, texts_count, texts_at, stored_texts}
use Rattle.file_store.proofs.Writing.{room_now, end_now}

-- ---- Runs

-- what holds at a run's start, and then between its ends
from_start : (R S : Disk → Disk → Type 0) (P : Disk → Type 0) → ((a b : Disk) → P a → R a b → S a b) → (old new : History) → Now old (λ w. P w.disk) → Ended R old new → Ended S old new
from_start R S P on [] new now ended = ended
from_start R S P on (a ∷ past) [] now ended = absurd ended
from_start R S P on (a ∷ past) (b ∷ more) now ended = on a.disk b.disk now ended

always : (P : World → Type 0) → ((w : World) → P w) → (h : History) → Now h P
always P all [] = tt
always P all (w ∷ past) = all w

breaking : (fault : StoreFault) → breaks fault ≡ true → breaks fault ≡ false → ⊥
breaking fault broke whole = absurd (cc)

-- ---- By driver

-- a driver that can't let its file outgrow doesn't
no_outgrowth : (length_of : Mailbox → ℕ) (driver : Driver) (m : Mailbox) → may_outgrow driver ≡ false → outgrows length_of driver m ≡ false
no_outgrowth length_of Unix m none = absurd (cc)
no_outgrowth length_of Mmdf m none = absurd (cc)
no_outgrowth length_of Mbx m none = refl
no_outgrowth length_of Mtx m none = refl
no_outgrowth length_of Tenex m none = refl
no_outgrowth length_of Mh m none = refl
no_outgrowth length_of Mix m none = refl

pub readable : (driver : Driver) → is_directory_driver driver ≡ false → (path bytes : List ℕ) (image : Image) → bytes_at image path ≡ Some bytes → length bytes ≤ file_limit → IsReadable driver path image
readable driver of_file path bytes image has small = record {
  stands = λ none. none-some bytes (sym (ap bytes_of none) ∙ has);
  short = λ large.
      let at : large.0 ≡ path = part_file driver of_file is_content_name path large.0 large.1 in
      let same : bytes ≡ large.2.0 = same_Some _ _ (sym has ∙ ap (bytes_at image) (sym at) ∙ large.2.1) in
      absurd (omega (arith, small, ap length same, large.2.2));
}

module _ (driver : Driver) (form : ReadForm) (is_form : IsReadForm driver form) (of_file : is_directory_driver driver ≡ false) where
  -- the length of what is written of a mailbox
  abbrev pub long : Mailbox → ℕ
  long m = length (form.file.written m)

  -- what a file says is in place
  placed : (bytes : List ℕ) (before : StoreContents) (n : ℕ) → form.file.spells bytes before n → before.placing ≡ InPlace
  placed bytes before n spells = in_place driver of_file before (is_form.law.reads.found bytes before n spells).placed

  -- ---- The tests of an append, by what is told

  -- the tests of an append, the last in two halves
  first_none : (a b c d e : Bool) (x y z u : StoreFault) → first_due ((a, x) ∷ (b, y) ∷ (c, z) ∷ (d, u) ∷ []) ≡ None → e ≡ false → first_due ((a, x) ∷ (b, y) ∷ (c, z) ∷ (d || e, u) ∷ []) ≡ None
  first_none true b c d e x y z u is rest = absurd (cc)
  first_none false true c d e x y z u is rest = absurd (cc)
  first_none false false true d e x y z u is rest = absurd (cc)
  first_none false false false true e x y z u is rest = absurd (cc)
  first_none false false false false e x y z u is rest = rw (rest) refl

  first_last : (a b c d e : Bool) (x y z u : StoreFault) → first_due ((a, x) ∷ (b, y) ∷ (c, z) ∷ (d, u) ∷ []) ≡ None → e ≡ true → first_due ((a, x) ∷ (b, y) ∷ (c, z) ∷ (d || e, u) ∷ []) ≡ Some u
  first_last true b c d e x y z u is rest = absurd (cc)
  first_last false true c d e x y z u is rest = absurd (cc)
  first_last false false true d e x y z u is rest = absurd (cc)
  first_last false false false true e x y z u is rest = absurd (cc)
  first_last false false false false e x y z u is rest = rw (rest) refl

  first_some : (a b c d e : Bool) (x y z u f : StoreFault) → first_due ((a, x) ∷ (b, y) ∷ (c, z) ∷ (d, u) ∷ []) ≡ Some f → first_due ((a, x) ∷ (b, y) ∷ (c, z) ∷ (d || e, u) ∷ []) ≡ Some f
  first_some true b c d e x y z u f is = is
  first_some false true c d e x y z u f is = is
  first_some false false true d e x y z u f is = is
  first_some false false false true e x y z u f is = is
  first_some false false false false e x y z u f is = absurd (cc)

  module _ (s : ToldState) (bytes : List ℕ) (is : IsTold driver form s bytes) (before : StoreContents) (at : before.placing ≡ InPlace) where
    box : Mailbox
    box = mailbox_in form s bytes

    -- the tests of the interface, by what is told and the length of the file
    due_is : (new : List NewMessage) (words : List (List ℕ)) → is_nothing s.words (Append new words) ≡ false → due_refusal (λ m. length (form.file.written m)) driver before (mailbox_in form s bytes) (Append new words)
        ≡ first_due ((nat_lt 0 (length new) && nat_lt greatest_given (s.last + length new), NoUid)
        ∷ (nat_lt record_limit (length s.infos + length new), TooMany)
        ∷ (has_large_text (added_records (keeps_of driver) (length words) 0 (s.last + 1) new), TooLarge Text)
        ∷ (nat_lt file_limit (given_length new) || nat_lt file_limit (length (form.file.written (changed_in driver form s bytes (Append new words)))), TooLarge File) ∷ [])
    due_is new words some =
        let m = mailbox_in form s bytes in
        let keeps = keeps_of driver in
        let next = add_messages keeps m new words in
        let long = file_length (λ l. length (form.file.written l)) driver next new in
        let a = nat_lt 0 (length new) && nat_lt greatest_given (s.last + length new) in
        let c = has_large_text (added_records keeps (length words) 0 (s.last + 1) new) in
        let g = nat_lt file_limit (given_length new) in
        let full : length next.records ≡ length s.infos + length new = added_all keeps m new words ∙ ap (λ n. n + length new) (told_count s (form.texts bytes) is.sized) in
        let first : ℕ → Option StoreFault = λ number. first_due ((a, NoUid) ∷ (nat_lt record_limit (length next.records) || lacks_numbers before.placing (length new), TooMany)
        ∷ (has_large_text (added_records keeps (length words) number (s.last + 1) new), TooLarge Text) ∷ (g || nat_lt file_limit long, TooLarge File) ∷ []) in
        ap (λ b. cond b None (first (next_number keeps 0))) some
        ∙ ap (λ b. first (cond b (min (0 + 1) greatest_number) 0)) (file_unnumbered driver of_file)
        ∙ ap (λ p. first_due ((a, NoUid) ∷ (nat_lt record_limit (length next.records) || lacks_numbers p (length new), TooMany) ∷ (c, TooLarge Text) ∷ (g || nat_lt file_limit long, TooLarge File) ∷ [])) at
        ∙ ap (λ b. first_due ((a, NoUid) ∷ (b, TooMany) ∷ (c, TooLarge Text) ∷ (g || nat_lt file_limit long, TooLarge File) ∷ [])) (or_no (nat_lt record_limit (length next.records)))
        ∙ ap (λ n. first_due ((a, NoUid) ∷ (nat_lt record_limit n, TooMany) ∷ (c, TooLarge Text) ∷ (g || nat_lt file_limit long, TooLarge File) ∷ [])) full
        ∙ ap (λ n. first_due ((a, NoUid) ∷ (nat_lt record_limit (length s.infos + length new), TooMany) ∷ (c, TooLarge Text) ∷ (g || nat_lt file_limit n, TooLarge File) ∷ [])) (length_is (λ l. length (form.file.written l)) driver of_file next new)
      where
        or_no : (b : Bool) → (b || false) ≡ b
        or_no true = refl
        or_no false = refl

    due_none : (change : Change) → is_nothing s.words change ≡ false → told_due (keeps_of driver) s change ≡ None → is_long_append change (length (form.file.written (changed_in driver form s bytes change))) ≡ false
        → due_refusal (λ m. length (form.file.written m)) driver before (mailbox_in form s bytes) change ≡ None
    due_none (Append new words) some none room =
        due_is new words some
        ∙ first_none (nat_lt 0 (length new) && nat_lt greatest_given (s.last + length new)) (nat_lt record_limit (length s.infos + length new)) (has_large_text (added_records (keeps_of driver) (length words) 0 (s.last + 1) new))
        (nat_lt file_limit (given_length new)) (nat_lt file_limit (length (form.file.written (changed_in driver form s bytes (Append new words))))) NoUid TooMany (TooLarge Text) (TooLarge File) none room
    due_none (SetFlags changes words) some none room = refl
    due_none (Expunge places) some none room = refl

    due_long : (change : Change) → is_nothing s.words change ≡ false → told_due (keeps_of driver) s change ≡ None → is_long_append change (length (form.file.written (changed_in driver form s bytes change))) ≡ true
        → due_refusal (λ m. length (form.file.written m)) driver before (mailbox_in form s bytes) change ≡ Some (TooLarge File)
    due_long (Append new words) some none room =
        due_is new words some
        ∙ first_last (nat_lt 0 (length new) && nat_lt greatest_given (s.last + length new)) (nat_lt record_limit (length s.infos + length new)) (has_large_text (added_records (keeps_of driver) (length words) 0 (s.last + 1) new))
        (nat_lt file_limit (given_length new)) (nat_lt file_limit (length (form.file.written (changed_in driver form s bytes (Append new words))))) NoUid TooMany (TooLarge Text) (TooLarge File) none room
    due_long (SetFlags changes words) some none room = absurd (cc)
    due_long (Expunge places) some none room = absurd (cc)

    due_some : (change : Change) (fault : StoreFault) → is_nothing s.words change ≡ false → told_due (keeps_of driver) s change ≡ Some fault
        → due_refusal (λ m. length (form.file.written m)) driver before (mailbox_in form s bytes) change ≡ Some fault
    due_some (Append new words) fault some due =
        due_is new words some
        ∙ first_some (nat_lt 0 (length new) && nat_lt greatest_given (s.last + length new)) (nat_lt record_limit (length s.infos + length new)) (has_large_text (added_records (keeps_of driver) (length words) 0 (s.last + 1) new))
        (nat_lt file_limit (given_length new)) (nat_lt file_limit (length (form.file.written (changed_in driver form s bytes (Append new words))))) NoUid TooMany (TooLarge Text) (TooLarge File) fault due
    due_some (SetFlags changes words) fault some due = absurd (cc)
    due_some (Expunge places) fault some due = absurd (cc)

  -- ---- What is told after a change

  module _ (s : ToldState) (change : Change) (can : CanChange (keeps_of driver) s.words (length s.infos) change) (some : is_nothing s.words change ≡ false)
      (names : AllByRecursion IsKeyword (words_after s.words change)) (none : told_due (keeps_of driver) s change ≡ None) (bytes : List ℕ) (is : IsTold driver form s bytes)
      (room : is_long_append change (changed_length driver form s bytes change) ≡ false) where
    abbrev pub prior : Mailbox
    prior = mailbox_in form s bytes

    abbrev pub next : Mailbox
    next = changed_in driver form s bytes change

    abbrev pub after : List ℕ
    after = form.file.rewritten bytes prior change

    count : length (records_at s.infos (form.texts bytes)) ≡ length s.infos
    count = told_count s (form.texts bytes) is.sized

    -- the change that is done, whatever the file is found to say
    pub comes_told : (before : StoreContents) (n : ℕ) → form.file.spells bytes before n → ComesBy (λ m. length (form.file.written m)) driver before (mailbox_in form s bytes) change
    comes_told before n spells =
        let here : CanChange (keeps_of driver) s.words (length (records_at s.infos (form.texts bytes))) change = subst (λ n. CanChange (keeps_of driver) s.words n change) (sym count) can in
        let due = due_none s bytes is before (placed bytes before n spells) change some none room in
        record {
          can = here;
          some = some;
          due = due;
          was = is.can;
          is = can_spell_changed (λ m. length (form.file.written m)) driver before prior change is.can here some due names;
          backed = subst (λ c. IsBacked driver c (mailbox_in form s bytes)) (is_form.law.reads.one_reading bytes is.contents before is.records n is.spelled spells).0 is.backed;
        }

    comes : ComesBy (λ m. length (form.file.written m)) driver is.contents (mailbox_in form s bytes) change
    comes = comes_told is.contents is.records is.spelled

    spelled : (n : ℕ) × form.file.spells after (stored_contents driver is.contents prior next) n
    spelled = is_form.law.goes_on bytes is.contents is.records prior change is.spelled comes

    told_next : next ≡ mailbox_at (changed_summary (keeps_of driver) s change) (changed_texts (keeps_of driver) (form.texts bytes) change)
    told_next = changed_at (keeps_of driver) (file_unnumbered driver of_file) s (form.texts bytes) change (texts_count s.infos (form.texts bytes) is.sized)

    sized : IsSizedBy (changed_summary (keeps_of driver) s change).infos (changed_texts (keeps_of driver) (form.texts bytes) change)
    sized = sized_after (keeps_of driver) s (form.texts bytes) change is.sized

    texts_are : form.texts after ≡ changed_texts (keeps_of driver) (form.texts bytes) change
    texts_are =
        is_form.texts after (stored_contents driver is.contents prior next) spelled.0 spelled.1
        ∙ stored_texts (keeps_of driver) next.records comes.is.in_form
        ∙ ap (λ (m : Mailbox). texts_of m.records) told_next
        ∙ texts_at (changed_summary (keeps_of driver) s change).infos (changed_texts (keeps_of driver) (form.texts bytes) change)
        (texts_count (changed_summary (keeps_of driver) s change).infos (changed_texts (keeps_of driver) (form.texts bytes) change) sized)

    -- the mailbox that is told afterwards, with the texts of the rewritten file, is the changed one
    pub same_next : next ≡ mailbox_in form (changed_summary (keeps_of driver) s change) after
    same_next = told_next ∙ ap (mailbox_at (changed_summary (keeps_of driver) s change)) (sym texts_are)

    short : IsShortFile driver after
    short never =
        let within : nat_lt file_limit (length after) ≡ false = is_form.law.fits bytes is.contents is.records prior change is.spelled comes is.short ∙ no_outgrowth (λ m. length (form.file.written m)) driver next never in
        grind (arith, nat_tests, within)

    pub told_after : IsTold driver form (changed_summary (keeps_of driver) s change) after
    told_after = record {
      contents = stored_contents driver is.contents prior next;
      records = spelled.0;
      spelled = spelled.1;
      sized = subst (IsSizedBy (changed_summary (keeps_of driver) s change).infos) (sym texts_are) sized;
      backed = subst (IsBacked driver (stored_contents driver is.contents prior next)) same_next (backed_stored driver is.contents prior next comes.is);
      can = subst (CanSpell driver) same_next comes.is;
      short = short;
    }

  -- ---- A change

  module _ (s t : FrontState) (held now : List ℕ → Type 0) (change : Change) (some : is_nothing s.told.words change ≡ false)
      (can : CanChange (keeps_of driver) s.told.words (length s.told.infos) change) (names : AllByRecursion IsKeyword (words_after s.told.words change))
      (none : told_due (keeps_of driver) s.told change ≡ None) (fits : Fits driver form held s.told change)
      (path : t.path ≡ s.path) where
    abbrev pub was : View
    was = file_view driver form held s

    abbrev pub view : View
    view = file_view driver form now t

    module _ (told : t.told ≡ changed_summary (keeps_of driver) s.told change) (start end : Disk) (stands : StandsOn driver form held s.path s.told (seen start))
        (turned : IsTurned form s.path s.told change now start end) where
      abbrev pub after_bytes : List ℕ
      after_bytes = form.file.rewritten stands.bytes (mailbox_in form s.told stands.bytes) change

      room : is_long_append change (changed_length driver form s.told stands.bytes change) ≡ false
      room = fits stands.bytes stands.places stands.is

      has : bytes_at (seen end) s.path ≡ Some after_bytes
      has = (turned stands.bytes stands.has).0

      was_for : was.mailbox (seen start) ≡ mailbox_in form s.told stands.bytes
      was_for = stands_for driver form held s (seen start) stands.bytes stands.has

      stands_after : StandsOn driver form now t.path t.told (seen end)
      stands_after =
          subst (λ p. StandsOn driver form now p t.told (seen end)) (sym path)
          (subst (λ u. StandsOn driver form now s.path u (seen end)) (sym told)
          (record { bytes = after_bytes; has = has; places = (turned stands.bytes stands.has).1; is = told_after s.told change can some names none stands.bytes stands.is room }))

      done : view.mailbox (seen end) ≡ changed_mailbox (keeps_of driver) (was.mailbox (seen start)) change
      done =
          ap (λ p. mailbox_in form t.told (unwrap_or (bytes_at (seen end) p) [])) path
          ∙ ap (λ o. mailbox_in form t.told (unwrap_or o [])) has
          ∙ ap (λ u. mailbox_in form u after_bytes) told
          ∙ sym (same_next s.told change can some names none stands.bytes stands.is room)
          ∙ ap (λ m. changed_mailbox (keeps_of driver) m change) (sym was_for)

      rewrites : Rewrites (forms_of driver form) was change (seen start) (seen end)
      rewrites something bytes at kind = (turned bytes at).0 ∙ ap (λ m. Some (form.file.rewritten bytes m change)) (sym (stands_for driver form held s (seen start) bytes at))

      comes_on : (before : StoreContents) → IsWritten (grammar_of (forms_of driver form) driver s.path) (seen start) before → ComesBy (λ m. length (form.file.written m)) driver before (was.mailbox (seen start)) change
      comes_on before written =
          let found = as_spelled (forms_of driver form) driver of_file s.path (seen start) before written.0 written.1 in
          let same : found.bytes ≡ stands.bytes = same_Some _ _ (sym found.has ∙ stands.has) in
          subst (λ m. ComesBy (λ m. length (form.file.written m)) driver before m change) (sym was_for)
          (comes_told s.told change can some names none stands.bytes stands.is room before written.0 (subst (λ b. form.file.spells b before written.0) same found.spells))

      stores : Stores (forms_of driver form) was change (seen start) (seen end)
      stores =
          stores_rewritten (forms_of driver form) was change (seen start) (seen end) of_file (is_file_form (forms_of driver form) driver of_file is_form.law) some comes_on
          (λ bytes at never. let same : stands.bytes ≡ bytes = same_Some _ _ (sym stands.has ∙ at) in subst (λ b. length b ≤ file_limit) same (stands.is.short never)) rewrites

    pub changes_file : (result : Result (Unit {0}) StoreFault) (old new : History) → OnOk result (t.told ≡ changed_summary (keeps_of driver) s.told change) → OnOk result (IsSized (told_as s.told) change (told_as t.told))
        → Now old (λ w. StandsOn driver form held s.path s.told (seen w.disk)) → OnOk result (Ended (IsTurned form s.path s.told change now) old new) → (IsErr result → Breaks result)
        → ChangesStore (forms_of driver form) was view change result old new
    changes_file (Ok u) old new told told_size stands turned answer = record {
      done = from_start _ _ (λ d. StandsOn driver form held s.path s.told (seen d)) (λ a b here r. done told a b here r) old new stands turned;
      sized = told_size;
      rewrites = from_start _ _ (λ d. StandsOn driver form held s.path s.told (seen d)) (λ a b here r. rewrites told a b here r) old new stands turned;
      files = from_start _ _ (λ d. StandsOn driver form held s.path s.told (seen d)) (λ a b here r some kind. absurd (false≢true (sym of_file ∙ kind))) old new stands turned;
      stored = from_start _ _ (λ d. StandsOn driver form held s.path s.told (seen d)) (λ a b here r. stores told a b here r) old new stands turned;
      stands = end_now _ (λ d. StandsOn driver form now t.path t.told (seen d)) (λ a b here. here) old new
          (from_start _ (λ a b. StandsOn driver form now t.path t.told (seen b)) (λ d. StandsOn driver form held s.path s.told (seen d)) (λ a b here r. stands_after told a b here r) old new stands turned);
      refused = λ never. absurd never;
    }
    changes_file (Err fault) old new told told_size stands turned answer =
        record { done = tt; sized = tt; rewrites = tt; files = tt; stored = tt; stands = tt; refused = λ refuses. absurd (breaking fault (answer refl) refuses) }

  -- ---- Which answer comes

  module _ (s : FrontState) (held : List ℕ → Type 0) (change : Change) (some : is_nothing s.told.words change ≡ false) where
    -- what is due by what the store tells is due by what the files say
    due_there : (fault : Option StoreFault) (image : Image) (here : StandsOn driver form held s.path s.told image)
        → ((before : StoreContents) → before.placing ≡ InPlace → due_refusal (λ l. length (form.file.written l)) driver before (mailbox_in form s.told here.bytes) change ≡ fault)
        → (before : StoreContents) → IsWritten (grammar_of (forms_of driver form) driver s.path) image before
        → due_refusal (λ l. length (form.file.written l)) driver before ((file_view driver form held s).mailbox image) change ≡ fault
    due_there fault image here due before written =
        let found = as_spelled (forms_of driver form) driver of_file s.path image before written.0 written.1 in
        subst (λ m. due_refusal (λ l. length (form.file.written l)) driver before m change ≡ fault) (sym (stands_for driver form held s image here.bytes here.has)) (due before (placed found.bytes before written.0 found.spells))

    -- where none is due by what the store tells
    none_due : told_due (keeps_of driver) s.told change ≡ None → Fits driver form held s.told change → (h : History) → Now h (λ w. StandsOn driver form held s.path s.told (seen w.disk))
        → Now h (λ w. (before : StoreContents) → IsWritten (grammar_of (forms_of driver form) driver s.path) (seen w.disk) before
        → due_refusal (λ l. length (form.file.written l)) driver before ((file_view driver form held s).mailbox (seen w.disk)) change ≡ None)
    none_due none fits h stands = now_weaker _ _ (λ w here before written.
        due_there None (seen w.disk) here (λ c at. due_none s.told here.bytes here.is c at change some none (fits here.bytes here.places here.is)) before written) h stands

    -- a call that isn't refused ends well or breaks the store
    pub answers_file : told_due (keeps_of driver) s.told change ≡ None → Fits driver form held s.told change → (result : Result (Unit {0}) StoreFault) (old new : History)
        → Now old (λ w. StandsOn driver form held s.path s.told (seen w.disk)) → (IsErr result → Breaks result) → AnswersChange (forms_of driver form) (file_view driver form held s) change result old new
    answers_file none fits result old new stands answer = record {
      due = λ whole. by_result result answer;
      acts = λ whole. now_weaker _ _ (λ w due before written is_due. absurd (false≢true (subst IsSome (due before written) is_due))) old (none_due none fits old stands);
      nothing = λ is. absurd (cc);
    }
      where
        by_result : (result : Result (Unit {0}) StoreFault) → (IsErr result → Breaks result) → Now old (λ w. (before : StoreContents) → IsWritten (grammar_of (forms_of driver form) driver s.path) (seen w.disk) before
            → Answers (due_refusal (λ l. length (form.file.written l)) driver before ((file_view driver form held s).mailbox (seen w.disk)) change) result)
        by_result (Ok u) answer = none_due none fits old stands
        by_result (Err fault) answer = always _ (λ w before written. inr (answer refl)) old

    -- the refusal that is due
    pub refuses_file : (fault : StoreFault) → IsRefused driver form held s.told change fault → (h : History) → Now h (λ w. StandsOn driver form held s.path s.told (seen w.disk))
        → AnswersChange (forms_of driver form) (file_view driver form held s) change (Err fault) h h
    refuses_file fault is h stands = record {
      due = λ whole. now_weaker _ _ (λ w here before written. inl (due_there (Some fault) (seen w.disk) here (λ c at. by_cause here.bytes here.places here.is c at is.due) before written)) h stands;
      acts = λ whole. always _ (λ w before written is_due. refl) h;
      nothing = λ is. absurd (cc);
    }
      where
        by_cause : (bytes : List ℕ) → held bytes → IsTold driver form s.told bytes → (before : StoreContents) → before.placing ≡ InPlace
            → (told_due (keeps_of driver) s.told change ≡ Some fault)
            ⊎ ((told_due (keeps_of driver) s.told change ≡ None) × (fault ≡ TooLarge File)
            × ((bytes : List ℕ) → held bytes → IsTold driver form s.told bytes → is_long_append change (changed_length driver form s.told bytes change) ≡ true))
            → due_refusal (λ l. length (form.file.written l)) driver before (mailbox_in form s.told bytes) change ≡ Some fault
        by_cause bytes places told before at (inl due) = due_some s.told bytes told before at change fault some due
        by_cause bytes places told before at (inr long) = due_long s.told bytes told before at change some long.0 (long.2 bytes places told) ∙ ap (λ f. Some f) (sym long.1)

-- a store stands in a directory
pub stands_room : (driver : Driver) (form : ReadForm) (holds : List ℕ → Type 0) (path : List ℕ) (told : ToldState) (h : History) → is_top path ≡ false → Now h (λ w. IsSound w.disk)
    → Now h (λ w. StandsOn driver form holds path told (seen w.disk)) → Now h (λ w. is_directory (seen w.disk) (parent path) ≡ true)
stands_room driver form holds path told h below sound stands =
    room_now path h below sound (now_weaker _ _ (λ w is. some_bytes (bytes_at (seen w.disk) path) is.bytes is.has) h stands)
  where
    some_bytes : (found : Option (List ℕ)) (bytes : List ℕ) → found ≡ Some bytes → IsSome found
    some_bytes found bytes is = subst IsSome (sym is) refl
