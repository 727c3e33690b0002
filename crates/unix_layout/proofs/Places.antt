-- The texts that stand in the file after a change.
use Rattle.std.proofs.Common.{◌≡◌, ◌+◌, ◌&&◌, ◌||◌, ⊎_elim, ℕ, Bool, true, false, cond, nat_lt, List, [], ◌∷◌, length, None, refl, ap, sym, subst, ◌∙◌}
use Rattle.std.specs.List.{AllByRecursion}
use Rattle.std.proofs.lemmas.Bool.{cases_Bool}
use Rattle.mail_fields.specs.Keyword.{IsKeyword}
use Rattle.mail_types.specs.declared.driver.Driver.TheVariants.{Unix}
use Rattle.mail_types.specs.declared.driver.Limit.TheVariants.{File, Text}
use Rattle.mail_types.specs.declared.mailbox.Mailbox.{Mailbox}
use Rattle.mail_types.specs.Drivers.{keeps_of}
use Rattle.mail_types.specs.Limits.{file_limit, record_limit, given_length, has_large_text}
use Rattle.mail_types.specs.Lists.{add_messages, added_records}
use Rattle.mail_types.specs.Opening.{greatest_given}
use Rattle.mail_types.proofs.Adding.{added_all}
use Rattle.store_trait.specs.declared.change.Change.{Change}
use Rattle.store_trait.specs.declared.change.Change.TheVariants.{Append, SetFlags, Expunge}
use Rattle.store_trait.specs.declared.faults.StoreFault.TheVariants.{NoUid, TooMany, TooLarge}
use Rattle.store_trait.specs.Changes.{CanChange, changed_mailbox, due_refusal, first_due, is_nothing, words_after}
use Rattle.store_trait.specs.Having.{CanSpell, contents_of}
use Rattle.store_trait.proofs.CanHave.{can_spell_changed}
use Rattle.store_index.specs.States.{ToldState}
use Rattle.store_index.specs.Steps.{told_due}
use Rattle.store_index.specs.Told.{records_at, changed_summary, changed_texts}
use Rattle.store_index.proofs.ToldChanges.{changed_at}
use Rattle.file_store.specs.Forms.{is_read_form, texts_of}
use Rattle.file_store.specs.Laws.{told_count}
use Rattle.file_store.specs.Standing.{IsTold, mailbox_in}
use Rattle.file_store.proofs.Nothing.{nothing_changed}
use Rattle.file_store.proofs.Sizing.{sized_after, texts_count, texts_at, stored_texts}
use Rattle.unix_form.specs.Form.{unix_file_form, unix_written}
use Rattle.unix_form.proofs.Again.{unix_again}
use Rattle.unix_form.proofs.UnixForm.{unix_is_form}
use Rattle.unix_layout.specs.Forms.{unix_read}
use Rattle.unix_layout.specs.Writing.{file_text}
use Rattle.unix_layout.proofs.Stamps.{written_after}

or_no : (b : Bool) → (b || false) ≡ b
or_no true = refl
or_no false = refl

module _ (s : ToldState) (bytes : List ℕ) (told : IsTold Unix unix_read s bytes) where
  abbrev box : Mailbox
  box = mailbox_in unix_read s bytes

  count : length (records_at s.infos (unix_read.texts bytes)) ≡ length s.infos
  count = told_count s (unix_read.texts bytes) told.sized

  -- apart from the length of the file no refusal is due
  due_short : (change : Change) → is_nothing s.words change ≡ false → told_due (keeps_of Unix) s change ≡ None → due_refusal (λ m. 0) Unix (contents_of Unix box) box change ≡ None
  due_short (Append new words) some none =
      let keeps = keeps_of Unix in
      let next = add_messages keeps box new words in
      let a = nat_lt 0 (length new) && nat_lt greatest_given (s.last + length new) in
      let c = has_large_text (added_records keeps (length words) 0 (s.last + 1) new) in
      let g = nat_lt file_limit (given_length new) in
      let full : length next.records ≡ length s.infos + length new = added_all keeps box new words ∙ ap (λ n. n + length new) count in
      ap (λ b. cond b None (first_due ((a, NoUid) ∷ (nat_lt record_limit (length next.records) || false, TooMany) ∷ (c, TooLarge Text) ∷ (g || false, TooLarge File) ∷ []))) some
      ∙ (λ i. first_due ((a, NoUid) ∷ (or_no (nat_lt record_limit (length next.records)) i, TooMany) ∷ (c, TooLarge Text) ∷ (or_no g i, TooLarge File) ∷ []))
      ∙ ap (λ n. first_due ((a, NoUid) ∷ (nat_lt record_limit n, TooMany) ∷ (c, TooLarge Text) ∷ (g, TooLarge File) ∷ [])) full
      ∙ none
  due_short (SetFlags changes words) some none = refl
  due_short (Expunge places) some none = refl

  module _ (change : Change) (can : CanChange (keeps_of Unix) s.words (length s.infos) change) (names : AllByRecursion IsKeyword (words_after s.words change)) (none : told_due (keeps_of Unix) s change ≡ None) where
    abbrev now : Mailbox
    now = changed_mailbox (keeps_of Unix) box change

    here : CanChange (keeps_of Unix) s.words (length (records_at s.infos (unix_read.texts bytes))) change
    here = subst (λ n. CanChange (keeps_of Unix) s.words n change) (sym count) can

    can_now : CanSpell Unix now
    can_now = ⊎_elim
        (λ nothing. subst (CanSpell Unix) (sym (nothing_changed (keeps_of Unix) (length (records_at s.infos (unix_read.texts bytes))) box change nothing here)) told.can)
        (λ some. can_spell_changed (λ m. 0) Unix (contents_of Unix box) box change told.can here some (due_short change some none) names)
        (cases_Bool (is_nothing s.words change))

    -- in what is written stand the changed texts
    pub texts_written : unix_read.texts (unix_written now) ≡ changed_texts (keeps_of Unix) (unix_read.texts bytes) change
    texts_written =
        let old = unix_read.texts bytes in
        let keeps = keeps_of Unix in
        let after = changed_texts keeps old change in
        let infos = (changed_summary keeps s change).infos in
        let said = unix_again now can_now in
        (is_read_form Unix unix_file_form unix_is_form).texts (unix_written now) (contents_of Unix now) said.0 said.1
        ∙ stored_texts keeps now.records can_now.in_form
        ∙ ap (λ (m : Mailbox). texts_of m.records) (changed_at keeps refl s old change (texts_count s.infos old told.sized))
        ∙ texts_at infos after (texts_count infos after (sized_after keeps s old change told.sized))

words-next : (s next : ToldState) (change : Change) → next ≡ changed_summary (keeps_of Unix) s change → next.words ≡ words_after s.words change
words-next s next (Append new words) is = ap (λ (t : ToldState). t.words) is
words-next s next (SetFlags changes words) is = ap (λ (t : ToldState). t.words) is
words-next s next (Expunge places) is = ap (λ (t : ToldState). t.words) is

-- the same of what is written of what is told
pub texts_stand : (s next : ToldState) (change : Change) (old texts : List (List ℕ)) (bytes written : List ℕ) → next ≡ changed_summary (keeps_of Unix) s change → texts ≡ changed_texts (keeps_of Unix) old change → written ≡ file_text next texts
    → AllByRecursion IsKeyword next.words → unix_read.texts bytes ≡ old → IsTold Unix unix_read s bytes → CanChange (keeps_of Unix) s.words (length s.infos) change → told_due (keeps_of Unix) s change ≡ None → unix_read.texts written ≡ texts
texts_stand s next change old texts bytes written next_is texts_are text names holds told can none =
    let keywords = subst (AllByRecursion IsKeyword) (words-next s next change next_is) names in
    ap (λ t. unix_read.texts t) (text ∙ written_after s next change old texts bytes next_is texts_are holds told)
    ∙ texts_written s bytes told change can keywords none
    ∙ ap (λ t. changed_texts (keeps_of Unix) t change) holds
    ∙ sym texts_are
