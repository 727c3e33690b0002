-- What the answer to a change of a mailbox says of the refusal that is due.
use Rattle.std.proofs.Common.{ℕ, Bool, true, false, List, [], ◌∷◌, ◌≡◌, ◌⊎◌, ⊎_elim, inl, inr, refl, sym, ◌∙◌, ap, subst, arith, Option, Some, None, Result, Ok, Err}
use Rattle.std.specs.Prelude.{IsSome}
use Rattle.file_model.specs.Causes.{Faults}
use Rattle.file_model.specs.Disk.{seen}
use Rattle.file_model.specs.Paths.{child}
use Rattle.file_model.specs.Histories.{World, History, Now}
use Rattle.any_store.specs.Choice.{Formats}
use Rattle.mail_types.specs.declared.contents.StoreContents.{StoreContents}
use Rattle.session_loop.specs.Outcome.{UnitCause}
use Rattle.store_trait.specs.declared.change.Change.{Change}
use Rattle.store_trait.specs.declared.faults.StoreFault.{StoreFault}
use Rattle.store_trait.specs.declared.faults.StoreFault.TheVariants.{Failed, NoUid, TooMany, TooLarge, Broken, Memory}
use Rattle.store_trait.specs.Answers.{Answers, StoreCause, breaks}
use Rattle.store_trait.specs.Changes.{due_refusal}
use Rattle.store_trait.specs.Forms.{Forms, grammar_of}
use Rattle.store_trait.specs.Meaning.{IsWritten}
use Rattle.store_trait.specs.Promises.{AnswersChange, BreaksBy, ChangesStore}
use Rattle.store_trait.specs.Views.{View}
use Rattle.imap_session.specs.declared.refusal.Refusal.{Refusal}
use Rattle.imap_session.specs.Committed.{IsHere, IsAsItWas, SaysDue, StaysIfRefused}
use Rattle.imap_session.specs.Protocol.{stop_in}
use Rattle.imap_session.specs.Refusals.{due_of, refused_by_store}
use Rattle.imap_session.specs.State.{Selected, State}
use Rattle.imap_session.proofs.Committing.{stop_cause}

-- the answer as the command takes it
abbrev pub refused_so : List ℕ → Result (Unit {0}) StoreFault → Result (Unit {0}) Refusal
refused_so tag (Ok u) = Ok u
refused_so tag (Err fault) = Err (refused_by_store tag fault)

-- ---- Which refusal it is

whole_fault : (due : Option StoreFault) (fault : StoreFault) → breaks fault ≡ false → Answers {T = Unit {0}} due (Err fault) → due ≡ Some fault
whole_fault due fault whole answers = ⊎_elim (λ is. is) (λ broken. absurd (both (sym whole ∙ broken))) answers
  where
    both : false ≡ true → ⊥
    both e = absurd (cc)

says_due : (tag : List ℕ) (due : Option StoreFault) (result : Result (Unit {0}) StoreFault) → Answers due result → SaysDue tag due (refused_so tag result)
says_due tag due (Ok u) answers = answers
says_due tag due (Err Failed) answers = tt
says_due tag due (Err Memory) answers = tt
says_due tag due (Err NoUid) answers = (NoUid, whole_fault due NoUid refl answers, refl)
says_due tag due (Err TooMany) answers = (TooMany, whole_fault due TooMany refl answers, refl)
says_due tag due (Err (TooLarge limit)) answers = (TooLarge limit, whole_fault due (TooLarge limit) refl answers, refl)
says_due tag due (Err Broken) answers = (Broken, whole_fault due Broken refl answers, refl)

none_or : (due : Option StoreFault) (P : Type 0) → (IsSome due → P) → (due ≡ None) ⊎ P
none_or None P some = inl refl
none_or (Some fault) P some = inr (some refl)

module _ (formats : Formats) (state : State) (s : Selected) (change : Change) (was : View) (w : World) (here : IsHere formats state s was (seen w.disk)) where
  -- the files are written as the mailbox's contents
  written : IsWritten (grammar_of formats.forms was.driver was.path) (seen w.disk) s.placed.contents
  written =
      let it = here.mailbox.store in
      subst (λ p. IsWritten (grammar_of formats.forms was.driver p) (seen w.disk) s.placed.contents) (sym it.path)
      (subst (λ d. IsWritten (grammar_of formats.forms d (child state.root s.placed.name)) (seen w.disk) s.placed.contents) (sym it.driver) it.written)

  due_is : due_refusal (grammar_of formats.forms was.driver was.path).written_length was.driver s.placed.contents (was.mailbox (seen w.disk)) change ≡ due_of formats s.placed change
  due_is =
      let it = here.mailbox.store in
      ap (λ m. due_refusal (grammar_of formats.forms was.driver was.path).written_length was.driver s.placed.contents m change) it.mailbox
      ∙ ap (λ d. due_refusal (grammar_of formats.forms d was.path).written_length d s.placed.contents s.placed.mailbox change) it.driver

module _ (formats : Formats) (tag : List ℕ) (state : State) (s : Selected) (change : Change) (was : View) (result : Result (Unit {0}) StoreFault) (old new : History) where
  -- what it says, and that nothing is done where a refusal is due
  pub says_now : (answers : AnswersChange formats.forms was change result old new) → Now old (λ w. IsHere formats state s was (seen w.disk))
      → Now old (λ w. SaysDue tag (due_of formats s.placed change) (refused_so tag result))
  says_now answers here = by_past old answers.due here
    where
      by_past : (h : History)
          → (was.broken ≡ false → Now h (λ w. (before : StoreContents) → IsWritten (grammar_of formats.forms was.driver was.path) (seen w.disk) before
          → Answers (due_refusal (grammar_of formats.forms was.driver was.path).written_length was.driver before (was.mailbox (seen w.disk)) change) result))
          → Now h (λ w. IsHere formats state s was (seen w.disk)) → Now h (λ w. SaysDue tag (due_of formats s.placed change) (refused_so tag result))
      by_past [] due here = tt
      by_past (w ∷ past) due here =
          says_due tag (due_of formats s.placed change) result
          (subst (λ d. Answers d result) (due_is formats state s change was w here) (due here.mailbox.store.works s.placed.contents (written formats state s change was w here)))

  pub acts_now : (answers : AnswersChange formats.forms was change result old new) → Now old (λ w. IsHere formats state s was (seen w.disk))
      → Now old (λ w. (due_of formats s.placed change ≡ None) ⊎ (new ≡ old))
  acts_now answers here = by_past old answers.acts here
    where
      by_past : (h : History)
          → (was.broken ≡ false → Now h (λ w. (before : StoreContents) → IsWritten (grammar_of formats.forms was.driver was.path) (seen w.disk) before
          → IsSome (due_refusal (grammar_of formats.forms was.driver was.path).written_length was.driver before (was.mailbox (seen w.disk)) change) → new ≡ old))
          → Now h (λ w. IsHere formats state s was (seen w.disk)) → Now h (λ w. (due_of formats s.placed change ≡ None) ⊎ (new ≡ old))
      by_past [] acts here = tt
      by_past (w ∷ past) acts here =
          none_or (due_of formats s.placed change) (new ≡ old)
          (λ some. acts here.mailbox.store.works s.placed.contents (written formats state s change was w here) (subst (λ d. IsSome d) (sym (due_is formats state s change was w here)) some))

-- ---- A refused change leaves the store

still_works : (was is : View) (fault : StoreFault) → breaks fault ≡ false → BreaksBy {T = Unit {0}} was is (Err fault) → was.broken ≡ false → is.broken ≡ false
still_works was is fault whole breaks_by works = by_bit is.broken refl
  where
    clash : false ≡ true → ⊥
    clash e = absurd (cc)

    by_bit : (b : Bool) → is.broken ≡ b → is.broken ≡ false
    by_bit false at = at
    by_bit true at = absurd (⊎_elim (λ was_broken. clash (sym works ∙ was_broken)) (λ broken. clash (sym whole ∙ broken)) (breaks_by.broken.0 at))

module _ (forms : Forms) (tag : List ℕ) (change : Change) (was is : View) (old new : History) where
  as_it_was : (fault : StoreFault) → breaks fault ≡ false → ChangesStore forms was is change (Err fault) old new → BreaksBy {T = Unit {0}} was is (Err fault) → IsAsItWas was is old new
  as_it_was fault whole changes breaks_by =
      let same = changes.refused whole in
      record { nothing = same.0; unchanged = same.1; works = still_works was is fault whole breaks_by }

  pub stays_undue : (result : Result (Unit {0}) StoreFault) → ChangesStore forms was is change result old new → BreaksBy was is result → StaysIfRefused was is (refused_so tag result) old new
  stays_undue (Ok u) changes breaks_by = tt
  stays_undue (Err Failed) changes breaks_by = tt
  stays_undue (Err Memory) changes breaks_by = tt
  stays_undue (Err NoUid) changes breaks_by = as_it_was NoUid refl changes breaks_by
  stays_undue (Err TooMany) changes breaks_by = as_it_was TooMany refl changes breaks_by
  stays_undue (Err (TooLarge limit)) changes breaks_by = as_it_was (TooLarge limit) refl changes breaks_by
  stays_undue (Err Broken) changes breaks_by = as_it_was Broken refl changes breaks_by

-- ---- The cause

cause_refused : (old new : Faults) (fault : StoreFault) → StoreCause {T = Unit {0}} old new (Err fault) → breaks fault ≡ false → UnitCause {T = Unit {0}} old new (Ok tt)
cause_refused old new fault cause whole = record {
  hear = cause.counts.hear;
  file = cause.counts.file;
  say = omega (arith, cause.counts.say);
  say_fault = λ is. absurd (cc);
  file_fault = λ is. absurd (cc);
  regular = λ none. record { hear = cause.counts.hear; file = stays fault whole cause; say = cause.counts.say };
}
  where
    stays : (fault : StoreFault) → breaks fault ≡ false → StoreCause {T = Unit {0}} old new (Err fault) → new.file ≡ old.file
    stays Failed whole cause = absurd (cc)
    stays Memory whole cause = absurd (cc)
    stays NoUid whole cause = cause.stays refl
    stays TooMany whole cause = cause.stays refl
    stays (TooLarge limit) whole cause = cause.stays refl
    stays Broken whole cause = cause.stays refl

pub cause_undue : (tag : List ℕ) (old new : Faults) (result : Result (Unit {0}) StoreFault) → StoreCause old new result → UnitCause old new (stop_in (refused_so tag result))
cause_undue tag old new (Ok tt) cause = stop_cause old new (Ok tt) cause
cause_undue tag old new (Err Failed) cause = stop_cause {T = Unit {0}} old new (Err Failed) cause
cause_undue tag old new (Err Memory) cause = stop_cause {T = Unit {0}} old new (Err Memory) cause
cause_undue tag old new (Err NoUid) cause = cause_refused old new NoUid cause refl
cause_undue tag old new (Err TooMany) cause = cause_refused old new TooMany cause refl
cause_undue tag old new (Err (TooLarge limit)) cause = cause_refused old new (TooLarge limit) cause refl
cause_undue tag old new (Err Broken) cause = cause_refused old new Broken cause refl
