-- Stamps of what is told are in UTC, also after a change.
use Rattle.std.proofs.Common.{◌≡◌, ◌+◌, ◌==◌, ℕ, true, false, cond, List, [], ◌∷◌, ◌++◌, length, map, codes, flat_map, refl, ap, sym, subst, ◌∙◌, arith}
use Rattle.std.specs.List.{AllByRecursion}
use Rattle.std.proofs.lemmas.List.{map-append}
use Rattle.mail_fields.specs.Stamps.{parts_of}
use Rattle.mail_types.specs.declared.driver.Driver.TheVariants.{Unix}
use Rattle.mail_types.specs.declared.message.FlagChange.{FlagChange}
use Rattle.mail_types.specs.declared.message.NewMessage.{NewMessage}
use Rattle.mail_types.specs.declared.message.Record.{Record}
use Rattle.mail_types.specs.Drivers.{keeps_of}
use Rattle.mail_types.specs.Keeping.{take_record, words_below}
use Rattle.mail_types.specs.Lists.{added_record, undropped}
use Rattle.mail_types.specs.Stamps.{utc_stamp}
use Rattle.mail_types.proofs.Dropping.{undropped_map}
use Rattle.mail_types.proofs.Stamps.{same_stamp}
use Rattle.mail_types.proofs.Twice.{utc_twice}
use Rattle.store_trait.specs.declared.change.Change.{Change}
use Rattle.store_trait.specs.declared.change.Change.TheVariants.{Append, SetFlags, Expunge}
use Rattle.store_trait.specs.declared.store.Info.{Info}
use Rattle.store_trait.specs.Changes.{changed_mailbox}
use Rattle.store_trait.specs.Views.{info_of}
use Rattle.store_index.specs.States.{ToldState}
use Rattle.store_index.specs.Told.{records_at, mailbox_at, cleared_info, changed_info, changed_infos, added_infos, changed_summary, changed_texts}
use Rattle.store_index.proofs.ToldChanges.{changed_at}
use Rattle.status_heads.specs.PseudoTexts.{pseudo_text}
use Rattle.file_store.specs.Standing.{IsSizedBy, IsTold, mailbox_in}
use Rattle.unix_form.specs.Form.{message_text, unix_written}
use Rattle.unix_layout.specs.Forms.{unix_read}
use Rattle.unix_layout.specs.Writing.{in_utc, file_text}
use Rattle.unix_layout.proofs.FoundMessages.{sized_length}

-- of messages that unix can have
told_utc : (infos : List Info) (texts : List (List ℕ)) → length infos ≡ length texts → AllByRecursion (λ r. take_record (keeps_of Unix) r ≡ r) (records_at infos texts) → map in_utc infos ≡ infos
told_utc [] texts same all = refl
told_utc (i ∷ infos) [] same all = absurd (omega (arith, same))
told_utc (i ∷ infos) (t ∷ texts) same all =
    let stamp : utc_stamp i.stamp ≡ i.stamp = ap (λ (r : Record). r.stamp) all.0 in
    let rest = told_utc infos texts (omega (arith, same)) all.1 in
    λ k. record i { stamp = stamp k } ∷ rest k

-- ---- After a change

cleared_utc : (old new : ℕ) (infos : List Info) → map in_utc (map (cleared_info old new) infos) ≡ map (cleared_info old new) (map in_utc infos)
cleared_utc old new [] = refl
cleared_utc old new (i ∷ infos) = ap (λ l. in_utc (cleared_info old new i) ∷ l) (cleared_utc old new infos)

changed_utc : (names place : ℕ) (changes : List FlagChange) (i : Info) → in_utc (changed_info names place changes i) ≡ changed_info names place changes (in_utc i)
changed_utc names place [] i = refl
changed_utc names place (change ∷ rest) i =
    let later = changed_utc names place rest i in
    elim (place == change.place)
    as (λ is. in_utc (cond is (record i { flags = change.flags; words = words_below names change.words }) (changed_info names place rest i)) ≡ cond is (record (in_utc i) { flags = change.flags; words = words_below names change.words }) (changed_info names place rest (in_utc i))) [
      | true ↦ refl
      | false ↦ later
    ]

all_changed_utc : (names place : ℕ) (changes : List FlagChange) (infos : List Info) → map in_utc (changed_infos names place changes infos) ≡ changed_infos names place changes (map in_utc infos)
all_changed_utc names place changes [] = refl
all_changed_utc names place changes (i ∷ infos) = let rest = all_changed_utc names (place + 1) changes infos in λ k. changed_utc names place changes i k ∷ rest k

added_utc : (names next : ℕ) (new : List NewMessage) → map in_utc (added_infos (keeps_of Unix) names next new) ≡ added_infos (keeps_of Unix) names next new
added_utc names next [] = refl
added_utc names next (message ∷ new) =
    let stamp : utc_stamp (utc_stamp message.stamp) ≡ utc_stamp message.stamp = same_stamp (utc_stamp (utc_stamp message.stamp)) (utc_stamp message.stamp) (utc_twice (parts_of message.stamp)) in
    let rest = added_utc names (next + 1) new in
    λ k. record (info_of (added_record (keeps_of Unix) names 0 next message)) { stamp = stamp k } ∷ rest k

after_utc : (s : ToldState) (change : Change) → map in_utc s.infos ≡ s.infos → map in_utc (changed_summary (keeps_of Unix) s change).infos ≡ (changed_summary (keeps_of Unix) s change).infos
after_utc s (Append new words) same =
    let olds = map (cleared_info (length s.words) (length words)) s.infos in
    map-append in_utc olds (added_infos (keeps_of Unix) (length words) (s.last + 1) new)
    ∙ (λ k. (cleared_utc (length s.words) (length words) s.infos ∙ ap (map (cleared_info (length s.words) (length words))) same) k ++ added_utc (length words) (s.last + 1) new k)
after_utc s (SetFlags changes words) same =
    all_changed_utc (length words) 0 changes (map (cleared_info (length s.words) (length words)) s.infos)
    ∙ ap (changed_infos (length words) 0 changes) (cleared_utc (length s.words) (length words) s.infos ∙ ap (map (cleared_info (length s.words) (length words))) same)
after_utc s (Expunge places) same = sym (undropped_map in_utc 0 places s.infos) ∙ ap (undropped 0 places) same

-- what is written of what is told then is what is written of the changed mailbox
pub written_after : (s next : ToldState) (change : Change) (old texts : List (List ℕ)) (bytes : List ℕ) → next ≡ changed_summary (keeps_of Unix) s change → texts ≡ changed_texts (keeps_of Unix) old change → unix_read.texts bytes ≡ old
    → IsTold Unix unix_read s bytes → file_text next texts ≡ unix_written (changed_mailbox (keeps_of Unix) (mailbox_in unix_read s bytes) change)
written_after s next change old texts bytes next_is texts_are holds told =
    let sized : IsSizedBy s.infos old = subst (IsSizedBy s.infos) holds told.sized in
    let count = sized_length s.infos old sized in
    let now = changed_summary (keeps_of Unix) s change in
    let after = changed_texts (keeps_of Unix) old change in
    let form : AllByRecursion (λ r. take_record (keeps_of Unix) r ≡ r) (records_at s.infos old) = subst (λ t. AllByRecursion (λ r. take_record (keeps_of Unix) r ≡ r) (records_at s.infos t)) holds told.can.in_form in
    let utc : map in_utc now.infos ≡ now.infos = after_utc s change (told_utc s.infos old count form) in
    (λ k. file_text (next_is k) (texts_are k))
    ∙ (λ k. pseudo_text (record { validity = now.validity; last = now.last; words = now.words }) ++ (codes "\n" ++ flat_map (message_text now.words) (records_at (utc k) after)))
    ∙ ap unix_written (sym (changed_at (keeps_of Unix) refl s old change (sym count)))
    ∙ ap (λ t. unix_written (changed_mailbox (keeps_of Unix) (mailbox_at s t) change)) (sym holds)
