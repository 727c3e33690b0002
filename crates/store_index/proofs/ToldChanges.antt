-- A change of what is told is a change of the mailbox.
use Rattle.std.proofs.Common.{◌≡◌, ℕ, ◌+◌, ◌==◌, Bool, true, false, cond, List, [], ◌∷◌, ◌++◌, length, map, min, nat_eq, nat_lt, refl, sym, ap, ◌∙◌, arith, suc}
use Rattle.std.specs.List.{list_any}
use Rattle.mail_types.specs.declared.driver.Keeps.{Keeps}
use Rattle.mail_types.specs.declared.message.FlagChange.{FlagChange}
use Rattle.mail_types.specs.declared.message.NewMessage.{NewMessage}
use Rattle.mail_types.specs.declared.message.Record.{Record}
use Rattle.mail_types.specs.Lists.{cleared, named, changed_record, changed_records, added_record, added_records, undropped, next_number, differs, any_differs, with_numbers}
use Rattle.store_trait.specs.declared.change.Change.{Change}
use Rattle.store_trait.specs.declared.change.Change.TheVariants.{Append, SetFlags, Expunge}
use Rattle.store_trait.specs.declared.store.Info.{Info}
use Rattle.store_trait.specs.Changes.{changed_mailbox}
use Rattle.store_index.specs.States.{ToldState}
use Rattle.mail_types.specs.Keeping.{words_below}
use Rattle.mail_types.specs.Mailboxes.{greatest_number}
use Rattle.store_index.specs.Told.{record_at, records_at, mailbox_at, cleared_info, changed_info, changed_infos, added_infos, changed_summary, new_texts, changed_texts}

cleared_at : (old new : ℕ) (infos : List Info) (texts : List (List ℕ)) → map (cleared old new) (records_at infos texts) ≡ records_at (map (cleared_info old new) infos) texts
cleared_at old new [] texts = refl
cleared_at old new (i ∷ infos) [] = refl
cleared_at old new (i ∷ infos) (t ∷ texts) = ap (λ l. cleared old new (record_at i t) ∷ l) (cleared_at old new infos texts)

one_at : (names place : ℕ) (cs : List FlagChange) (i : Info) (t : List ℕ) → changed_record names place cs (record_at i t) ≡ record_at (changed_info names place cs i) t
one_at names place [] i t = refl
one_at names place (c ∷ cs) i t = step (place == c.place) (one_at names place cs i t)
  where
    step : (b : Bool) → changed_record names place cs (record_at i t) ≡ record_at (changed_info names place cs i) t
        → cond b (named names (record (record_at i t) { flags = c.flags; words = c.words })) (changed_record names place cs (record_at i t))
        ≡ record_at (cond b (record i { flags = c.flags; words = words_below names c.words }) (changed_info names place cs i)) t
    step true later = refl
    step false later = later

changed_at_places : (names place : ℕ) (cs : List FlagChange) (infos : List Info) (texts : List (List ℕ)) → changed_records names place cs (records_at infos texts) ≡ records_at (changed_infos names place cs infos) texts
changed_at_places names place cs [] texts = refl
changed_at_places names place cs (i ∷ infos) [] = refl
changed_at_places names place cs (i ∷ infos) (t ∷ texts) =
    ap (λ r. r ∷ changed_records names (place + 1) cs (records_at infos texts)) (one_at names place cs i t)
    ∙ ap (λ l. record_at (changed_info names place cs i) t ∷ l) (changed_at_places names (place + 1) cs infos texts)

zero_if : (b : Bool) → ◌≡◌ {A = ℕ} (cond b 0 0) 0
zero_if true = refl
zero_if false = refl

added_at_end : (keeps : Keeps) (names next : ℕ) (new : List NewMessage) → added_records keeps names 0 next new ≡ records_at (added_infos keeps names next new) (new_texts keeps new)
added_at_end keeps names next [] = refl
added_at_end keeps names next (n ∷ new) = λ j. record (added_record keeps names 0 next n) { number = zero_if keeps.numbers j } ∷ added_at_end keeps names (next + 1) new j

joined_at : (infos more : List Info) (texts others : List (List ℕ)) → length texts ≡ length infos → records_at infos texts ++ records_at more others ≡ records_at (infos ++ more) (texts ++ others)
joined_at [] more [] others same = refl
joined_at [] more (t ∷ texts) others same = absurd (omega (arith, same))
joined_at (i ∷ infos) more [] others same = absurd (omega (arith, same))
joined_at (i ∷ infos) more (t ∷ texts) others same = ap (λ l. record_at i t ∷ l) (joined_at infos more texts others (omega (arith, same)))

dropped_at : (place : ℕ) (places : List ℕ) (infos : List Info) (texts : List (List ℕ)) → length texts ≡ length infos
    → undropped place places (records_at infos texts) ≡ records_at (undropped place places infos) (undropped place places texts)
dropped_at place places [] [] same = refl
dropped_at place places [] (t ∷ texts) same = absurd (omega (arith, same))
dropped_at place places (i ∷ infos) [] same = absurd (omega (arith, same))
dropped_at place places (i ∷ infos) (t ∷ texts) same = step (list_any (nat_eq place) places) (dropped_at (place + 1) places infos texts (omega (arith, same)))
  where
    step : (b : Bool) → undropped (place + 1) places (records_at infos texts) ≡ records_at (undropped (place + 1) places infos) (undropped (place + 1) places texts)
        → cond b (undropped (place + 1) places (records_at infos texts)) (record_at i t ∷ undropped (place + 1) places (records_at infos texts))
        ≡ records_at (cond b (undropped (place + 1) places infos) (i ∷ undropped (place + 1) places infos)) (cond b (undropped (place + 1) places texts) (t ∷ undropped (place + 1) places texts))
    step true later = later
    step false later = ap (λ l. record_at i t ∷ l) later

cleared_count : (old new : ℕ) (infos : List Info) → length (map (cleared_info old new) infos) ≡ length infos
cleared_count old new [] = refl
cleared_count old new (i ∷ infos) = ap suc (cleared_count old new infos)

-- no message gets a modification number
zero_numbers : (before : List Record) (infos : List Info) (texts : List (List ℕ)) → with_numbers 0 before (records_at infos texts) ≡ records_at infos texts
zero_numbers before [] texts = refl
zero_numbers before (i ∷ infos) [] = refl
zero_numbers [] (i ∷ infos) (t ∷ texts) = refl
zero_numbers (old ∷ before) (i ∷ infos) (t ∷ texts) = λ j. one (differs old (record_at i t)) j ∷ zero_numbers before infos texts j
  where
    one : (b : Bool) → cond b (record (record_at i t) { number = 0 }) (record_at i t) ≡ record_at i t
    one true = refl
    one false = refl

-- of a driver without modification numbers
pub changed_at : (keeps : Keeps) → keeps.numbers ≡ false → (s : ToldState) (texts : List (List ℕ)) (change : Change) → length texts ≡ length s.infos
    → changed_mailbox keeps (mailbox_at s texts) change ≡ mailbox_at (changed_summary keeps s change) (changed_texts keeps texts change)
changed_at keeps plain s texts (Append new words) same =
    let olds = map (cleared (length s.words) (length words)) (records_at s.infos texts) in
    let none : next_number keeps 0 ≡ 0 = ap (λ b. cond b (min (0 + 1) greatest_number) 0) plain in
    ap (λ n. record { validity = s.validity; number = cond (nat_lt 0 (length new)) n 0; last = s.last + length new; words = words; records = olds ++ added_records keeps (length words) n (s.last + 1) new }) none
    ∙ ap (λ n. record { validity = s.validity; number = n; last = s.last + length new; words = words; records = olds ++ added_records keeps (length words) 0 (s.last + 1) new }) (zero_if (nat_lt 0 (length new)))
    ∙ ap (λ rs. record { validity = s.validity; number = 0; last = s.last + length new; words = words; records = rs }) (
    ap (λ rs. rs ++ added_records keeps (length words) 0 (s.last + 1) new) (cleared_at (length s.words) (length words) s.infos texts)
    ∙ ap (λ rs. records_at (map (cleared_info (length s.words) (length words)) s.infos) texts ++ rs) (added_at_end keeps (length words) (s.last + 1) new)
    ∙ joined_at (map (cleared_info (length s.words) (length words)) s.infos) (added_infos keeps (length words) (s.last + 1) new) texts (new_texts keeps new) (same ∙ sym (cleared_count (length s.words) (length words) s.infos))
    )
changed_at keeps plain s texts (SetFlags changes words) same =
    let before = map (cleared (length s.words) (length words)) (records_at s.infos texts) in
    let after = changed_records (length words) 0 changes before in
    let infos = map (cleared_info (length s.words) (length words)) s.infos in
    let none : next_number keeps 0 ≡ 0 = ap (λ b. cond b (min (0 + 1) greatest_number) 0) plain in
    ap (λ n. record { validity = s.validity; number = cond (any_differs before after) n 0; last = s.last; words = words; records = with_numbers n before after }) none
    ∙ ap (λ n. record { validity = s.validity; number = n; last = s.last; words = words; records = with_numbers 0 before after }) (zero_if (any_differs before after))
    ∙ ap (λ rs. record { validity = s.validity; number = 0; last = s.last; words = words; records = rs }) (
    ap (λ rs. with_numbers 0 before rs) (
    ap (changed_records (length words) 0 changes) (cleared_at (length s.words) (length words) s.infos texts)
    ∙ changed_at_places (length words) 0 changes infos texts
    )
    ∙ zero_numbers before (changed_infos (length words) 0 changes infos) texts
    )
changed_at keeps plain s texts (Expunge places) same =
    ap (λ rs. record { validity = s.validity; number = 0; last = s.last; words = s.words; records = rs }) (dropped_at 0 places s.infos texts same)
