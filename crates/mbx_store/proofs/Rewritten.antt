-- What the code writes is what a change leaves of the file.
use Rattle.std.proofs.Common.{◌≡◌, ◌≤◌, ◌+◌, ◌-◌, ◌&&◌, ◌||◌, ℕ, zero, suc, Bool, true, false, cond, nat_lt, nat_eq, List, [], ◌∷◌, ◌++◌, length, length-append, map, take, drop, None, refl, sym, ap, ◌∙◌, subst, arith, append_assoc, append-nil}
use Rattle.std.specs.List.{AllByRecursion, list_any}
use Rattle.std.proofs.lemmas.Bool.{false≢true}
use Rattle.std.proofs.lemmas.List.{length-drop}
use Rattle.mail_fields.specs.Keyword.{IsKeyword}
use Rattle.mail_types.specs.declared.contents.Placing.TheVariants.{InPlace}
use Rattle.mail_types.specs.declared.contents.StoreContents.{StoreContents}
use Rattle.mail_types.specs.declared.driver.Driver.TheVariants.{Mbx}
use Rattle.mail_types.specs.declared.driver.Limit.TheVariants.{File, Text}
use Rattle.mail_types.specs.declared.mailbox.Mailbox.{Mailbox}
use Rattle.mail_types.specs.declared.message.NewMessage.{NewMessage}
use Rattle.mail_types.specs.declared.message.Record.{Record}
use Rattle.mail_types.specs.Drivers.{keeps_of}
use Rattle.mail_types.specs.Limits.{file_limit, record_limit, has_large_text, given_length}
use Rattle.mail_types.specs.Lists.{added_records, add_messages, undropped, named}
use Rattle.mail_types.specs.Opening.{greatest_given}
use Rattle.mail_types.proofs.Adding.{added_all}
use Rattle.store_trait.specs.declared.change.Change.{Change}
use Rattle.store_trait.specs.declared.change.Change.TheVariants.{Append, SetFlags, Expunge}
use Rattle.store_trait.specs.declared.faults.StoreFault.{StoreFault}
use Rattle.store_trait.specs.declared.faults.StoreFault.TheVariants.{NoUid, TooMany, TooLarge}
use Rattle.store_trait.specs.declared.store.Info.{Info}
use Rattle.store_trait.specs.Changes.{CanChange, changed_mailbox, is_nothing, words_after, due_refusal, first_due}
use Rattle.store_trait.specs.Having.{CanSpell}
use Rattle.store_trait.proofs.CanHave.{can_spell_changed}
use Rattle.store_index.specs.States.{ToldState}
use Rattle.store_index.specs.Steps.{told_due}
use Rattle.store_index.specs.Told.{record_at, records_at, mailbox_at, changed_summary, changed_texts, new_texts}
use Rattle.store_index.proofs.ToldChanges.{changed_at}
use Rattle.text_forms.specs.Lines.{clean_byte}
use Rattle.file_store.specs.Laws.{told_count}
use Rattle.file_store.specs.Standing.{IsTold, mailbox_in}
use Rattle.file_store.proofs.Nothing.{nothing_changed}
use Rattle.file_store.proofs.Sizing.{sized_after, texts_count}
use Rattle.mbx_form.specs.Form.{file_of, header_for, is_append, left_records, records_in, mbx_rewritten, written_within}
use Rattle.mbx_form.specs.Header.{header_text}
use Rattle.mbx_form.specs.Records.{FileRecord, record_text, records_text, is_marked, message_of, messages_of, hidden_words, other_bits, written_record, new_record, in_place_of, over_records, undropped_records, unmarked_records}
use Rattle.mbx_form.proofs.Files.{file_back, file_is}
use Rattle.mbx_form.proofs.Headers.{keywords_long}
use Rattle.mbx_form.proofs.Lengths.{texts_of}
use Rattle.mbx_form.proofs.Messages.{over_are, unmarked_are}
use Rattle.mbx_form.proofs.Records.{IsRecord}
use Rattle.mbx_form.proofs.Saying.{can_stand, can_stand_header}
use Rattle.mbx_store.specs.declared.place.MbxPlace.{MbxPlace}
use Rattle.mbx_store.specs.declared.plan.Plan.{Plan}
use Rattle.mbx_store.specs.Bytes.{pieces_bytes, added_bytes, places_in}
use Rattle.mbx_store.specs.Places.{HasPlaces, place_at, places_from}
use Rattle.mbx_store.specs.Plans.{left_pieces, end_from, added_pieces, old_infos, new_infos, added_by, left_places, unmarked_places, planned_long, chosen_places, IsPlan}
use Rattle.mbx_store.proofs.At.{AreAt, IsNamed, refreshed, refreshed_with, are_at, left_at, unmarked_at, are_records, left_are, added_are}
use Rattle.mbx_store.proofs.Scanned.{own_form, texts_in}
use Rattle.mbx_store.proofs.Texts.{file_read}

-- ---- The changed mailbox can be written

none_due : (a b c d e : Bool) (x y z u : StoreFault) → first_due ((a, x) ∷ (b, y) ∷ (c, z) ∷ (d, u) ∷ []) ≡ None → e ≡ b → first_due ((a, x) ∷ (e || false, y) ∷ (c, z) ∷ (d || false, u) ∷ []) ≡ None
none_due true b c d e x y z u is same = absurd (cc)
none_due false true c d e x y z u is same = absurd (cc)
none_due false false true d e x y z u is same = absurd (cc)
none_due false false false true e x y z u is same = absurd (cc)
none_due false false false false true x y z u is same = absurd (false≢true (sym same))
none_due false false false false false x y z u is same = refl

-- the contents of a file without messages
abbrev no_contents : StoreContents
no_contents = record { validity = None; number = 0; last = 0; words = []; records = []; placing = InPlace }

-- with files of no length, the tests of the interface are those of what is told
due_so_far : (told : ToldState) (bytes : List ℕ) (change : Change) → IsTold Mbx own_form told bytes → is_nothing told.words change ≡ false → told_due (keeps_of Mbx) told change ≡ None
    → due_refusal (λ m. 0) Mbx no_contents (mailbox_in own_form told bytes) change ≡ None
due_so_far told bytes (Append new words) is some none =
    let m = mailbox_in own_form told bytes in
    let next = add_messages (keeps_of Mbx) m new words in
    let full : length next.records ≡ length told.infos + length new = added_all (keeps_of Mbx) m new words ∙ ap (λ n. n + length new) (told_count told (own_form.texts bytes) is.sized) in
    let tests = none_due (nat_lt 0 (length new) && nat_lt greatest_given (told.last + length new)) (nat_lt record_limit (length told.infos + length new)) (has_large_text (added_records (keeps_of Mbx) (length words) 0 (told.last + 1) new))
    (nat_lt file_limit (given_length new)) (nat_lt record_limit (length next.records)) NoUid TooMany (TooLarge Text) (TooLarge File) none (ap (nat_lt record_limit) full) in
    ap (λ b. cond b None (first_due ((nat_lt 0 (length new) && nat_lt greatest_given (told.last + length new), NoUid) ∷ (nat_lt record_limit (length next.records) || false, TooMany)
    ∷ (has_large_text (added_records (keeps_of Mbx) (length words) 0 (told.last + 1) new), TooLarge Text) ∷ (nat_lt file_limit (given_length new) || false, TooLarge File) ∷ []))) some ∙ tests
due_so_far told bytes (SetFlags changes words) is some none = refl
due_so_far told bytes (Expunge places) is some none = refl

pub can_next : (told : ToldState) (bytes : List ℕ) (change : Change) → IsTold Mbx own_form told bytes → CanChange (keeps_of Mbx) told.words (length told.infos) change → told_due (keeps_of Mbx) told change ≡ None
    → AllByRecursion IsKeyword (words_after told.words change) → CanSpell Mbx (changed_mailbox (keeps_of Mbx) (mailbox_in own_form told bytes) change)
can_next told bytes change is can none names = step (is_nothing told.words change) refl
  where
    m : Mailbox
    m = mailbox_in own_form told bytes

    there : CanChange (keeps_of Mbx) told.words (length (mailbox_in own_form told bytes).records) change
    there = subst (λ n. CanChange (keeps_of Mbx) told.words n change) (sym (told_count told (own_form.texts bytes) is.sized)) can

    step : (b : Bool) → is_nothing told.words change ≡ b → CanSpell Mbx (changed_mailbox (keeps_of Mbx) (mailbox_in own_form told bytes) change)
    step true nothing = subst (CanSpell Mbx) (sym (nothing_changed (keeps_of Mbx) (length told.infos) (mailbox_in own_form told bytes) change nothing can)) is.can
    step false some = can_spell_changed (λ m. 0) Mbx no_contents (mailbox_in own_form told bytes) change is.can there some (due_so_far told bytes change is some none) names

-- ---- Texts of the records that are left

abbrev texts_in_records : List FileRecord → List (List ℕ)
texts_in_records rs = texts_of (messages_of 0 rs)

pub same_texts : (names : ℕ) (rs : List FileRecord) → texts_of (messages_of names rs) ≡ texts_in_records rs
same_texts names [] = refl
same_texts names (r ∷ rs) = step (is_marked r) (same_texts names rs)
  where
    step : (b : Bool) → texts_of (messages_of names rs) ≡ texts_in_records rs
        → texts_of (cond b (messages_of names rs) (message_of names r ∷ messages_of names rs)) ≡ texts_of (cond b (messages_of 0 rs) (message_of 0 r ∷ messages_of 0 rs))
    step true later = later
    step false later = ap (λ l. map clean_byte r.text ∷ l) later

undropped_texts : (place : ℕ) (places : List ℕ) (rs : List FileRecord) → undropped place places (texts_in_records rs) ≡ texts_in_records (undropped_records place places rs)
undropped_texts place places [] = refl
undropped_texts place places (r ∷ rs) = step (is_marked r) refl (list_any (nat_eq place) places) refl (undropped_texts place places rs) (undropped_texts (place + 1) places rs)
  where
    own : List ℕ
    own = map clean_byte r.text

    step : (a : Bool) → is_marked r ≡ a → (b : Bool) → list_any (nat_eq place) places ≡ b → undropped place places (texts_in_records rs) ≡ texts_in_records (undropped_records place places rs)
        → undropped (place + 1) places (texts_in_records rs) ≡ texts_in_records (undropped_records (place + 1) places rs)
        → undropped place places (texts_of (cond a (messages_of 0 rs) (message_of 0 r ∷ messages_of 0 rs)))
        ≡ texts_in_records (cond a (r ∷ undropped_records place places rs) (cond b (undropped_records (place + 1) places rs) (r ∷ undropped_records (place + 1) places rs)))
    step true is b at here later = here ∙ sym (ap (λ t. texts_of (cond t (messages_of 0 (undropped_records place places rs)) (message_of 0 r ∷ messages_of 0 (undropped_records place places rs)))) is)
    step false is true at here later = ap (λ t. cond t (undropped (place + 1) places (texts_in_records rs)) (map clean_byte r.text ∷ undropped (place + 1) places (texts_in_records rs))) at ∙ later
    step false is false at here later =
        ap (λ t. cond t (undropped (place + 1) places (texts_in_records rs)) (map clean_byte r.text ∷ undropped (place + 1) places (texts_in_records rs))) at
        ∙ ap (λ l. map clean_byte r.text ∷ l) later
        ∙ sym (ap (λ t. texts_of (cond t (messages_of 0 (undropped_records (place + 1) places rs)) (message_of 0 r ∷ messages_of 0 (undropped_records (place + 1) places rs)))) is)

left_texts : (change : Change) (rs : List FileRecord) → changed_texts (keeps_of Mbx) (texts_in_records rs) change ≡ texts_in_records (left_records change rs) ++ new_texts (keeps_of Mbx) (added_by change)
left_texts (Append new words) rs = refl
left_texts (SetFlags changes words) rs = sym (append-nil (texts_in_records rs))
left_texts (Expunge places) rs = undropped_texts 0 places rs ∙ sym (append-nil (texts_in_records (undropped_records 0 places rs)))

unmarked_texts : (rs : List FileRecord) → texts_in_records (unmarked_records rs) ≡ texts_in_records rs
unmarked_texts [] = refl
unmarked_texts (r ∷ rs) = step (is_marked r) refl (unmarked_texts rs)
  where
    step : (b : Bool) → is_marked r ≡ b → texts_in_records (unmarked_records rs) ≡ texts_in_records rs
        → texts_in_records (cond b (unmarked_records rs) (r ∷ unmarked_records rs)) ≡ texts_of (cond b (messages_of 0 rs) (message_of 0 r ∷ messages_of 0 rs))
    step true is later = later
    step false is later =
        ap (λ t. texts_of (cond t (messages_of 0 (unmarked_records rs)) (message_of 0 r ∷ messages_of 0 (unmarked_records rs)))) is ∙ ap (λ l. map clean_byte r.text ∷ l) later

-- ---- Messages over records: those that were there, and new ones behind them

over_split : (names : ℕ) (rs : List FileRecord) (infos : List Info) (more : List (List ℕ)) → length infos ≡ length (texts_in_records rs) + length more
    → over_records names rs (records_at infos (texts_in_records rs ++ more))
    ≡ refreshed names rs (take (length (texts_in_records rs)) infos) ++ map new_record (records_at (drop (length (texts_in_records rs)) infos) more)
over_split names [] infos more same = refl
over_split names (r ∷ rs) infos more same = step (is_marked r) infos same (λ infos same. over_split names rs infos more same)
  where
    step : (b : Bool) (infos : List Info) → length infos ≡ length (texts_of (cond b (messages_of 0 rs) (message_of 0 r ∷ messages_of 0 rs))) + length more
        → ((infos : List Info) → length infos ≡ length (texts_in_records rs) + length more → over_records names rs (records_at infos (texts_in_records rs ++ more))
        ≡ refreshed names rs (take (length (texts_in_records rs)) infos) ++ map new_record (records_at (drop (length (texts_in_records rs)) infos) more))
        → cond b (r ∷ over_records names rs (records_at infos (texts_of (cond b (messages_of 0 rs) (message_of 0 r ∷ messages_of 0 rs)) ++ more)))
        (in_place_of names r (records_at infos (texts_of (cond b (messages_of 0 rs) (message_of 0 r ∷ messages_of 0 rs)) ++ more)) (over_records names rs))
        ≡ cond b (r ∷ refreshed names rs (take (length (texts_of (cond b (messages_of 0 rs) (message_of 0 r ∷ messages_of 0 rs)))) infos))
        (refreshed_with names r (take (length (texts_of (cond b (messages_of 0 rs) (message_of 0 r ∷ messages_of 0 rs)))) infos) (refreshed names rs))
        ++ map new_record (records_at (drop (length (texts_of (cond b (messages_of 0 rs) (message_of 0 r ∷ messages_of 0 rs)))) infos) more)
    step true infos same later = ap (λ l. r ∷ l) (later infos same)
    step false [] same later = absurd (omega (arith, same))
    step false (i ∷ infos) same later = ap (λ l. written_record (hidden_words names r) (other_bits r) (record_at i (map clean_byte r.text)) ∷ l) (later infos (omega (arith, same)))

-- ---- Records one behind the other

texts_join : (xs ys : List FileRecord) → records_text (xs ++ ys) ≡ records_text xs ++ records_text ys
texts_join [] ys = refl
texts_join (x ∷ xs) ys = ap (λ l. record_text x ++ l) (texts_join xs ys) ∙ sym (append_assoc (record_text x) (records_text xs) (records_text ys))

places_join : (at : ℕ) (xs ys : List FileRecord) → places_from at (xs ++ ys) ≡ places_from at xs ++ places_from (at + length (records_text xs)) ys
places_join at [] ys = let same : at ≡ at + 0 = omega arith in ap (λ n. places_from n ys) same
places_join at (x ∷ xs) ys =
    let same : at + length (record_text x) + length (records_text xs) ≡ at + length (record_text x ++ records_text xs) = omega (arith, length-append (record_text x) (records_text xs)) in
    ap (λ l. place_at at x ∷ l) (places_join (at + length (record_text x)) xs ys ∙ ap (λ n. places_from (at + length (record_text x)) xs ++ places_from n ys) same)

front_named : (names n : ℕ) (infos : List Info) → AllByRecursion (IsNamed names) infos → AllByRecursion (IsNamed names) (take n infos)
front_named names zero infos all = tt
front_named names (suc n) [] all = tt
front_named names (suc n) (i ∷ infos) all = (all.0, front_named names n infos all.1)

rest_named : (names n : ℕ) (infos : List Info) → AllByRecursion (IsNamed names) infos → AllByRecursion (IsNamed names) (drop n infos)
rest_named names zero infos all = all
rest_named names (suc n) [] all = tt
rest_named names (suc n) (i ∷ infos) all = rest_named names n infos all.1

-- what is planned over records that stand at their places
pub record IsOver (names : ℕ) (bytes : List ℕ) (ps : List MbxPlace) (infos : List Info) (news : List NewMessage) (over : List FileRecord) : Type 0 where
  pub bytes_are : pieces_bytes bytes (left_pieces names 2048 ps (old_infos infos news))
      ++ added_bytes (added_pieces names (end_from 2048 (left_pieces names 2048 ps (old_infos infos news))) (new_infos infos news) news) news ≡ records_text over
  pub places_are : places_in (left_pieces names 2048 ps (old_infos infos news))
      ++ places_in (added_pieces names (end_from 2048 (left_pieces names 2048 ps (old_infos infos news))) (new_infos infos news) news) ≡ places_from 2048 over
  pub long_is : planned_long names ps infos news ≡ 2048 + length (records_text over)

new_count : (news : List NewMessage) → length (new_texts (keeps_of Mbx) news) ≡ length news
new_count [] = refl
new_count (n ∷ news) = ap suc (new_count news)

pub planned_over : (names : ℕ) (bytes : List ℕ) (ps : List MbxPlace) (rs : List FileRecord) (infos : List Info) (news : List NewMessage) → AreAt bytes ps rs → AllByRecursion (IsNamed names) infos
    → length infos ≡ length (texts_in_records rs) + length news → IsOver names bytes ps infos news (over_records names rs (records_at infos (texts_in_records rs ++ new_texts (keeps_of Mbx) news)))
planned_over names bytes ps rs infos news stand all count =
    let k = length (texts_in_records rs) in
    let cut : length infos - length news ≡ k = omega (arith, count) in
    let olds = old_infos infos news in
    let nexts = new_infos infos news in
    let one = left_are names bytes 2048 ps rs olds stand (front_named names (length infos - length news) infos all) in
    let end = end_from 2048 (left_pieces names 2048 ps olds) in
    let two = added_are names end nexts news (omega (arith, length-drop (length infos - length news) infos, count)) (rest_named names (length infos - length news) infos all) in
    let first = refreshed names rs olds in
    let last = map new_record (records_at nexts (new_texts (keeps_of Mbx) news)) in
    let whole : over_records names rs (records_at infos (texts_in_records rs ++ new_texts (keeps_of Mbx) news)) ≡ first ++ last =
    over_split names rs infos (new_texts (keeps_of Mbx) news) (omega (arith, count, new_count news))
    ∙ sym (ap (λ n. refreshed names rs (take n infos) ++ map new_record (records_at (drop n infos) (new_texts (keeps_of Mbx) news))) cut) in
    subst (IsOver names bytes ps infos news) (sym whole) (record {
      bytes_are = ap (λ l. l ++ added_bytes (added_pieces names end nexts news) news) one.bytes_are ∙ ap (λ l. records_text first ++ l) two.bytes_are ∙ sym (texts_join first last);
      places_are = ap (λ l. l ++ places_in (added_pieces names end nexts news)) one.places_are ∙ ap (λ l. places_from 2048 first ++ l) two.places_are ∙ ap (λ n. places_from 2048 first ++ places_from n last) one.end_is ∙ sym (places_join 2048 first last);
      long_is = omega (arith, two.end_is, one.end_is, ap length (texts_join first last), length-append (records_text first) (records_text last));
    })

-- ---- The whole file

all_named : (names : ℕ) (infos : List Info) (texts : List (List ℕ)) → length texts ≡ length infos → AllByRecursion (λ r. named names r ≡ r) (records_at infos texts) → AllByRecursion (IsNamed names) infos
all_named names [] texts same all = tt
all_named names (i ∷ infos) [] same all = absurd (omega (arith, same))
all_named names (i ∷ infos) (t ∷ texts) same all = (ap (λ (r : Record). r.words) all.0, all_named names infos texts (omega (arith, same)) all.1)

pub record IsAfter (bytes after : List ℕ) (prior : Mailbox) (change : Change) (places : List MbxPlace) : Type 0 where
  pub is : after ≡ mbx_rewritten bytes prior change
  pub places_stand : HasPlaces places after

pub after_is : (told next : ToldState) (bytes after : List ℕ) (places new_places : List MbxPlace) (names : ℕ) (change : Change) (p : Plan) → next ≡ changed_summary (keeps_of Mbx) told change → names ≡ length next.words
    → HasPlaces places bytes → IsTold Mbx own_form told bytes → CanChange (keeps_of Mbx) told.words (length told.infos) change → told_due (keeps_of Mbx) told change ≡ None → AllByRecursion IsKeyword (words_after told.words change)
    → IsPlan names (chosen_places names change (left_places change places) next.infos) next.infos (added_by change) p
    → new_places ≡ places_in p.left.items ++ places_in p.added.items
    → after ≡ (header_text (record { validity = next.validity; last = next.last; words = next.words }) ++ pieces_bytes bytes p.left.items) ++ added_bytes p.added.items (added_by change)
    → IsAfter bytes after (mailbox_in own_form told bytes) change new_places
after_is told next bytes after places new_places names change p next_is names_are has is can none keywords plan places_made bytes_made =
    let prior = mailbox_in own_form told bytes in
    let m = changed_mailbox (keeps_of Mbx) prior change in
    let news = added_by change in
    let infos = next.infos in
    let rs = left_records change has.file.records in
    let texts = texts_in_records rs ++ new_texts (keeps_of Mbx) news in
    let spell = can_next told bytes change is can none keywords in
    let read = file_read bytes has.file has.reads in
    let wide : 2048 ≤ length bytes = omega (arith, (file_is bytes has.file has.reads).long) in
    let all_at : AreAt bytes places has.file.records = subst (λ ps. AreAt bytes ps has.file.records) (sym has.places_are) (are_at bytes 2048 has.file.records read.are wide read.text) in
    let stand : AreAt bytes (left_places change places) rs = left_at bytes change places has.file.records all_at in
    let own : own_form.texts bytes ≡ texts_in_records has.file.records = texts_in bytes has.file has.reads ∙ same_texts (length has.file.header.words) has.file.records in
    let sized = sized_after (keeps_of Mbx) told (own_form.texts bytes) change is.sized in
    let texts_are : changed_texts (keeps_of Mbx) (own_form.texts bytes) change ≡ texts = ap (λ t. changed_texts (keeps_of Mbx) t change) own ∙ left_texts change has.file.records in
    let m_is : m ≡ mailbox_at next texts =
    changed_at (keeps_of Mbx) refl told (own_form.texts bytes) change (texts_count told.infos (own_form.texts bytes) is.sized)
    ∙ ap (λ s. mailbox_at s (changed_texts (keeps_of Mbx) (own_form.texts bytes) change)) (sym next_is) ∙ ap (mailbox_at next) texts_are in
    let count : length texts ≡ length infos =
    ap (λ t. length t) (sym texts_are) ∙ texts_count _ _ sized ∙ ap (λ (s : ToldState). length s.infos) (sym next_is) in
    let spell_next : CanSpell Mbx (mailbox_at next texts) = subst (CanSpell Mbx) m_is spell in
    let named_all : AllByRecursion (IsNamed names) infos = subst (λ n. AllByRecursion (IsNamed n) infos) (sym names_are) (all_named (length next.words) infos texts count spell_next.named) in
    let enough : length infos ≡ length (texts_in_records rs) + length news = omega (arith, count, length-append (texts_in_records rs) (new_texts (keeps_of Mbx) news), new_count news) in
    let over : List FileRecord → List FileRecord = λ olds. over_records names olds (records_at infos texts) in
    let header = header_text (header_for (mailbox_at next texts)) in
    let header_wide : length header ≡ 2048 = keywords_long (header_for (mailbox_at next texts)) spell_next.names in
    let whole : IsOver names bytes (left_places change places) infos news (over rs) = planned_over names bytes (left_places change places) rs infos news stand named_all enough in
    let fewer : IsOver names bytes (unmarked_places (left_places change places)) infos news (over (unmarked_records rs)) =
    subst (λ t. IsOver names bytes (unmarked_places (left_places change places)) infos news (over_records names (unmarked_records rs) (records_at infos (t ++ new_texts (keeps_of Mbx) news)))) (unmarked_texts rs)
    (planned_over names bytes (unmarked_places (left_places change places)) (unmarked_records rs) infos news (unmarked_at bytes (left_places change places) rs stand) named_all
    (enough ∙ ap (λ t. length t + length news) (sym (unmarked_texts rs)))) in
    let full : planned_long names (left_places change places) infos news ≡ length (header ++ records_text (over rs)) = whole.long_is ∙ omega (arith, header_wide, length-append header (records_text (over rs))) in
    let test : (is_append change && nat_lt file_limit (planned_long names (left_places change places) infos news)) ≡ (is_append change && nat_lt file_limit (length (header ++ records_text (over rs)))) = ap (λ n. is_append change && nat_lt file_limit n) full in
    let rewritten : mbx_rewritten bytes prior change ≡ cond (is_append change && nat_lt file_limit (length (header ++ records_text (over rs)))) (header ++ records_text (over (unmarked_records rs))) (header ++ records_text (over rs)) =
    ap (λ f. written_within change (left_records change (records_in f)) m) has.reads ∙ ap (written_within change rs) m_is
    ∙ ap (λ n. cond (is_append change && nat_lt file_limit (length (header ++ records_text (over_records n rs (records_at infos texts))))) (header ++ records_text (over_records n (unmarked_records rs) (records_at infos texts))) (header ++ records_text (over_records n rs (records_at infos texts)))) (sym names_are) in
    pick rs texts (is_append change && nat_lt file_limit (length (header ++ records_text (over rs)))) spell_next (are_records bytes (left_places change places) rs stand) whole fewer
    (is_append change && nat_lt file_limit (planned_long names (left_places change places) infos news)) refl (sym test) rewritten
  where
    done : (ps : List MbxPlace) (olds : List FileRecord) (texts : List (List ℕ)) → CanSpell Mbx (mailbox_at next texts) → AllByRecursion IsRecord olds
        → IsOver names bytes ps next.infos (added_by change) (over_records names olds (records_at next.infos texts)) → IsPlan names ps next.infos (added_by change) p
        → mbx_rewritten bytes (mailbox_in own_form told bytes) change ≡ header_text (header_for (mailbox_at next texts)) ++ records_text (over_records names olds (records_at next.infos texts))
        → IsAfter bytes after (mailbox_in own_form told bytes) change new_places
    done ps olds texts spell are over_is plan_is rewritten =
        let header = header_text (header_for (mailbox_at next texts)) in
        let over = over_records names olds (records_at next.infos texts) in
        let made : after ≡ header ++ records_text over =
        bytes_made ∙ append_assoc header (pieces_bytes bytes p.left.items) (added_bytes p.added.items (added_by change))
        ∙ ap (λ q. header ++ (pieces_bytes bytes q ++ added_bytes p.added.items (added_by change))) plan_is.left_is
        ∙ ap (λ q. header ++ (pieces_bytes bytes (left_pieces names 2048 ps (old_infos next.infos (added_by change))) ++ added_bytes q (added_by change))) plan_is.added_is
        ∙ ap (λ l. header ++ l) over_is.bytes_are in
        let stand : new_places ≡ places_from 2048 over =
        places_made ∙ ap (λ q. places_in q ++ places_in p.added.items) plan_is.left_is
        ∙ ap (λ q. places_in (left_pieces names 2048 ps (old_infos next.infos (added_by change))) ++ places_in q) plan_is.added_is ∙ over_is.places_are in
        let records : AllByRecursion IsRecord over =
        subst (λ n. AllByRecursion IsRecord (over_records n olds (records_at next.infos texts))) (sym names_are) (over_are (length next.words) spell.few olds (records_at next.infos texts) are (can_stand (mailbox_at next texts) spell)) in
        record {
          is = made ∙ sym rewritten;
          places_stand = record {
            file = record { header = header_for (mailbox_at next texts); records = over };
            reads = ap file_of made ∙ file_back (header_for (mailbox_at next texts)) over (can_stand_header (mailbox_at next texts) spell) records;
            places_are = stand;
          };
        }

    pick : (rs : List FileRecord) (texts : List (List ℕ)) (test : Bool) → CanSpell Mbx (mailbox_at next texts) → AllByRecursion IsRecord rs
        → IsOver names bytes (left_places change places) next.infos (added_by change) (over_records names rs (records_at next.infos texts))
        → IsOver names bytes (unmarked_places (left_places change places)) next.infos (added_by change) (over_records names (unmarked_records rs) (records_at next.infos texts))
        → (b : Bool) → (is_append change && nat_lt file_limit (planned_long names (left_places change places) next.infos (added_by change))) ≡ b → test ≡ b
        → mbx_rewritten bytes (mailbox_in own_form told bytes) change
        ≡ cond test (header_text (header_for (mailbox_at next texts)) ++ records_text (over_records names (unmarked_records rs) (records_at next.infos texts)))
        (header_text (header_for (mailbox_at next texts)) ++ records_text (over_records names rs (records_at next.infos texts)))
        → IsAfter bytes after (mailbox_in own_form told bytes) change new_places
    pick rs texts test spell are whole fewer true planned written rewritten =
        done (unmarked_places (left_places change places)) (unmarked_records rs) texts spell (unmarked_are rs are) fewer
        (subst (λ t. IsPlan names (cond t (unmarked_places (left_places change places)) (left_places change places)) next.infos (added_by change) p) planned plan)
        (rewritten ∙ ap (λ t. cond t (header_text (header_for (mailbox_at next texts)) ++ records_text (over_records names (unmarked_records rs) (records_at next.infos texts))) (header_text (header_for (mailbox_at next texts)) ++ records_text (over_records names rs (records_at next.infos texts)))) written)
    pick rs texts test spell are whole fewer false planned written rewritten =
        done (left_places change places) rs texts spell are whole
        (subst (λ t. IsPlan names (cond t (unmarked_places (left_places change places)) (left_places change places)) next.infos (added_by change) p) planned plan)
        (rewritten ∙ ap (λ t. cond t (header_text (header_for (mailbox_at next texts)) ++ records_text (over_records names (unmarked_records rs) (records_at next.infos texts))) (header_text (header_for (mailbox_at next texts)) ++ records_text (over_records names rs (records_at next.infos texts)))) written)
