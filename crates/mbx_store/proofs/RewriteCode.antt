-- A change as the code makes it.
use Rattle.std.proofs.Common.{◌≡◌, ◌≤◌, ◌+◌, ℕ, List, [], ◌∷◌, ◌++◌, length, Some, None, refl, sym, ap, ◌∙◌, subst, arith}
use Rattle.std.specs.List.{AllByRecursion}
use Rattle.std.proofs.lemmas.Option.{same_Some}
use Rattle.file_model.specs.Disk.{seen}
use Rattle.file_model.specs.Histories.{History, Now}
use Rattle.file_model.specs.Images.{Image, bytes_at}
use Rattle.file_model.proofs.Runs.{now_weaker, now_both}
use Rattle.mail_fields.specs.Keyword.{IsKeyword}
use Rattle.mail_types.specs.declared.driver.Driver.TheVariants.{Mbx}
use Rattle.mail_types.specs.declared.driver.Keeps.{Keeps}
use Rattle.mail_types.specs.declared.mailbox.Mailbox.{Mailbox}
use Rattle.mail_types.specs.Drivers.{keeps_of}
use Rattle.store_trait.specs.declared.change.Change.{Change}
use Rattle.store_trait.specs.declared.change.Change.TheVariants.{Append, SetFlags, Expunge}
use Rattle.store_trait.specs.declared.store.Info.{Info}
use Rattle.store_trait.specs.Changes.{CanChange, changed_mailbox, words_after}
use Rattle.store_index.specs.States.{ToldState}
use Rattle.store_index.specs.Steps.{told_due}
use Rattle.store_index.specs.Told.{changed_summary}
use Rattle.file_store.specs.Places.{HasSpan}
use Rattle.file_store.specs.Scans.{OfFile, IsRewritten}
use Rattle.file_store.specs.Standing.{IsTold, StandsOn, mailbox_in}
use Rattle.mbx_form.specs.Header.{header_text}
use Rattle.mbx_form.proofs.Files.{file_is}
use Rattle.mbx_store.specs.declared.place.MbxPlace.{MbxPlace}
use Rattle.mbx_store.specs.declared.plan.Piece.{Piece}
use Rattle.mbx_store.specs.declared.plan.Plan.{Plan}
use Rattle.mbx_store.specs.Bytes.{span_of, SpanEndsBy, pieces_bytes, added_bytes, places_in}
use Rattle.mbx_store.specs.Places.{HasPlaces, EndsBy}
use Rattle.mbx_store.specs.Plans.{added_by, left_places, chosen_places, IsPlan}
use Rattle.mbx_store.proofs.At.{are_at, ends_at}
use Rattle.mbx_store.proofs.Planned.{plan_spans}
use Rattle.mbx_store.proofs.Rewritten.{can_next, after_is}
use Rattle.mbx_store.proofs.Scanned.{own_form}
use Rattle.mbx_store.proofs.Texts.{file_read, span_there}

-- ---- What is read

-- all records end within the file
pub records_end : (places : List MbxPlace) (bytes : List ℕ) → HasPlaces places bytes → AllByRecursion (EndsBy (length bytes)) places
records_end places bytes has =
    let read = file_read bytes has.file has.reads in
    let wide : 2048 ≤ length bytes = omega (arith, (file_is bytes has.file has.reads).long) in
    subst (AllByRecursion (EndsBy (length bytes))) (sym has.places_are) (ends_at bytes _ has.file.records (are_at bytes 2048 has.file.records read.are wide read.text))

spans_there : (path bytes : List ℕ) (image : Image) (qs : List Piece) → bytes_at image path ≡ Some bytes → AllByRecursion (SpanEndsBy (length bytes)) qs → AllByRecursion (λ q. HasSpan path (q.from + span_of q) image) qs
spans_there path bytes image [] has all = tt
spans_there path bytes image (q ∷ qs) has all = (span_there path bytes (q.from + span_of q) image has all.0, spans_there path bytes image qs has all.1)

pub spans_now : (path : List ℕ) (places : List MbxPlace) (told : ToldState) (names : ℕ) (change : Change) (infos : List Info) (p : Plan) (h : History) → Now h (λ w. StandsOn Mbx own_form (λ bytes. HasPlaces places bytes) path told (seen w.disk))
    → IsPlan names (chosen_places names change (left_places change places) infos) infos (added_by change) p → Now h (λ w. AllByRecursion (λ q. HasSpan path (q.from + span_of q) (seen w.disk)) p.left.items)
spans_now path places told names change infos p h stands is = now_weaker _ _ (λ w here.
    spans_there path here.bytes (seen w.disk) p.left.items here.has (plan_spans (length here.bytes) names change places infos p (records_end places here.bytes here.places) is)) h stands

-- ---- What is written

words_next : (keeps : Keeps) (told : ToldState) (change : Change) → (changed_summary keeps told change).words ≡ words_after told.words change
words_next keeps told (Append new words) = refl
words_next keeps told (SetFlags changes words) = refl
words_next keeps told (Expunge places) = refl

words_changed : (keeps : Keeps) (m : Mailbox) (change : Change) → (changed_mailbox keeps m change).words ≡ words_after m.words change
words_changed keeps m (Append new words) = refl
words_changed keeps m (SetFlags changes words) = refl
words_changed keeps m (Expunge places) = refl

rewritten_is : (told next : ToldState) (bytes after : List ℕ) (places new_places : List MbxPlace) (names : ℕ) (words : List (List ℕ)) (change : Change) (p : Plan) → next ≡ changed_summary (keeps_of Mbx) told change → AllByRecursion IsKeyword next.words
    → (length next.words ≤ 30 → words ≡ next.words) → names ≡ length words → HasPlaces places bytes → IsTold Mbx own_form told bytes → CanChange (keeps_of Mbx) told.words (length told.infos) change → told_due (keeps_of Mbx) told change ≡ None
    → IsPlan names (chosen_places names change (left_places change places) next.infos) next.infos (added_by change) p → new_places ≡ places_in p.left.items ++ places_in p.added.items
    → after ≡ (header_text (record { validity = next.validity; last = next.last; words = words }) ++ pieces_bytes bytes p.left.items) ++ added_bytes p.added.items (added_by change)
    → IsRewritten own_form told change bytes after (HasPlaces new_places)
rewritten_is told next bytes after places new_places names words change p next_is keywords all count has is can none plan stand made =
    let same : next.words ≡ words_after told.words change = ap (λ (s : ToldState). s.words) next_is ∙ words_next (keeps_of Mbx) told change in
    let names_are : AllByRecursion IsKeyword (words_after told.words change) = subst (AllByRecursion IsKeyword) same keywords in
    let spell = can_next told bytes change is can none names_are in
    let few : length next.words ≤ 30 = omega (arith, spell.few, ap length (words_changed (keeps_of Mbx) (mailbox_in own_form told bytes) change), ap length same) in
    let whole : words ≡ next.words = all few in
    let done = after_is told next bytes after places new_places names change p next_is (count ∙ ap (λ l. length l) whole) has is can none names_are plan stand
    (made ∙ ap (λ l. (header_text (record { validity = next.validity; last = next.last; words = l }) ++ pieces_bytes bytes p.left.items) ++ added_bytes p.added.items (added_by change)) whole) in
    record { is = done.is; places = done.places_stand }

pub rewritten_now : (path : List ℕ) (told next : ToldState) (after : List ℕ) (places new_places : List MbxPlace) (names : ℕ) (words : List (List ℕ)) (change : Change) (p : Plan) (news : List _) (h : History) → next ≡ changed_summary (keeps_of Mbx) told change
    → AllByRecursion IsKeyword next.words → (length next.words ≤ 30 → words ≡ next.words) → names ≡ length words → news ≡ added_by change → CanChange (keeps_of Mbx) told.words (length told.infos) change → told_due (keeps_of Mbx) told change ≡ None
    → IsPlan names (chosen_places names change (left_places change places) next.infos) next.infos (added_by change) p → new_places ≡ places_in p.left.items ++ places_in p.added.items
    → Now h (λ w. StandsOn Mbx own_form (λ bytes. HasPlaces places bytes) path told (seen w.disk))
    → OfFile h path (λ bytes. after ≡ (header_text (record { validity = next.validity; last = next.last; words = words }) ++ pieces_bytes bytes p.left.items) ++ added_bytes p.added.items news)
    → OfFile h path (λ bytes. IsRewritten own_form told change bytes after (HasPlaces new_places))
rewritten_now path told next after places new_places names words change p news h next_is keywords all count news_are can none plan stand stands made = now_weaker _ _ (λ w both bytes has.
    let here = both.0 in
    let same : here.bytes ≡ bytes = same_Some _ _ (sym here.has ∙ has) in
    rewritten_is told next bytes after places new_places names words change p next_is keywords all count (subst (HasPlaces places) same here.places) (subst (IsTold Mbx own_form told) same here.is) can none plan stand
    (both.1 bytes has ∙ ap (λ n. (header_text (record { validity = next.validity; last = next.last; words = words }) ++ pieces_bytes bytes p.left.items) ++ added_bytes p.added.items n) news_are)) h (now_both _ _ h stands made)
