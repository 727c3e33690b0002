-- The texts of messages stand where the places say.
use Rattle.std.proofs.Common.{◌≡◌, ◌≤◌, ◌<◌, ◌+◌, ℕ, zero, suc, Bool, true, false, cond, List, [], ◌∷◌, ◌++◌, length, length-append, map, take, drop, get_or, slice_get, Some, refl, sym, ap, ◌∙◌, subst, arith, append_assoc}
use Rattle.std.specs.List.{AllByRecursion}
use Rattle.std.specs.Prelude.{Result, Ok, Err, IfOk}
use Rattle.file_model.specs.Disk.{seen}
use Rattle.file_model.specs.Histories.{History, Now}
use Rattle.file_model.specs.Images.{Image, Node, nothing, file, directory, node_at, bytes_of, bytes_at}
use Rattle.file_model.proofs.Runs.{now_weaker, now_both}
use Rattle.store_trait.specs.declared.faults.StoreFault.{StoreFault}
use Rattle.file_store.specs.Scans.{OfFile}
use Rattle.std.proofs.lemmas.List.{length-drop, drop-drop, length-map}
use Rattle.std.proofs.lemmas.Option.{same_Some}
use Rattle.mail_types.specs.declared.driver.Driver.TheVariants.{Mbx}
use Rattle.mail_types.specs.Flags.{has_bit}
use Rattle.store_trait.specs.declared.store.Info.{Info}
use Rattle.store_trait.specs.Views.{size_in, text_in, size_at, text_at}
use Rattle.store_index.specs.States.{ToldState, told_as}
use Rattle.store_index.specs.Told.{records_at}
use Rattle.text_forms.specs.Lines.{clean_byte}
use Rattle.file_store.specs.Forms.{texts_of}
use Rattle.file_store.specs.Places.{read_byte, HasSpan}
use Rattle.file_store.specs.Standing.{IsSizedBy, IsTold, StandsOn, mailbox_in}
use Rattle.mbx_form.specs.Form.{MbxFile, file_of}
use Rattle.mbx_form.specs.Header.{header_of}
use Rattle.mbx_form.specs.Heads.{head_text}
use Rattle.mbx_form.proofs.Files.{file_is}
use Rattle.mbx_form.specs.Records.{FileRecord, record_text, records_text, message_of, messages_of, records_of}
use Rattle.mbx_form.proofs.Records.{IsRecord, records_are}
use Rattle.mbx_form.proofs.Steps.{then_some, take_front, drop_front}
use Rattle.mbx_store.specs.declared.place.MbxPlace.{MbxPlace}
use Rattle.mbx_store.specs.Places.{places_from, starts_of, HasPlaces}
use Rattle.mbx_store.specs.Texts.{TextStands}
use Rattle.mbx_store.proofs.Scanned.{own_form, texts_in}

-- ---- A file that is read

pub record IsReadFile (bytes : List ℕ) (rs : List FileRecord) : Type 0 where
  pub are : AllByRecursion IsRecord rs
  pub text : drop 2048 bytes ≡ records_text rs

pub file_read : (bytes : List ℕ) (own : MbxFile) → file_of bytes ≡ Some own → IsReadFile bytes own.records
file_read bytes own is =
    let header = then_some (header_of (take 2048 bytes)) _ own is in
    let records = then_some (records_of (length bytes) (drop 2048 bytes)) _ own header.later in
    let read = records_are (length bytes) (drop 2048 bytes) records.value records.is in
    subst (λ (f : MbxFile). IsReadFile bytes f.records) (same_Some _ _ records.later) (record { are = read.records_are; text = read.text_is })

-- ---- Where texts stand

-- texts stand in a file from these bytes on
abbrev pub TextsStand : List ℕ → List ℕ → List (List ℕ) → Type 0
TextsStand bytes [] [] = Unit {0}
TextsStand bytes [] (t ∷ texts) = ⊥
TextsStand bytes (s ∷ starts) [] = ⊥
TextsStand bytes (s ∷ starts) (t ∷ texts) = (s + length t ≤ length bytes) × (map read_byte (take (length t) (drop s bytes)) ≡ t) × TextsStand bytes starts texts

-- a record, and what stands behind it
pub record IsSplit (bytes : List ℕ) (at : ℕ) (r : FileRecord) (rest : List ℕ) : Type 0 where
  pub text : drop (at + length (head_text r.pieces)) bytes ≡ r.text ++ rest
  pub behind : drop (at + length (record_text r)) bytes ≡ rest
  pub within : at + length (record_text r) ≤ length bytes

pub split_at : (bytes : List ℕ) (at : ℕ) (r : FileRecord) (rest : List ℕ) → at ≤ length bytes → drop at bytes ≡ record_text r ++ rest → IsSplit bytes at r rest
split_at bytes at r rest inside is = record {
  text = sym (drop-drop (length (head_text r.pieces)) at bytes) ∙ ap (drop (length (head_text r.pieces))) (is ∙ append_assoc (head_text r.pieces) r.text rest) ∙ drop_front (head_text r.pieces) (r.text ++ rest) (length (head_text r.pieces)) refl;
  behind = sym (drop-drop (length (record_text r)) at bytes) ∙ ap (drop (length (record_text r))) is ∙ drop_front (record_text r) rest (length (record_text r)) refl;
  within = omega (arith, inside, ap length is, length-append (record_text r) rest, length-drop at bytes);
}

texts_stand : (names : ℕ) (bytes : List ℕ) (at : ℕ) (rs : List FileRecord) → AllByRecursion IsRecord rs → at ≤ length bytes → drop at bytes ≡ records_text rs → TextsStand bytes (starts_of (places_from at rs)) (texts_of (messages_of names rs))
texts_stand names bytes at [] are inside is = tt
texts_stand names bytes at (r ∷ rs) are inside is = step (has_bit 32768 r.head.bits) (texts_stand names bytes (at + length (record_text r)) rs are.1 split.within split.behind)
  where
    split : IsSplit bytes at r (records_text rs)
    split = split_at bytes at r (records_text rs) inside is

    start : ℕ
    start = at + length (head_text r.pieces)

    same : length (map clean_byte r.text) ≡ length r.text
    same = length-map r.text clean_byte

    here : start + length (map clean_byte r.text) ≤ length bytes
    here = omega (arith, split.within, same, length-append (head_text r.pieces) r.text)

    text : map read_byte (take (length (map clean_byte r.text)) (drop start bytes)) ≡ map clean_byte r.text
    text = ap (λ l. map read_byte (take (length (map clean_byte r.text)) l)) split.text ∙ ap (map read_byte) (take_front r.text (records_text rs) (length (map clean_byte r.text)) (sym same))

    step : (b : Bool) → TextsStand bytes (starts_of (places_from (at + length (record_text r)) rs)) (texts_of (messages_of names rs))
        → TextsStand bytes (cond b [] (start ∷ []) ++ starts_of (places_from (at + length (record_text r)) rs)) (texts_of (cond b (messages_of names rs) (message_of names r ∷ messages_of names rs)))
    step true later = later
    step false later = (here, text, later)

-- ---- By places

at_place : (bytes : List ℕ) (infos : List Info) (texts : List (List ℕ)) (starts : List ℕ) → IsSizedBy infos texts → TextsStand bytes starts texts → (k : ℕ) → k < length infos
    → TextStands bytes (get_or starts k 0) (size_in (slice_get infos k)) (text_in (slice_get (records_at infos texts) k))
at_place bytes [] texts starts sized stand k below = absurd (omega (arith, below))
at_place bytes (i ∷ infos) [] starts sized stand k below = absurd (cc)
at_place bytes (i ∷ infos) (t ∷ texts) [] sized stand k below = absurd stand
at_place bytes (i ∷ infos) (t ∷ texts) (s ∷ starts) sized stand zero below =
    let size : i.size ≡ length t = cc in
    record { within = omega (arith, size, stand.0); is = ap (λ n. map read_byte (take n (drop s bytes))) size ∙ stand.1 }
at_place bytes (i ∷ infos) (t ∷ texts) (s ∷ starts) sized stand (suc k) below =
    let rest : IsSizedBy infos texts = cc in
    at_place bytes infos texts starts rest stand.2 k (omega (arith, below))

pub text_there : (bytes : List ℕ) (places : List MbxPlace) (told : ToldState) (k : ℕ) → HasPlaces places bytes → IsTold Mbx own_form told bytes → k < length told.infos
    → TextStands bytes (get_or (starts_of places) k 0) (size_at (told_as told) k) (text_at (mailbox_in own_form told bytes) k)
text_there bytes places told k has is below =
    let wide : 2048 ≤ length bytes = omega (arith, (file_is bytes has.file has.reads).long) in
    let read = file_read bytes has.file has.reads in
    let names = length has.file.header.words in
    let stand = texts_stand names bytes 2048 has.file.records read.are wide read.text in
    at_place bytes told.infos (own_form.texts bytes) (starts_of places) is.sized
    (subst (TextsStand bytes (starts_of places)) (sym (texts_in bytes has.file has.reads)) (subst (λ p. TextsStand bytes (starts_of p) (texts_of (messages_of names has.file.records))) (sym has.places_are) stand)) k below

-- ---- On a host that tells

node_of : (n : Node) (bytes : List ℕ) → bytes_of n ≡ Some bytes → n ≡ file bytes
node_of nothing bytes is = absurd (cc)
node_of (file own) bytes is = ap file (same_Some _ _ is)
node_of directory bytes is = absurd (cc)

-- a file that is long enough
pub span_there : (path bytes : List ℕ) (long : ℕ) (image : Image) → bytes_at image path ≡ Some bytes → long ≤ length bytes → HasSpan path long image
span_there path bytes long image has fits = (bytes, node_of (node_at image path) bytes has, fits)

pub text_span : (path : List ℕ) (places : List MbxPlace) (told : ToldState) (k start size : ℕ) (h : History) → k < length told.infos → start ≡ get_or (starts_of places) k 0 → size ≡ size_at (told_as told) k
    → Now h (λ w. StandsOn Mbx own_form (λ bytes. HasPlaces places bytes) path told (seen w.disk)) → Now h (λ w. HasSpan path (start + size) (seen w.disk))
text_span path places told k start size h below begins long stands = now_weaker _ _ (λ w here.
    let there = text_there here.bytes places told k here.places here.is below in
    span_there path here.bytes (start + size) (seen w.disk) here.has (omega (arith, there.within, begins, long))) h stands

if_ok : {A E : Type 0} (P Q : A → Type 0) → ((a : A) → P a → Q a) → (result : Result A E) → IfOk result P → IfOk result Q
if_ok P Q on (Ok a) is = on a is
if_ok P Q on (Err e) is = tt

pub text_bytes : (path : List ℕ) (places : List MbxPlace) (told : ToldState) (k start size from : ℕ) (shown : List ℕ) (result : Result ℕ StoreFault) (h : History) → k < length told.infos → start ≡ get_or (starts_of places) k 0 → size ≡ size_at (told_as told) k
    → Now h (λ w. StandsOn Mbx own_form (λ bytes. HasPlaces places bytes) path told (seen w.disk))
    → IfOk result (λ n. OfFile h path (λ bytes. take n shown ≡ take n (drop from (map read_byte (take size (drop start bytes))))))
    → IfOk result (λ n. OfFile h path (λ bytes. take n shown ≡ take n (drop from (text_at (mailbox_in own_form told bytes) k))))
text_bytes path places told k start size from shown result h below begins long stands read = if_ok _ _ (λ n is.
    now_weaker _ _ (λ w both bytes has.
    let here = both.0 in
    let same : here.bytes ≡ bytes = same_Some _ _ (sym here.has ∙ has) in
    let there = subst (λ b. TextStands b (get_or (starts_of places) k 0) (size_at (told_as told) k) (text_at (mailbox_in own_form told b) k)) same (text_there here.bytes places told k here.places here.is below) in
    both.1 bytes has ∙ ap (λ s. take n (drop from (map read_byte (take size (drop s bytes))))) begins ∙ ap (λ z. take n (drop from (map read_byte (take z (drop (get_or (starts_of places) k 0) bytes))))) long
    ∙ ap (λ t. take n (drop from t)) there.is) h (now_both _ _ h stands is)) result read
