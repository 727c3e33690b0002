-- How long a file is that is written from nothing, and the file of a new mailbox.
use Rattle.std.proofs.Common.{◌≡◌, ◌≤◌, ◌<◌, ◌+◌, ℕ, List, [], ◌∷◌, length, length-append, map, drop, get_or, refl, sym, ap, ◌∙◌, subst, arith, append-nil}
use Rattle.std.specs.List.{AllByRecursion}
use Rattle.std.proofs.lemmas.List.{drop_more}
use Rattle.mail_fields.specs.Keyword.{IsKeyword}
use Rattle.mail_types.specs.declared.driver.Driver.TheVariants.{Mbx}
use Rattle.mail_types.specs.declared.mailbox.Mailbox.{Mailbox}
use Rattle.mail_types.specs.Drivers.{keeps_of}
use Rattle.mail_types.specs.Limits.{file_limit}
use Rattle.store_trait.specs.declared.change.Change.{Change}
use Rattle.store_trait.specs.declared.store.Info.{Info}
use Rattle.store_index.specs.States.{ToldState}
use Rattle.store_index.specs.Told.{records_at, mailbox_at, changed_summary, changed_texts}
use Rattle.store_index.proofs.ToldChanges.{changed_at}
use Rattle.file_store.specs.Standing.{IsSizedBy, IsTold, changed_length}
use Rattle.file_store.proofs.Sizing.{sized_after, texts_count, texts_at}
use Rattle.mbx_form.specs.declared.header.MbxHeader.{MbxHeader}
use Rattle.mbx_form.specs.Form.{file_of, header_for, mbx_written}
use Rattle.mbx_form.specs.Header.{header_text}
use Rattle.mbx_form.specs.Records.{records_text, new_record}
use Rattle.mbx_form.proofs.Files.{file_back}
use Rattle.mbx_form.proofs.Headers.{keywords_long}
use Rattle.mbx_form.proofs.Lengths.{texts_of, texts_size, new_size}
use Rattle.mbx_store.specs.declared.place.MbxPlace.{MbxPlace}
use Rattle.mbx_store.specs.Places.{HasPlaces}
use Rattle.mbx_store.specs.Plans.{head_width, infos_size}
use Rattle.mbx_store.proofs.Scanned.{own_form}

-- ---- Lengths

pub one_size : (long done add all : ℕ) (infos : List Info) (i : ℕ) (other : Info) → i < length infos → add ≡ head_width (get_or infos i other).size + (get_or infos i other).size → done ≡ long + add → long + infos_size (drop i infos) ≡ all → done + infos_size (drop (i + 1) infos) ≡ all
one_size long done add all infos i other below here is before = omega (arith, here, is, before, ap infos_size (drop_more infos i other below))

infos_texts : (infos : List Info) (texts : List (List ℕ)) → IsSizedBy infos texts → infos_size infos ≡ texts_size texts
infos_texts [] [] sized = refl
infos_texts [] (t ∷ texts) sized = absurd (cc)
infos_texts (i ∷ infos) [] sized = absurd (cc)
infos_texts (i ∷ infos) (t ∷ texts) sized =
    let first : i.size ≡ length t = cc in
    let rest : IsSizedBy infos texts = cc in
    ap (λ n. head_width n + n + infos_size infos) first ∙ ap (λ n. head_width (length t) + length t + n) (infos_texts infos texts rest)

pub length_is : (told next : ToldState) (change : Change) (n : ℕ) → next ≡ changed_summary (keeps_of Mbx) told change → AllByRecursion IsKeyword next.words → n ≡ 2048 + infos_size next.infos
    → (bytes : List ℕ) → IsTold Mbx own_form told bytes → n ≡ changed_length Mbx own_form told bytes change
length_is told next change n is keywords size bytes stands =
    let after = changed_summary (keeps_of Mbx) told change in
    let texts = changed_texts (keeps_of Mbx) (own_form.texts bytes) change in
    let sized : IsSizedBy after.infos texts = sized_after (keeps_of Mbx) told (own_form.texts bytes) change stands.sized in
    let m : Mailbox = mailbox_at after texts in
    let header = keywords_long (header_for m) (subst (λ (s : ToldState). AllByRecursion IsKeyword s.words) is keywords) in
    let same : texts_of (records_at after.infos texts) ≡ texts = texts_at after.infos texts (texts_count after.infos texts sized) in
    let long : length (mbx_written m) ≡ 2048 + texts_size texts =
    omega (arith, header, length-append (header_text (header_for m)) (records_text (map new_record m.records)), new_size m.records, ap texts_size same) in
    omega (
      arith,
      size,
      ap (λ (s : ToldState). infos_size s.infos) is,
      infos_texts after.infos texts sized,
      long,
      ap (λ (b : Mailbox). length (mbx_written b)) (changed_at (keeps_of Mbx) refl told (own_form.texts bytes) change (texts_count told.infos (own_form.texts bytes) stands.sized)),
    )

-- ---- A new mailbox

abbrev blank_header : ℕ → MbxHeader
blank_header validity = record { validity = validity; last = 0; words = [] }

pub blank_short : (validity : ℕ) (bytes : List ℕ) → bytes ≡ header_text (blank_header validity) → length bytes ≤ file_limit
blank_short validity bytes is = omega (arith, ap length is, keywords_long (blank_header validity) tt)

pub blank_places : (validity : ℕ) (bytes : List ℕ) (places : List MbxPlace) → validity < 4294967296 → bytes ≡ header_text (blank_header validity) → places ≡ [] → HasPlaces places bytes
blank_places validity bytes places fits is none = record {
  file = record { header = blank_header validity; records = [] };
  reads = ap file_of (is ∙ sym (append-nil (header_text (blank_header validity)))) ∙ file_back (blank_header validity) [] (record { validity = fits; last = omega arith; few = omega arith; names = record { keywords = tt; distinct = refl } }) tt;
  places_are = none;
}
