-- What a scan found is what the file says.
use Rattle.std.proofs.Common.{◌≡◌, ◌≤◌, ◌+◌, ◌*◌, ◌==◌, ℕ, Bool, true, false, cond, if◌then◌else◌, inl, inr, List, [], ◌∷◌, ◌++◌, length, map, take, drop, Option, Some, None, refl, sym, ap, ◌∙◌, subst, arith}
use Rattle.std.specs.List.{AllByRecursion}
use Rattle.std.proofs.lemmas.List.{take_all, length-drop, length-map}
use Rattle.std.proofs.lemmas.Option.{none-some}
use Rattle.file_model.specs.Histories.{History, Now}
use Rattle.mail_fields.specs.Numbers.{◌>>=◌}
use Rattle.mail_types.specs.declared.contents.Placing.TheVariants.{InPlace}
use Rattle.mail_types.specs.declared.contents.StoreContents.{StoreContents}
use Rattle.mail_types.specs.declared.driver.Driver.TheVariants.{Mbx}
use Rattle.mail_types.specs.Flags.{has_bit}
use Rattle.store_trait.specs.declared.faults.OpenFault.{OpenFault}
use Rattle.store_trait.specs.declared.faults.OpenFault.TheVariants.{Absent, IllFormed, TooLarge, Failed, Memory}
use Rattle.store_trait.specs.declared.store.Info.{Info}
use Rattle.text_forms.specs.Lines.{clean_byte}
use Rattle.store_index.specs.declared.opening.Found.{Found}
use Rattle.store_index.specs.Told.{records_at}
use Rattle.file_store.specs.Forms.{ReadForm, read_form, is_read_form, texts_of}
use Rattle.file_store.specs.Scans.{OfFile, IsScanned, IsNoFile, HasWholeFront, RefusesScan}
use Rattle.file_store.specs.Standing.{IsSizedBy}
use Rattle.mbx_form.specs.declared.header.MbxHeader.{MbxHeader}
use Rattle.mbx_form.specs.Form.{MbxFile, file_of, contents_in, IsMbxSpelled, mbx_form}
use Rattle.mbx_form.specs.Header.{header_of}
use Rattle.mbx_form.specs.Records.{FileRecord, message_of, messages_of, records_text, records_of}
use Rattle.mbx_form.proofs.MbxForm.{mbx_is_form}
use Rattle.mbx_form.proofs.Records.{IsRecord, records_back, records_short}
use Rattle.mbx_form.proofs.Scanning.{stops_at_none, few_in_front, no_header, read_is_file, front_is_file}
use Rattle.mbx_store.specs.declared.place.MbxPlace.{MbxPlace}
use Rattle.mbx_store.specs.Places.{HasPlaces}
use Rattle.mbx_store.specs.Scans.{info_at, infos_of, AreAll, IsStopped, FewRead, RefusesRecords}
use Rattle.mbx_store.proofs.OnFile.{file_weaker, file_both, file_now}

abbrev pub own_form : ReadForm
own_form = read_form Mbx mbx_form mbx_is_form

-- ---- The file

pub all_file : (names : ℕ) (bytes : List ℕ) (header : MbxHeader) (places : List MbxPlace) (infos : List Info) → header_of (take 2048 bytes) ≡ Some header → (all : AreAll names bytes places infos) → file_of bytes ≡ Some (record { header = header; records = all.records })
all_file names bytes header places infos is all =
    let read : Option MbxHeader → Option (List FileRecord) → Option MbxFile = λ headers lists. headers >>= (λ (h : MbxHeader). lists >>= (λ (l : List FileRecord). Some (record { header = h; records = l }))) in
    let room : length all.records ≤ length bytes = omega (arith, records_short all.records all.are, ap length all.text, length-drop 2048 bytes) in
    ap (λ h. read h (records_of (length bytes) (drop 2048 bytes))) is
    ∙ ap (λ l. read (Some header) (records_of (length bytes) l)) all.text
    ∙ ap (read (Some header)) (records_back all.records (length bytes) all.are room)

spelled_as : (bytes : List ℕ) (file : MbxFile) → file_of bytes ≡ Some file → IsMbxSpelled bytes (contents_in file) (length file.records)
spelled_as bytes file reads = record { file = file; reads = reads; says = refl; counts = refl }

-- the texts of a file
pub texts_in : (bytes : List ℕ) (file : MbxFile) → file_of bytes ≡ Some file → own_form.texts bytes ≡ texts_of (messages_of (length file.header.words) file.records)
texts_in bytes file reads = (is_read_form Mbx mbx_form mbx_is_form).texts bytes (contents_in file) (length file.records) (spelled_as bytes file reads)

records_told : (names : ℕ) (rs : List FileRecord) → records_at (infos_of names rs) (texts_of (messages_of names rs)) ≡ messages_of names rs
records_told names [] = refl
records_told names (r ∷ rs) = step (has_bit 32768 r.head.bits) (records_told names rs)
  where
    step : (b : Bool) → records_at (infos_of names rs) (texts_of (messages_of names rs)) ≡ messages_of names rs
        → records_at (cond b [] (info_at names r.head ∷ []) ++ infos_of names rs) (texts_of (cond b (messages_of names rs) (message_of names r ∷ messages_of names rs))) ≡ cond b (messages_of names rs) (message_of names r ∷ messages_of names rs)
    step true later = later
    step false later = ap (λ l. message_of names r ∷ l) later

sizes_told : (names : ℕ) (rs : List FileRecord) → AllByRecursion IsRecord rs → IsSizedBy (infos_of names rs) (texts_of (messages_of names rs))
sizes_told names [] are = refl
sizes_told names (r ∷ rs) are = step (has_bit 32768 r.head.bits) (sizes_told names rs are.1)
  where
    same : r.head.size ≡ length (map clean_byte r.text)
    same = sym (length-map r.text clean_byte ∙ are.0.long)

    step : (b : Bool) → IsSizedBy (infos_of names rs) (texts_of (messages_of names rs))
        → IsSizedBy (cond b [] (info_at names r.head ∷ []) ++ infos_of names rs) (texts_of (cond b (messages_of names rs) (message_of names r ∷ messages_of names rs)))
    step true later = later
    step false later = λ k. same k ∷ later k

scanned_is : (bytes : List ℕ) (header : MbxHeader) (found : Found) (places : List MbxPlace) → header_of (take 2048 bytes) ≡ Some header → AreAll (length header.words) bytes places found.infos.items
    → found.validity ≡ (if header.validity == 0 then None else Some header.validity) → found.last ≡ header.last → found.words ≡ header.words → IsScanned own_form (HasPlaces places) found bytes
scanned_is bytes header found places is all validity last words =
    let file : MbxFile = record { header = header; records = all.records } in
    let names = length header.words in
    let reads = all_file names bytes header places found.infos.items is all in
    let texts = texts_in bytes file reads in
    let records : records_at found.infos.items (own_form.texts bytes) ≡ messages_of names all.records = ap (λ i. records_at i (own_form.texts bytes)) all.infos_are ∙ ap (records_at (infos_of names all.records)) texts ∙ records_told names all.records in
    record {
      records = length all.records;
      spelled = record {
        file = file;
        reads = reads;
        says = λ k. record { validity = validity k; number = 0; last = last k; words = words k; records = records k; placing = InPlace };
        counts = refl;
      };
      sized = subst (λ i. IsSizedBy i (own_form.texts bytes)) (sym all.infos_are) (subst (IsSizedBy (infos_of names all.records)) (sym texts) (sizes_told names all.records all.are));
      places = record { file = file; reads = reads; places_are = all.places_are };
    }

pub scanned_now : (path : List ℕ) (header : MbxHeader) (read : Option MbxHeader) (found : Found) (infos : List Info) (places own : List MbxPlace) (names : ℕ) (h mid_h : History) → names ≡ length header.words → mid_h ≡ h → OfFile h path (λ bytes. read ≡ header_of (take 2048 bytes)) → read ≡ Some header
    → OfFile mid_h path (λ bytes. AreAll names bytes own infos)
    → found.validity ≡ (if header.validity == 0 then None else Some header.validity) → found.last ≡ header.last → found.words ≡ header.words → found.infos.items ≡ infos → places ≡ own
    → OfFile h path (λ bytes. IsScanned own_form (HasPlaces places) found bytes)
scanned_now path header read found infos places own names h mid_h count same front is all validity last words told stand =
    file_weaker _ _ path (λ bytes both.
    subst (λ p. IsScanned own_form (HasPlaces p) found bytes) (sym stand)
    (scanned_is bytes header found own (sym both.0 ∙ is) (subst (λ n. AreAll n bytes own found.infos.items) count (subst (λ i. AreAll names bytes own i) (sym told) both.1)) validity last words)) h
    (file_both _ _ path h front (subst (λ g. OfFile g path (λ bytes. AreAll names bytes own infos)) same all))

-- ---- No file

none_spelled : (bytes : List ℕ) → file_of bytes ≡ None → (c : StoreContents) (n : ℕ) → IsMbxSpelled bytes c n → ⊥
none_spelled bytes none c n is = none-some is.file (sym none ∙ is.reads)

no_header_file : (bytes : List ℕ) → header_of (take 2048 bytes) ≡ None → IsNoFile own_form bytes 0
no_header_file bytes none =
    let whole : file_of bytes ≡ None = ap file_of (sym (take_all (length bytes) bytes (omega arith))) ∙ no_header bytes none (length bytes) in
    record {
      none = none_spelled bytes whole;
      whole = record {
        found = inr (refl, λ n front. none_spelled (take front.0 bytes) (no_header bytes none front.0) front.1 n front.2);
        greatest = λ n front. absurd (none_spelled (take front.0 bytes) (no_header bytes none front.0) front.1 n front.2);
      };
    }

pub no_header_now : (path : List ℕ) (read : Option MbxHeader) (h : History) → OfFile h path (λ bytes. read ≡ header_of (take 2048 bytes)) → read ≡ None → OfFile h path (λ bytes. (Mbx ≡ Mbx) × IsNoFile own_form bytes 0)
no_header_now path read h front is = file_weaker _ _ path (λ bytes same. (refl, no_header_file bytes (sym same ∙ is))) h front

stopped_is : (bytes : List ℕ) (header : MbxHeader) (count : ℕ) → header_of (take 2048 bytes) ≡ Some header → IsStopped bytes count → IsNoFile own_form bytes count
stopped_is bytes header count is stopped =
    let rs = stopped.records in
    let file : MbxFile = record { header = header; records = rs } in
    record {
      none = none_spelled bytes (stops_at_none bytes rs stopped.rest stopped.stops stopped.some);
      whole = record {
        found = inl (2048 + length (records_text rs), contents_in file, record { file = file; reads = front_is_file bytes header rs stopped.rest is stopped.stops; says = refl; counts = stopped.counts });
        greatest = λ n front. omega (arith, few_in_front bytes rs stopped.rest stopped.stops front.0 front.2.file front.2.reads, front.2.counts, stopped.counts);
      };
    }

pub stopped_now : (path : List ℕ) (header : MbxHeader) (read : Option MbxHeader) (named : _) (count : ℕ) (h mid_h : History) → mid_h ≡ h → OfFile h path (λ bytes. read ≡ header_of (take 2048 bytes)) → read ≡ Some header
    → OfFile mid_h path (λ bytes. (named ≡ Mbx) × IsStopped bytes count) → OfFile h path (λ bytes. (named ≡ Mbx) × IsNoFile own_form bytes count)
stopped_now path header read named count h mid_h same front is stopped =
    file_weaker _ _ path (λ bytes both. (both.1.0, stopped_is bytes header count (sym both.0 ∙ is) both.1.1)) h
    (file_both _ _ path h front (subst (λ g. OfFile g path (λ bytes. (named ≡ Mbx) × IsStopped bytes count)) same stopped))

-- ---- What was read

few_enough : (bytes : List ℕ) (header : MbxHeader) (old mid new n : ℕ) → header_of (take 2048 bytes) ≡ Some header → FewRead bytes mid new → mid ≤ old + 2048
    → (x : ℕ) × HasWholeFront own_form bytes x × (n ≡ 4096 + 256 * x) → new ≤ old + n
few_enough bytes header old mid new n is read first enough =
    let rs = read.records in
    let file : MbxFile = record { header = header; records = rs } in
    let few : length rs ≤ enough.0 =
    enough.1.greatest (length rs) (2048 + length (records_text rs), contents_in file, record { file = file; reads = read_is_file bytes header rs read.rest is read.are read.text; says = refl; counts = refl }) in
    omega (arith, few, read.few, first, enough.2)

pub few_now : (path : List ℕ) (header : MbxHeader) (read : Option MbxHeader) (old mid new n : ℕ) (h mid_h : History) → mid_h ≡ h → OfFile h path (λ bytes. read ≡ header_of (take 2048 bytes)) → read ≡ Some header
    → Now h (λ w. mid ≤ old + 2048) → OfFile mid_h path (λ bytes. FewRead bytes mid new)
    → OfFile h path (λ bytes. (x : ℕ) × HasWholeFront own_form bytes x × (n ≡ 4096 + 256 * x) → new ≤ old + n)
few_now path header read old mid new n h mid_h same front is first few =
    file_now _ _ _ path (λ bytes both begun enough. few_enough bytes header old mid new n (sym both.0 ∙ is) both.1 begun enough) h
    (file_both _ _ path h front (subst (λ g. OfFile g path (λ bytes. FewRead bytes mid new)) same few)) first

pub records_refused : (path : List ℕ) (header : MbxHeader) (read : Option MbxHeader) (fault : OpenFault) (h mid_h : History) → mid_h ≡ h → OfFile h path (λ bytes. read ≡ header_of (take 2048 bytes)) → read ≡ Some header
    → RefusesRecords fault mid_h path → RefusesScan Mbx own_form fault h path
records_refused path header read Failed h mid_h same front is refused = tt
records_refused path header read Memory h mid_h same front is refused = tt
records_refused path header read (IllFormed named count) h mid_h same front is refused = stopped_now path header read named count h mid_h same front is refused
records_refused path header read Absent h mid_h same front is refused = absurd refused
records_refused path header read (TooLarge limit) h mid_h same front is refused = absurd refused
