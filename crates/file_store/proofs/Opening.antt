-- What opening finds, or refuses; and a new store.
use Rattle.std.proofs.Common.{◌≡◌, ℕ, ◌+◌, ◌<◌, ◌≤◌, ◌^◌, ◌||◌, true, false, cond, nat_lt, List, [], ◌∷◌, length, map, Some, None, Ok, Err, refl, sym, ap, ◌∙◌, subst, arith}
use Rattle.std.proofs.lemmas.Bool.Decides.{nat_tests}
use Rattle.std.proofs.lemmas.List.{length-map}
use Rattle.std.proofs.lemmas.Option.{same_Some, none-some}
use Rattle.std.specs.List.{list_any}
use Rattle.file_model.specs.declared.files.Kind.TheVariants.{File as FileKind}
use Rattle.file_model.specs.Disk.{seen}
use Rattle.file_model.specs.Histories.{History, Now}
use Rattle.file_model.specs.Images.{Image, Node, nothing, file, directory, node_at, bytes_of, bytes_at}
use Rattle.file_model.specs.Kinds.{kind_of}
use Rattle.file_model.proofs.Runs.{now_weaker, now_both}
use Rattle.mail_types.specs.declared.contents.StoreContents.{StoreContents}
use Rattle.mail_types.specs.declared.driver.Driver.{Driver}
use Rattle.mail_types.specs.declared.driver.Driver.TheVariants.{Unix, Mmdf, Mbx, Mtx, Tenex, Mh, Mix}
use Rattle.mail_types.specs.declared.driver.Limit.TheVariants.{File as FileLimit, Text, Records}
use Rattle.mail_types.specs.declared.message.Record.{Record}
use Rattle.mail_types.specs.Limits.{file_limit, record_limit, text_limit, has_large_text}
use Rattle.mail_types.specs.Opening.{opened_mailbox, opened_uids}
use Rattle.mail_types.specs.Stored.{empty_mailbox, empty_placing, created_contents}
use Rattle.store_trait.specs.declared.faults.OpenFault.{OpenFault}
use Rattle.store_trait.specs.declared.faults.OpenFault.TheVariants.{Absent, IllFormed, TooLarge, Failed, Memory}
use Rattle.store_trait.specs.declared.store.Info.{Info}
use Rattle.store_trait.specs.Forms.{grammar_of, file_grammar}
use Rattle.store_trait.specs.Having.{CanSpell, IsBacked, contents_of}
use Rattle.store_trait.specs.Meaning.{Means, HasNoDataFile, HasMark}
use Rattle.store_trait.specs.OwnPaths.{is_directory_driver}
use Rattle.store_trait.specs.Promises.{RefusesOpen, Opens, Creates, IsEnough as IsEnoughAt}
use Rattle.store_index.specs.States.{empty_told}
use Rattle.store_trait.proofs.CanHave.{file_unnumbered}
use Rattle.store_trait.proofs.Backed.{can_spell_opened, backed_opened, backed_stored}
use Rattle.store_trait.proofs.Refusing.{can_spell_empty}
use Rattle.store_trait.proofs.Rewriting.{grammar_is, is_part}
use Rattle.store_index.specs.declared.opening.Found.{Found}
use Rattle.store_index.specs.Fronts.{FrontState}
use Rattle.store_index.specs.Opened.{contents_at, uids_told, opened_summary}
use Rattle.store_index.specs.Told.{records_at, mailbox_at}
use Rattle.store_index.proofs.ToldOpened.{opened_at, told_uids, with_sizes}
use Rattle.file_store.specs.Forms.{ReadForm, IsReadForm, forms_of}
use Rattle.file_store.specs.Laws.{stands_for}
use Rattle.file_store.specs.Scans.{OfFile, HasFile, IsScanned, IsWithin, IsEnoughOf, NoneEnough, RefusesScan}
use Rattle.file_store.specs.Standing.{IsSizedBy, IsTold, file_view, mailbox_in}
use Rattle.file_store.proofs.Changing.{readable}
use Rattle.file_store.proofs.CutFiles.{whole_file, whole_front}
use Rattle.file_store.proofs.Sizing.{texts_count, texts_at}

-- ---- Why it is refused

has_file : (node : Node) (long : ℕ) → FileKind long ≡ kind_of node → (bytes : List ℕ) × (node ≡ file bytes) × (long ≡ length bytes)
has_file nothing long is = absurd (cc)
has_file (file bytes) long is = (bytes, refl, cc)
has_file directory long is = absurd (cc)

-- whether a text is longer than 16 MiB, by the sizes
large_is : (infos : List Info) (texts : List (List ℕ)) → IsSizedBy infos texts → list_any (λ (i : Info). nat_lt text_limit i.size) infos ≡ has_large_text (records_at infos texts)
large_is [] texts sized = refl
large_is (i ∷ infos) [] sized = absurd (cc)
large_is (i ∷ infos) (t ∷ texts) sized =
    let first : i.size ≡ length t = cc in
    let rest : IsSizedBy infos texts = cc in
    ap (λ n. nat_lt text_limit n || list_any (λ (i : Info). nat_lt text_limit i.size) infos) first ∙ ap (λ b. nat_lt text_limit (length t) || b) (large_is infos texts rest)

records_count : (infos : List Info) (texts : List (List ℕ)) → length texts ≡ length infos → length (records_at infos texts) ≡ length infos
records_count infos texts same = sym (length-map (records_at infos texts) (λ (r : Record). r.text)) ∙ ap (λ l. length l) (texts_at infos texts same) ∙ same

-- a refusal is that by the grammar of the driver
refuses_by : (driver : Driver) (form : ReadForm) → is_directory_driver driver ≡ false → (path : List ℕ) (fault : OpenFault) (h : History) → RefusesOpen (file_grammar form.file path) driver path fault h
    → RefusesOpen (grammar_of (forms_of driver form) driver path) driver path fault h
refuses_by driver form of_file path fault h = subst (λ g. RefusesOpen g driver path fault h) (sym (grammar_is (forms_of driver form) driver of_file path))

means_by : (driver : Driver) (form : ReadForm) → is_directory_driver driver ≡ false → (path : List ℕ) (image : Image) (contents : StoreContents) → Means (file_grammar form.file path) driver path image (Ok contents)
    → Means (grammar_of (forms_of driver form) driver path) driver path image (Ok contents)
means_by driver form of_file path image contents = subst (λ g. Means g driver path image (Ok contents)) (sym (grammar_is (forms_of driver form) driver of_file path))

module _ (driver : Driver) (form : ReadForm) (of_file : is_directory_driver driver ≡ false) where
  large_means : (path : List ℕ) (long : ℕ) (image : Image) → HasFile path long image → file_limit < long → Means (file_grammar form.file path) driver path image (Err (TooLarge FileLimit))
  large_means path long image has large = record {
    is = ((λ none. none-some has.0 (sym (ap bytes_of none) ∙ ap bytes_of has.1)), (path, is_part driver of_file path, (has.0, ap bytes_of has.1, omega (arith, has.2, large))));
  }

  pub large_refused : (path : List ℕ) (long : ℕ) (h : History) → Now h (λ w. FileKind long ≡ kind_of (node_at (seen w.disk) path)) → file_limit < long
      → RefusesOpen (grammar_of (forms_of driver form) driver path) driver path (TooLarge FileLimit) h
  large_refused path long h kind large =
      refuses_by driver form of_file path (TooLarge FileLimit) h (now_weaker _ _ (λ w is. large_means path long (seen w.disk) (has_file (node_at (seen w.disk) path) long is) large) h kind)

  -- a file that stands, of its length
  file_has : (path : List ℕ) (long : ℕ) (image : Image) → HasFile path long image → long ≤ file_limit → (bytes : List ℕ) × (bytes_at image path ≡ Some bytes) × (length bytes ≤ file_limit)
  file_has path long image has short = (has.0, ap bytes_of has.1, omega (arith, has.2, short))

  pub scan_long : (path : List ℕ) (long : ℕ) (h : History) → Now h (λ w. HasFile path long (seen w.disk)) → OfFile h path (λ bytes. length bytes ≡ long)
  scan_long path long h has = now_weaker _ _ (λ w is bytes at. let same : bytes ≡ is.0 = same_Some _ _ (sym at ∙ ap bytes_of is.1) in ap (λ (b : List ℕ). length b) same ∙ sym is.2) h has

module _ (driver : Driver) (form : ReadForm) (of_file : is_directory_driver driver ≡ false) (path : List ℕ) (long : ℕ) (h : History) (short : long ≤ file_limit)
    (has : Now h (λ w. HasFile path long (seen w.disk))) where
  scan_by : (fault : OpenFault) → RefusesScan driver form fault h path → RefusesOpen (file_grammar form.file path) driver path fault h
  scan_by Absent is = absurd is
  scan_by (IllFormed named count) is = now_weaker _ _ (λ w both.
      let there = file_has driver form of_file path long (seen w.disk) both.0 short in
      let no = both.1 there.0 there.1 in
      record {
        is = (
          readable driver of_file path there.0 (seen w.disk) there.1 there.2,
          no.0,
          (λ contents written. no.1.none contents written.0 (subst (λ b. form.file.spells b contents written.0) (same_Some _ _ (sym written.1.has ∙ there.1)) written.1.spells)),
          whole_file driver form of_file path there.0 (seen w.disk) there.1 count no.1.whole,
        );
      }) h (now_both _ _ h has is)
  scan_by (TooLarge limit) is = absurd is
  scan_by Failed is = tt
  scan_by Memory is = tt

  pub scan_refused : (fault : OpenFault) → RefusesScan driver form fault h path → RefusesOpen (grammar_of (forms_of driver form) driver path) driver path fault h
  scan_refused fault is = refuses_by driver form of_file path fault h (scan_by fault is)

  module _ (holds : List ℕ → Type 0) (f : Found) (scanned : OfFile h path (λ bytes. IsScanned form holds f bytes)) where
    pub many_refused : record_limit < length f.infos.items → RefusesOpen (grammar_of (forms_of driver form) driver path) driver path (TooLarge Records) h
    many_refused many = refuses_by driver form of_file path (TooLarge Records) h (now_weaker _ _ (λ w both.
        let there = file_has driver form of_file path long (seen w.disk) both.0 short in
        let scan = both.1 there.0 there.1 in
        let texts = form.texts there.0 in
        let full = records_count f.infos.items texts (texts_count f.infos.items texts scan.sized) in
        let more : nat_lt record_limit (length (records_at f.infos.items texts)) ≡ true = grind (arith, nat_tests, full, many) in
        record {
          is = (
            readable driver of_file path there.0 (seen w.disk) there.1 there.2,
            (contents_at f texts, (scan.records, record { bytes = there.0; has = there.1; spells = scan.spelled }), more),
          );
        }) h (now_both _ _ h has scanned))

    pub text_refused : length f.infos.items ≤ record_limit → list_any (λ (i : Info). nat_lt text_limit i.size) f.infos.items ≡ true → RefusesOpen (grammar_of (forms_of driver form) driver path) driver path (TooLarge Text) h
    text_refused few large = refuses_by driver form of_file path (TooLarge Text) h (now_weaker _ _ (λ w both.
        let there = file_has driver form of_file path long (seen w.disk) both.0 short in
        let scan = both.1 there.0 there.1 in
        let texts = form.texts there.0 in
        let full = records_count f.infos.items texts (texts_count f.infos.items texts scan.sized) in
        let no_more : nat_lt record_limit (length (records_at f.infos.items texts)) ≡ false = grind (arith, nat_tests, full, few) in
        record {
          is = (
            readable driver of_file path there.0 (seen w.disk) there.1 there.2,
            (contents_at f texts, (scan.records, record { bytes = there.0; has = there.1; spells = scan.spelled }), no_more, sym (large_is f.infos.items texts scan.sized) ∙ large),
          );
        }) h (now_both _ _ h has scanned))

    pub found_within : length f.infos.items ≤ record_limit → list_any (λ (i : Info). nat_lt text_limit i.size) f.infos.items ≡ false → Now h (λ w. IsWithin form holds f path (seen w.disk))
    found_within few small = now_weaker _ _ (λ w both.
        let there = file_has driver form of_file path long (seen w.disk) both.0 short in
        record { bytes = there.0; has = there.1; short = there.2; scanned = both.1 there.0 there.1; few = few; none_large = small }) h (now_both _ _ h has scanned)

few_test : (n : ℕ) → n ≤ record_limit → nat_lt record_limit n ≡ false
few_test n few = grind (arith, nat_tests, few)

module _ (driver : Driver) (form : ReadForm) (is_form : IsReadForm driver form) (of_file : is_directory_driver driver ≡ false) (holds : List ℕ → Type 0) (fresh : ℕ) (some : 1 ≤ fresh) (fits : fresh < 2 ^ 32) (path : List ℕ) where
  -- ---- The opened mailbox

  module _ (f : Found) (image : Image) (is : IsWithin form holds f path image) where
    abbrev found : StoreContents
    found = contents_at f (form.texts is.bytes)

    count : length (form.texts is.bytes) ≡ length f.infos.items
    count = texts_count f.infos.items (form.texts is.bytes) is.scanned.sized

    few : nat_lt record_limit (length (records_at f.infos.items (form.texts is.bytes))) ≡ false
    few = few_test (length (records_at f.infos.items (form.texts is.bytes))) (omega (arith, records_count f.infos.items (form.texts is.bytes) count, is.few))

    large : has_large_text (records_at f.infos.items (form.texts is.bytes)) ≡ false
    large = sym (large_is f.infos.items (form.texts is.bytes) is.scanned.sized) ∙ is.none_large

    same_opened : opened_mailbox (contents_at f (form.texts is.bytes)) fresh ≡ mailbox_in form (opened_summary f fresh) is.bytes
    same_opened = opened_at f (form.texts is.bytes) fresh count

    told_opened : IsTold driver form (opened_summary f fresh) is.bytes
    told_opened =
        let law = is_form.law.reads.found is.bytes (contents_at f (form.texts is.bytes)) is.scanned.records is.scanned.spelled in
        record {
          contents = contents_at f (form.texts is.bytes);
          records = is.scanned.records;
          spelled = is.scanned.spelled;
          sized = with_sizes (opened_uids f.validity f.last (uids_told f.infos.items)) f.infos.items (told_uids f) ∙ is.scanned.sized;
          backed = subst (IsBacked driver (contents_at f (form.texts is.bytes))) same_opened (backed_opened driver (contents_at f (form.texts is.bytes)) fresh law);
          can = subst (CanSpell driver) same_opened (can_spell_opened driver (contents_at f (form.texts is.bytes)) fresh law few large (λ zero. omega (arith, some, zero)) (omega (arith, fits)));
          short = λ never. is.short;
        }

    opens_at : (s : FrontState) → s ≡ record { path = path; told = opened_summary f fresh; broken = false }
        → (contents : StoreContents) × Means (grammar_of (forms_of driver form) driver path) driver path image (Ok contents) × ((file_view driver form holds s).mailbox image ≡ opened_mailbox contents fresh) × (file_view driver form holds s).stands image
    opens_at s same =
        let t : FrontState = record { path = path; told = opened_summary f fresh; broken = false } in (
          contents_at f (form.texts is.bytes),
          means_by driver form of_file path image (contents_at f (form.texts is.bytes)) (record {
            is = (
              readable driver of_file path is.bytes image is.has is.short,
              (is.scanned.records, record { bytes = is.bytes; has = is.has; spells = is.scanned.spelled }),
              few,
              large,
            );
          }),
          ap (λ u. (file_view driver form holds u).mailbox image) same ∙ stands_for driver form holds t image is.bytes is.has ∙ sym same_opened,
          subst (λ u. (file_view driver form holds u).stands image) (sym same) (record { bytes = is.bytes; has = is.has; places = is.scanned.places; is = told_opened }),
        )

  pub opens_file : (f : Found) (s : FrontState) (h : History) → s ≡ record { path = path; told = opened_summary f fresh; broken = false } → Now h (λ w. IsWithin form holds f path (seen w.disk))
      → Opens (grammar_of (forms_of driver form) driver path) driver path (file_view driver form holds s) fresh h
  opens_file f s h same within = now_weaker _ _ (λ w is. opens_at f (seen w.disk) is s same) h within

  -- ---- A new store

  can_empty : CanSpell driver (empty_mailbox driver fresh)
  can_empty = can_spell_empty driver fresh (λ zero. omega (arith, some, zero)) (omega (arith, fits))

  no_data : (image : Image) → HasNoDataFile driver path image
  no_data image = by driver of_file
    where
      by : (d : Driver) → is_directory_driver d ≡ false → HasNoDataFile d path image
      by Unix is = tt
      by Mmdf is = tt
      by Mbx is = tt
      by Mtx is = tt
      by Tenex is = tt
      by Mh is = tt
      by Mix is = absurd (cc)

  no_mark : (image : Image) → HasMark driver path image
  no_mark image = by driver of_file
    where
      by : (d : Driver) → is_directory_driver d ≡ false → HasMark d path image
      by Unix is = tt
      by Mmdf is = tt
      by Mbx is = tt
      by Mtx is = tt
      by Tenex is = tt
      by Mh is = absurd (cc)
      by Mix is = tt

  empty_texts : form.texts (form.file.written (empty_mailbox driver fresh)) ≡ []
  empty_texts = let written = is_form.law.again (empty_mailbox driver fresh) can_empty in is_form.texts (form.file.written (empty_mailbox driver fresh)) (contents_of driver (empty_mailbox driver fresh)) written.0 written.1

  -- what is told of a new mailbox is the empty one
  empty_is : empty_mailbox driver fresh ≡ mailbox_at (empty_told fresh) []
  empty_is = ap (λ b. record { validity = fresh; number = cond b 1 0; last = 0; words = []; records = [] }) (file_unnumbered driver of_file)

  told_empty : length (form.file.written (empty_mailbox driver fresh)) ≤ file_limit → IsTold driver form (empty_told fresh) (form.file.written (empty_mailbox driver fresh))
  told_empty short =
      let written = is_form.law.again (empty_mailbox driver fresh) can_empty in
      let same : empty_mailbox driver fresh ≡ mailbox_in form (empty_told fresh) (form.file.written (empty_mailbox driver fresh)) = empty_is ∙ ap (mailbox_at (empty_told fresh)) (sym empty_texts) in
      record {
        contents = created_contents driver fresh;
        records = written.0;
        spelled = written.1;
        sized = ap (λ ts. map (λ (t : List ℕ). length t) ts) (sym empty_texts);
        backed = subst (IsBacked driver (created_contents driver fresh)) same (backed_stored driver (record { validity = None; number = 0; last = 0; words = []; records = []; placing = empty_placing driver }) (empty_mailbox driver fresh) (empty_mailbox driver fresh) can_empty);
        can = subst (CanSpell driver) same can_empty;
        short = λ never. short;
      }

  creates_at : (s : FrontState) (bytes : List ℕ) (image : Image) → s ≡ record { path = path; told = empty_told fresh; broken = false } → bytes ≡ form.file.written (empty_mailbox driver fresh) → length bytes ≤ file_limit
      → holds bytes → bytes_at image path ≡ Some bytes
      → Means (grammar_of (forms_of driver form) driver path) driver path image (Ok (created_contents driver fresh)) × ((file_view driver form holds s).mailbox image ≡ empty_mailbox driver fresh) × (file_view driver form holds s).stands image
      × (is_directory_driver driver ≡ false → bytes_at image path ≡ Some (form.file.written (empty_mailbox driver fresh))) × HasNoDataFile driver path image × HasMark driver path image
  creates_at s bytes image same is short places has =
      let t : FrontState = record { path = path; told = empty_told fresh; broken = false } in
      let text = form.file.written (empty_mailbox driver fresh) in
      let there : bytes_at image path ≡ Some text = has ∙ ap (λ b. Some b) is in
      let small : length text ≤ file_limit = subst (λ b. length b ≤ file_limit) is short in
      let written = is_form.law.again (empty_mailbox driver fresh) can_empty in (
        means_by driver form of_file path image (created_contents driver fresh) (record { is = (readable driver of_file path text image there small, (written.0, record { bytes = text; has = there; spells = written.1 }), refl, refl) }),
        ap (λ u. (file_view driver form holds u).mailbox image) same ∙ stands_for driver form holds t image text there ∙ ap (mailbox_at (empty_told fresh)) empty_texts ∙ sym empty_is,
        subst (λ u. (file_view driver form holds u).stands image) (sym same) (record { bytes = text; has = there; places = subst holds is places; is = told_empty small }),
        (λ kind. there),
        no_data image,
        no_mark image,
      )

  pub creates_file : (s : FrontState) (bytes : List ℕ) (h : History) → s ≡ record { path = path; told = empty_told fresh; broken = false } → bytes ≡ form.file.written (empty_mailbox driver fresh) → length bytes ≤ file_limit
      → holds bytes → Now h (λ w. bytes_at (seen w.disk) path ≡ Some bytes) → Creates (forms_of driver form) driver path (file_view driver form holds s) fresh h
  creates_file s bytes h same is short places has = now_weaker _ _ (λ w at. creates_at s bytes (seen w.disk) same is short places at) h has

-- ---- What is read

-- a number that is enough to open a path is enough to scan its file
enough_of : (driver : Driver) (form : ReadForm) (of_file : is_directory_driver driver ≡ false) (path bytes : List ℕ) (image : Image) → bytes_at image path ≡ Some bytes → (n : ℕ)
    → IsEnoughAt NoneEnough (file_grammar form.file path) driver path image n → IsEnoughOf driver form bytes n
enough_of Unix form of_file path bytes image has n is = absurd is
enough_of Mmdf form of_file path bytes image has n is = absurd is
enough_of Mbx form of_file path bytes image has n is = (is.0, whole_front Mbx form of_file path bytes image has is.0 is.1, is.2)
enough_of Mtx form of_file path bytes image has n is = (is.0, whole_front Mtx form of_file path bytes image has is.0 is.1, is.2)
enough_of Tenex form of_file path bytes image has n is = absurd is
enough_of Mh form of_file path bytes image has n is = absurd is
enough_of Mix form of_file path bytes image has n is = absurd is

reads_enough : (driver : Driver) (form : ReadForm) (of_file : is_directory_driver driver ≡ false) (path : List ℕ) (long : ℕ) (h : History) (before after : ℕ) (n : ℕ) → Now h (λ w. HasFile path long (seen w.disk))
    → OfFile h path (λ bytes. IsEnoughOf driver form bytes n → after ≤ before + n) → Now h (λ w. IsEnoughAt NoneEnough (grammar_of (forms_of driver form) driver path) driver path (seen w.disk) n → after ≤ before + n)
reads_enough driver form of_file path long h before after n has reads =
    subst (λ g. Now h (λ w. IsEnoughAt NoneEnough g driver path (seen w.disk) n → after ≤ before + n)) (sym (grammar_is (forms_of driver form) driver of_file path))
    (now_weaker _ _ (λ w both enough.
    let there = ap bytes_of both.0.1 in
    both.1 both.0.0 there (enough_of driver form of_file path both.0.0 (seen w.disk) there n enough)) h (now_both _ _ h has reads))

pub reads_scan : (driver : Driver) (form : ReadForm) (of_file : is_directory_driver driver ≡ false) (path : List ℕ) (long : ℕ) (old mid : History) (start before after : ℕ) (n : ℕ) → mid ≡ old → before ≡ start
    → Now old (λ w. HasFile path long (seen w.disk)) → OfFile mid path (λ bytes. IsEnoughOf driver form bytes n → after ≤ before + n)
    → Now old (λ w. IsEnoughAt NoneEnough (grammar_of (forms_of driver form) driver path) driver path (seen w.disk) n → after ≤ start + n)
reads_scan driver form of_file path long old mid start before after n same from has reads =
    reads_enough driver form of_file path long old start after n has
    (subst (λ h. OfFile h path (λ bytes. IsEnoughOf driver form bytes n → after ≤ start + n)) same (subst (λ k. OfFile mid path (λ bytes. IsEnoughOf driver form bytes n → after ≤ k + n)) from reads))
