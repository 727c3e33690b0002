-- What the clauses of `Store` and `Format` say, each as a record of facts.
-- `was` and `is` are the views of a store at a call's start and end, `old` and `new` the host's histories.
use Rattle.std.specs.Prelude.{ℕ, true, false, List, ◌≡◌, ◌≤◌, ◌+◌, ◌*◌, ◌-◌, ◌⊎◌, ◌↔◌, min, take, drop, length, Some, IsSome, Result, Ok, Err, OnOk, IsErrOf, IsTrue}
use Rattle.file_model.specs.Causes.{Faults}
use Rattle.file_model.specs.Disk.{seen}
use Rattle.file_model.specs.Images.{Image, bytes_at}
use Rattle.file_model.specs.Kept.{NonePending}
use Rattle.file_model.specs.Histories.{History, Now, Ran, Ended}
use Rattle.mail_types.specs.declared.contents.StoreContents.{StoreContents}
use Rattle.mail_types.specs.declared.driver.Driver.{Driver}
use Rattle.mail_types.specs.declared.driver.Driver.TheVariants.{Mbx, Mtx, Mix}
use Rattle.mail_types.specs.declared.mailbox.Mailbox.{Mailbox}
use Rattle.mail_types.specs.Drivers.{keeps_of}
use Rattle.mail_types.specs.Mailboxes.{has_no_nul}
use Rattle.mail_types.specs.Opening.{opened_mailbox}
use Rattle.mail_types.specs.Stored.{empty_mailbox, created_contents}
use Rattle.store_trait.specs.declared.change.Change.{Change}
use Rattle.store_trait.specs.declared.faults.OpenFault.{OpenFault}
use Rattle.store_trait.specs.declared.faults.OpenFault.TheVariants.{Failed as OpenFailed, Memory as OpenMemory}
use Rattle.store_trait.specs.declared.faults.StoreFault.{StoreFault}
use Rattle.store_trait.specs.declared.faults.StoreFault.TheVariants.{Failed, Broken}
use Rattle.store_trait.specs.Answers.{Answers, Breaks, Refuses}
use Rattle.store_trait.specs.Changes.{changed_mailbox, changed_contents, due_refusal, is_nothing, changed_meaning, IsSized}
use Rattle.store_trait.specs.Commits.{IsDurable, LeavesEither, LeavesNoneOr, LeavesNoneOrAll, IsNowhere}
use Rattle.store_trait.specs.Forms.{Forms, directory_at, grammar_of}
use Rattle.store_trait.specs.Meaning.{HasNoDataFile, HasMark, HasWhole, IsWritten, Means}
use Rattle.store_trait.specs.OwnPaths.{IsOwn, is_crash_safe, is_directory_driver, reads_in_place}
use Rattle.store_trait.specs.Touching.{KeepsBut, SeesBut}
use Rattle.store_trait.specs.Views.{View, Grammar, size_at, text_at}

-- ---- What every call on a store leaves

-- the store is that of the same mailbox
pub record IsSame (was is : View) : Type 0 where
  pub driver : is.driver ≡ was.driver
  pub path : is.path ≡ was.path

-- it stands where it stood, for the same mailbox
pub record IsUnchanged (was is : View) : Type 0 where
  pub summary : is.summary ≡ was.summary
  pub stands : (image : Image) → was.stands image → is.stands image
  pub mailbox : (image : Image) → is.mailbox image ≡ was.mailbox image

-- a store is broken from the first answer of Failed or Memory on
pub record BreaksBy {T : Type 0} (was is : View) (result : Result T StoreFault) : Type 0 where
  pub broken : IsTrue is.broken ↔ (IsTrue was.broken ⊎ Breaks result)
  pub refused : IsErrOf result Broken ↔ IsTrue was.broken

-- For the image that is seen a store stands where it stood, for the same mailbox. So it may keep a cursor into a long message.
pub record StaysOn (was is : View) (old : History) : Type 0 where
  pub summary : is.summary ≡ was.summary
  pub stands : Now old (λ w. was.stands (seen w.disk) → is.stands (seen w.disk) × (is.mailbox (seen w.disk) ≡ was.mailbox (seen w.disk)))

-- a store can be asked: it is broken, or at its paths stand the files that its last call left
abbrev pub CanAsk : View → History → Type 0
CanAsk was old = IsTrue was.broken ⊎ Now old (λ w. was.stands (seen w.disk))

-- ---- Reading a text

-- n bytes of the text at a place stand at the buffer's start, from a place in the text on
pub record GivesText (was : View) (place from : ℕ) (before after : List ℕ) (old : History) (n : ℕ) : Type 0 where
  pub count : n ≡ min (length after) (size_at was.summary place - from)
  pub bytes : Now old (λ w. take n after ≡ take n (drop from (text_at (was.mailbox (seen w.disk)) place)))
  -- also on a host that isn't modelled
  pub clean : has_no_nul (take n after) ≡ true
  pub rest : drop n after ≡ drop n before

-- the drivers that read in place read no more than they give
abbrev pub ReadsInPlace : View → (place from room : ℕ) → Faults → Faults → History → Type 0
ReadsInPlace was place from room before after old =
    IsTrue (reads_in_place was.driver) → Now old (λ w. after.read ≤ before.read + min room (size_at was.summary place - from))

-- ---- All else

-- at each instant each image that a crash may leave has, but for these files and this directory, what one of the start had
abbrev pub LeavesRest : (files free : List ℕ → Type 0) → History → History → Type 0
LeavesRest files free old new = Now old (λ w. NonePending w.disk) → Ran (KeepsBut files free) old new

-- after every answer but Failed reads see the same but there
abbrev pub SeesRest : {T : Type 0} → (files free : List ℕ → Type 0) → Result T StoreFault → History → History → Type 0
SeesRest files free result old new = (IsErrOf result Failed → ⊥) → Ended (SeesBut files free) old new

-- a call changes files alone: nothing is heard or said
abbrev pub RanOnFiles : History → History → Type 0
RanOnFiles old new = Ran (λ start instant. Unit {0}) old new

-- what a call leaves alone: all but these files, and perhaps a directory; where it ends well, no directory operation is pending
pub record LeavesAlone {T : Type 0} (touched free : List ℕ → Type 0) (result : Result T StoreFault) (old new : History) : Type 0 where
  pub files : RanOnFiles old new
  pub instants : LeavesRest touched free old new
  pub sees : SeesRest touched free result old new
  pub none_pending : Now old (λ w. NonePending w.disk) → OnOk result (Now new (λ w. NonePending w.disk))

-- ---- A change

-- Which answer comes: Broken exactly from a store that is broken, else the refusal that is due, by what the files say and the store stands for.
-- Where one is due nothing is done, whatever the answer; a call that is given nothing does nothing.
pub record AnswersChange (forms : Forms) (was : View) (change : Change) (result : Result (Unit {0}) StoreFault) (old new : History) : Type 0 where
  pub due : was.broken ≡ false → Now old (λ w. (before : StoreContents) → IsWritten (grammar_of forms was.driver was.path) (seen w.disk) before
      → Answers (due_refusal (grammar_of forms was.driver was.path).written_length was.driver before (was.mailbox (seen w.disk)) change) result)
  pub acts : was.broken ≡ false → Now old (λ w. (before : StoreContents) → IsWritten (grammar_of forms was.driver was.path) (seen w.disk) before
      → IsSome (due_refusal (grammar_of forms was.driver was.path).written_length was.driver before (was.mailbox (seen w.disk)) change) → new ≡ old)
  pub nothing : IsTrue (is_nothing was.summary.words change) → (new ≡ old) × (was.broken ≡ false → result ≡ Ok tt)

-- the files say what is stored of the changed mailbox, and that is what opening finds
abbrev pub Stores : Forms → (was : View) → Change → (start end : Image) → Type 0
Stores forms was change start end = (before : StoreContents) → IsWritten (grammar_of forms was.driver was.path) start before
    → IsWritten (grammar_of forms was.driver was.path) end (changed_contents was.driver before (was.mailbox start) change)
    × (is_nothing (was.mailbox start).words change ≡ false
    → Means (grammar_of forms was.driver was.path) was.driver was.path end (changed_meaning (grammar_of forms was.driver was.path).written_length was.driver before (was.mailbox start) change))

-- the mailbox's one file has these bytes
abbrev pub HasBytes : Driver → List ℕ → Image → List ℕ → Type 0
HasBytes driver path image bytes = is_directory_driver driver ≡ false → bytes_at image path ≡ Some bytes

-- of a mailbox in one file a change that does something leaves exactly what the driver's form says of the old bytes
abbrev pub Rewrites : Forms → (was : View) → Change → (start end : Image) → Type 0
Rewrites forms was change start end = is_nothing (was.mailbox start).words change ≡ false → (bytes : List ℕ) → bytes_at start was.path ≡ Some bytes
    → HasBytes was.driver was.path end ((forms.file was.driver).rewritten bytes (was.mailbox start) change)

-- of a mailbox in a directory it leaves what the driver's form says of the old files
abbrev pub RewritesFiles : Forms → (was : View) → Change → (start end : Image) → Type 0
RewritesFiles forms was change start end = is_nothing (was.mailbox start).words change ≡ false → is_directory_driver was.driver ≡ true
    → (forms.directory was.driver).rewritten (directory_at was.path start) (was.mailbox start) change (directory_at was.path end)

-- What stands afterwards: the changed mailbox, in the store and in the files; and after a refusal all as it was.
pub record ChangesStore (forms : Forms) (was is : View) (change : Change) (result : Result (Unit {0}) StoreFault) (old new : History) : Type 0 where
  pub done : OnOk result (Ended (λ start end. is.mailbox (seen end) ≡ changed_mailbox (keeps_of was.driver) (was.mailbox (seen start)) change) old new)
  pub sized : OnOk result (IsSized was.summary change is.summary)
  pub rewrites : OnOk result (Ended (λ start end. Rewrites forms was change (seen start) (seen end)) old new)
  pub files : OnOk result (Ended (λ start end. RewritesFiles forms was change (seen start) (seen end)) old new)
  pub stored : OnOk result (Ended (λ start end. Stores forms was change (seen start) (seen end)) old new)
  pub stands : OnOk result (Now new (λ w. is.stands (seen w.disk)))
  pub refused : Refuses result → (new ≡ old) × IsUnchanged was is

-- Of the driver whose changes survive a crash: at each instant a crash leaves the mailbox before the change or after it, and after Ok the one after it alone.
pub record CommitsChange (forms : Forms) (was : View) (change : Change) (result : Result (Unit {0}) StoreFault) (old new : History) : Type 0 where
  pub instants : IsTrue (is_crash_safe was.driver) → (before : StoreContents) (prior : Mailbox)
      → Now old (λ w. IsDurable was.driver was.path w.disk × Means (grammar_of forms was.driver was.path) was.driver was.path (seen w.disk) (Ok before) × (prior ≡ was.mailbox (seen w.disk)))
      → Ran (λ start instant. LeavesEither (λ image contents. Means (grammar_of forms was.driver was.path) was.driver was.path image (Ok contents)) before (changed_contents was.driver before prior change) instant) old new
  pub durable : IsTrue (is_crash_safe was.driver) → Now old (λ w. IsDurable was.driver was.path w.disk) → OnOk result (Now new (λ w. IsDurable was.driver was.path w.disk))

-- ---- Opening

-- a refusal to open has its cause at the path, unless a call failed or memory lacked
abbrev pub RefusesOpen : Grammar → Driver → List ℕ → OpenFault → History → Type 0
RefusesOpen grammar driver path OpenFailed old = Unit {0}
RefusesOpen grammar driver path OpenMemory old = Unit {0}
RefusesOpen grammar driver path fault old = Now old (λ w. Means grammar driver path (seen w.disk) (Err fault))

-- an open store that isn't broken, of a driver at a path
pub record IsOpenAt (driver : Driver) (path : List ℕ) (is : View) : Type 0 where
  pub driver_is : is.driver ≡ driver
  pub path_is : is.path ≡ path
  pub broken : is.broken ≡ false

-- a store that was opened stands for the mailbox that the files open as
abbrev pub Opens : Grammar → Driver → List ℕ → (is : View) → (fresh : ℕ) → History → Type 0
Opens grammar driver path is fresh old =
    Now old (λ w. (contents : StoreContents) × Means grammar driver path (seen w.disk) (Ok contents) × (is.mailbox (seen w.disk) ≡ opened_mailbox contents fresh) × is.stands (seen w.disk))

-- ---- How much opening reads

-- So many bytes are enough to open the files at a path: for mbx and mtx by the number of whole records; for mix the driver says it; no other driver promises a number.
abbrev pub IsEnough : (of_mix : List ℕ → Image → ℕ → Type 0) → Grammar → Driver → List ℕ → Image → ℕ → Type 0
IsEnough of_mix grammar Mbx path image most = (records : ℕ) × HasWhole grammar Mbx path image records × (most ≡ 4096 + 256 * records)
IsEnough of_mix grammar Mtx path image most = (records : ℕ) × HasWhole grammar Mtx path image records × (most ≡ 4096 + 256 * records)
IsEnough of_mix grammar Mix path image most = of_mix path image most
IsEnough of_mix grammar driver path image most = ⊥

-- ---- Creation and removal

-- a created store stands for the empty mailbox; its one file has what is written of that
abbrev pub Creates : Forms → Driver → List ℕ → (is : View) → (fresh : ℕ) → History → Type 0
Creates forms driver path is fresh new =
    Now new (λ w. Means (grammar_of forms driver path) driver path (seen w.disk) (Ok (created_contents driver fresh)) × (is.mailbox (seen w.disk) ≡ empty_mailbox driver fresh) × is.stands (seen w.disk)
    × HasBytes driver path (seen w.disk) ((forms.file driver).written (empty_mailbox driver fresh)) × HasNoDataFile driver path (seen w.disk) × HasMark driver path (seen w.disk))

-- of the driver that promises it: at each instant of a creation a crash leaves no mailbox, or the empty one
pub record CommitsCreation {T : Type 0} (grammar : Grammar) (driver : Driver) (path : List ℕ) (fresh : ℕ) (result : Result T StoreFault) (old new : History) : Type 0 where
  pub instants : IsTrue (is_crash_safe driver) → Now old (λ w. NonePending w.disk × IsNowhere path w.disk)
      → Ran (λ start instant. LeavesNoneOr (λ image contents. Means grammar driver path image (Ok contents)) path (created_contents driver fresh) instant) old new
  pub durable : IsTrue (is_crash_safe driver) → Now old (λ w. NonePending w.disk × IsNowhere path w.disk) → OnOk result (Now new (λ w. IsDurable driver path w.disk))

-- of the same: at each instant of a removal, of an ill-formed mailbox too, a crash leaves its files as they were, or no mailbox
pub record CommitsRemoval (driver : Driver) (path : List ℕ) (result : Result (Unit {0}) StoreFault) (old new : History) : Type 0 where
  pub instants : IsTrue (is_crash_safe driver) → Now old (λ w. IsDurable driver path w.disk)
      → Ran (λ start instant. LeavesNoneOrAll path (IsOwn driver path) (seen start) instant) old new
  pub durable : IsTrue (is_crash_safe driver) → Now old (λ w. IsDurable driver path w.disk) → OnOk result (Now new (λ w. NonePending w.disk × IsNowhere path w.disk))
