-- The laws of a store's view and of the forms of drivers.
use Rattle.std.specs.Prelude.{ℕ, List, ◌≡◌, ◌≢◌, ◌≤◌, ◌⊎◌, true, false, Bool, None, length, nat_lt, codes}
use Rattle.file_model.specs.Images.{Image, file}
use Rattle.file_model.specs.Paths.{HasNoSlash}
use Rattle.mail_types.specs.declared.contents.StoreContents.{StoreContents}
use Rattle.mail_types.specs.declared.driver.Driver.{Driver}
use Rattle.mail_types.specs.declared.driver.Driver.TheVariants.{Unix, Mmdf, Mh, Mix}
use Rattle.mail_types.specs.declared.mailbox.Mailbox.{Mailbox}
use Rattle.mail_types.specs.Drivers.{keeps_of}
use Rattle.mail_types.specs.Limits.{file_limit}
use Rattle.mail_types.specs.Mailboxes.{greatest_number}
use Rattle.mail_types.specs.Stored.{stored_contents, created_contents}
use Rattle.store_trait.specs.declared.change.Change.{Change}
use Rattle.store_trait.specs.Changes.{CanChange, changed_mailbox, is_nothing, due_refusal, outgrows}
use Rattle.store_trait.specs.Forms.{FileForm, Directory, HasNames, DirectoryForm, Forms, grammar_of}
use Rattle.store_trait.specs.Having.{CanSpell, IsFound, IsBacked, contents_of}
use Rattle.store_trait.specs.Meaning.{AgreeAt, IsWritten}
use Rattle.store_trait.specs.OwnPaths.{RestsOn, is_content_name}
use Rattle.store_trait.specs.Views.{View, summary_of}

-- ---- A change that is done

-- A change of a mailbox does something, and no refusal is due; the driver can have the mailbox before it and after it. Before it the files said `before`.
pub record ComesBy (written_length : Mailbox → ℕ) (driver : Driver) (before : StoreContents) (prior : Mailbox) (change : Change) : Type 0 where
  pub can : CanChange (keeps_of driver) prior.words (length prior.records) change
  pub some : is_nothing prior.words change ≡ false
  pub due : due_refusal written_length driver before prior change ≡ None
  pub was : CanSpell driver prior
  pub is : CanSpell driver (changed_mailbox (keeps_of driver) prior change)
  pub backed : IsBacked driver before prior

-- ---- A mailbox in one file

-- the file of these drivers may pass 512 MiB by a change of flags
abbrev pub may_outgrow : Driver → Bool
may_outgrow Unix = true
may_outgrow Mmdf = true
may_outgrow driver = false

-- What bytes say is one thing, and is decided. It holds too where no bytes say anything, as of a driver that doesn't stand yet.
pub record IsFileReading (driver : Driver) (form : FileForm) : Type 0 where
  -- bytes say one thing, and whether they say anything is decided; a pseudo message and a marked record count too
  pub one_reading : (bytes : List ℕ) (one other : StoreContents) (few many : ℕ) → form.spells bytes one few → form.spells bytes other many → (one ≡ other) × (few ≡ many)
  pub decides : (bytes : List ℕ) → ((contents : StoreContents) × ((records : ℕ) × form.spells bytes contents records))
      ⊎ ((contents : StoreContents) (records : ℕ) → form.spells bytes contents records → ⊥)
  pub counts : (bytes : List ℕ) (contents : StoreContents) (records : ℕ) → form.spells bytes contents records → length contents.records ≤ records
  pub found : (bytes : List ℕ) (contents : StoreContents) (records : ℕ) → form.spells bytes contents records → IsFound driver contents

pub record IsFileForm (driver : Driver) (form : FileForm) : Type 0 where
  pub reads : IsFileReading driver form
  -- each mailbox that the driver can have is said by the text that is written of it
  pub again : (m : Mailbox) → CanSpell driver m → (records : ℕ) × form.spells (form.written m) (contents_of driver m) records
  -- what a change leaves of a file says what is stored of the mailbox, and passes no limit but where that of a whole new text does
  pub goes_on : (bytes : List ℕ) (before : StoreContents) (records : ℕ) (prior : Mailbox) (change : Change) → form.spells bytes before records
      → ComesBy (λ m. length (form.written m)) driver before prior change
      → (more : ℕ) × form.spells (form.rewritten bytes prior change) (stored_contents driver before prior (changed_mailbox (keeps_of driver) prior change)) more
  pub fits : (bytes : List ℕ) (before : StoreContents) (records : ℕ) (prior : Mailbox) (change : Change) → form.spells bytes before records
      → ComesBy (λ m. length (form.written m)) driver before prior change → (may_outgrow driver ≡ false → length bytes ≤ file_limit)
      → nat_lt file_limit (length (form.rewritten bytes prior change)) ≡ outgrows (λ m. length (form.written m)) driver (changed_mailbox (keeps_of driver) prior change)

-- ---- A mailbox in a directory

-- in a directory that is a mix mailbox stands the file by which it is known
abbrev pub IsMarked : Driver → Directory → Type 0
IsMarked Mix files = (bytes : List ℕ) × (files (codes ".mixmeta") ≡ file bytes)
IsMarked driver files = Unit {0}

-- the same of a directory
pub record IsDirectoryReading (driver : Driver) (form : DirectoryForm) : Type 0 where
  -- it rests on what stands under the names of files with content
  pub moves : (one other : Directory) (contents : StoreContents) (records : ℕ) → ((name : List ℕ) → HasNoSlash name → is_content_name driver name ≡ true → other name ≡ one name)
      → form.says one contents records → form.says other contents records
  pub one_reading : (files : Directory) (one other : StoreContents) (few many : ℕ) → form.says files one few → form.says files other many → (one ≡ other) × (few ≡ many)
  pub decides : (files : Directory) → HasNames files → ((contents : StoreContents) × ((records : ℕ) × form.says files contents records))
      ⊎ ((contents : StoreContents) (records : ℕ) → form.says files contents records → ⊥)
  pub found : (files : Directory) (contents : StoreContents) (records : ℕ) → form.says files contents records → IsFound driver contents
  pub marked : (files : Directory) (contents : StoreContents) (records : ℕ) → form.says files contents records → IsMarked driver files

pub record IsDirectoryForm (driver : Driver) (form : DirectoryForm) : Type 0 where
  pub reads : IsDirectoryReading driver form
  -- an empty mailbox can be written, and from any written contents each change for which no refusal is due
  pub again : (validity : ℕ) → validity ≢ 0 → validity ≤ greatest_number → (files : Directory) × (HasNames files × ((records : ℕ) × form.says files (created_contents driver validity) records))
  pub can : (files : Directory) (before : StoreContents) (records : ℕ) (prior : Mailbox) (change : Change) → HasNames files → form.says files before records → ComesBy (λ m. 0) driver before prior change
      → (after : Directory) × (HasNames after × form.rewritten files prior change after)
  -- and what it leaves says what is stored of the mailbox
  pub goes_on : (files after : Directory) (before : StoreContents) (records : ℕ) (prior : Mailbox) (change : Change) → form.says files before records → ComesBy (λ m. 0) driver before prior change
      → form.rewritten files prior change after → (more : ℕ) × form.says after (stored_contents driver before prior (changed_mailbox (keeps_of driver) prior change)) more

-- ---- The laws of a store

-- what files say of a driver's mailboxes is one thing, and is decided
abbrev pub IsReading : Driver → Forms → Type 0
IsReading Mh forms = IsDirectoryReading Mh (forms.directory Mh)
IsReading Mix forms = IsDirectoryReading Mix (forms.directory Mix)
IsReading driver forms = IsFileReading driver (forms.file driver)

abbrev pub IsForm : Driver → Forms → Type 0
IsForm Mh forms = IsDirectoryForm Mh (forms.directory Mh)
IsForm Mix forms = IsDirectoryForm Mix (forms.directory Mix)
IsForm driver forms = IsFileForm driver (forms.file driver)

-- A store knows its driver. Where it stands it tells its mailbox, which its driver can have; it rests on what the files' meaning rests on, and they say what is stored of the mailbox.
pub record IsView (forms : Forms) (v : View) : Type 0 where
  pub known : forms.knows v.driver
  pub summarized : (image : Image) → v.stands image → summary_of (v.mailbox image) ≡ v.summary
  pub can_have : (image : Image) → v.stands image → CanSpell v.driver (v.mailbox image)
  pub stays : (one other : Image) → AgreeAt (RestsOn v.driver v.path) other one → v.stands one → v.stands other × (v.mailbox other ≡ v.mailbox one)
  pub written : (image : Image) → v.stands image → (contents : StoreContents) × IsWritten (grammar_of forms v.driver v.path) image contents × IsBacked v.driver contents (v.mailbox image)
