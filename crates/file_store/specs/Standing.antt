-- What a store of one file stands for.
use Rattle.std.specs.Prelude.{ℕ, Bool, true, false, List, [], ◌≡◌, ◌⊎◌, Some, None, length, map, unwrap_or}
use Rattle.file_model.specs.Disk.{Disk, seen}
use Rattle.file_model.specs.Images.{Image, bytes_at}
use Rattle.mail_types.specs.declared.contents.StoreContents.{StoreContents}
use Rattle.mail_types.specs.declared.driver.Driver.{Driver}
use Rattle.mail_types.specs.declared.driver.Limit.TheVariants.{File}
use Rattle.mail_types.specs.declared.mailbox.Mailbox.{Mailbox}
use Rattle.mail_types.specs.Drivers.{keeps_of}
use Rattle.store_trait.specs.declared.change.Change.{Change}
use Rattle.store_trait.specs.declared.faults.StoreFault.{StoreFault}
use Rattle.store_trait.specs.declared.faults.StoreFault.TheVariants.{NoUid, TooMany, TooLarge}
use Rattle.store_trait.specs.declared.store.Info.{Info}
use Rattle.store_trait.specs.Changes.{changed_mailbox}
use Rattle.store_trait.specs.Having.{CanSpell, IsBacked}
use Rattle.store_trait.specs.Views.{View}
use Rattle.store_index.specs.States.{ToldState, told_as}
use Rattle.store_index.specs.Fronts.{FrontState}
use Rattle.store_index.specs.Steps.{told_due}
use Rattle.store_index.specs.Told.{mailbox_at}
use Rattle.file_store.specs.Forms.{ReadForm, IsShortFile, is_long_append}

-- the sizes that are told are those of the texts
abbrev pub IsSizedBy : List Info → List (List ℕ) → Type 0
IsSizedBy infos texts = map (λ (i : Info). i.size) infos ≡ map (λ (t : List ℕ). length t) texts

-- the mailbox that is told, with the texts of a file
abbrev pub mailbox_in : ReadForm → ToldState → List ℕ → Mailbox
mailbox_in form told bytes = mailbox_at told (form.texts bytes)

-- what is told is what a file of these bytes says, and the driver can have it
pub record IsTold (driver : Driver) (form : ReadForm) (told : ToldState) (bytes : List ℕ) : Type 0 where
  pub contents : StoreContents
  pub records : ℕ
  pub spelled : form.file.spells bytes contents records
  pub sized : IsSizedBy told.infos (form.texts bytes)
  pub backed : IsBacked driver contents (mailbox_in form told bytes)
  pub can : CanSpell driver (mailbox_in form told bytes)
  pub short : IsShortFile driver bytes

-- the mailbox that a change makes of what is told
abbrev pub changed_in : Driver → ReadForm → ToldState → List ℕ → Change → Mailbox
changed_in driver form told bytes change = changed_mailbox (keeps_of driver) (mailbox_in form told bytes) change

-- the length of what is written of it from nothing
abbrev pub changed_length : Driver → ReadForm → ToldState → List ℕ → Change → ℕ
changed_length driver form told bytes change = length (form.file.written (changed_in driver form told bytes change))

-- the file stands that was told of, and its places hold
pub record StandsOn (driver : Driver) (form : ReadForm) (holds : List ℕ → Type 0) (path : List ℕ) (told : ToldState) (image : Image) : Type 0 where
  pub bytes : List ℕ
  pub has : bytes_at image path ≡ Some bytes
  pub places : holds bytes
  pub is : IsTold driver form told bytes

abbrev pub file_view : Driver → ReadForm → (List ℕ → Type 0) → FrontState → View
file_view driver form holds s = record {
  driver = driver;
  path = s.path;
  broken = s.broken;
  summary = told_as s.told;
  mailbox = λ image. mailbox_in form s.told (unwrap_or (bytes_at image s.path) []);
  stands = λ image. StandsOn driver form holds s.path s.told image;
}

-- wherever the places hold, the file has room for the append
abbrev pub Fits : Driver → ReadForm → (List ℕ → Type 0) → ToldState → Change → Type 0
Fits driver form holds told change = (bytes : List ℕ) → holds bytes → IsTold driver form told bytes → is_long_append change (changed_length driver form told bytes change) ≡ false

-- a refusal that speaks of a limit
abbrev pub is_limit : StoreFault → Bool
is_limit NoUid = true
is_limit TooMany = true
is_limit (TooLarge limit) = true
is_limit fault = false

-- the refusal is due by what is told, or else by the length of the file
pub record IsRefused (driver : Driver) (form : ReadForm) (holds : List ℕ → Type 0) (told : ToldState) (change : Change) (fault : StoreFault) : Type 0 where
  pub named : is_limit fault ≡ true
  pub due : (told_due (keeps_of driver) told change ≡ Some fault)
      ⊎ ((told_due (keeps_of driver) told change ≡ None) × (fault ≡ TooLarge File)
      × ((bytes : List ℕ) → holds bytes → IsTold driver form told bytes → is_long_append change (changed_length driver form told bytes change) ≡ true))

-- the file at the path is rewritten for a change
abbrev pub IsTurned : ReadForm → (path : List ℕ) → ToldState → Change → (List ℕ → Type 0) → Disk → Disk → Type 0
IsTurned form path told change holds start end = (bytes : List ℕ) → bytes_at (seen start) path ≡ Some bytes
    → (bytes_at (seen end) path ≡ Some (form.file.rewritten bytes (mailbox_in form told bytes) change)) × holds (form.file.rewritten bytes (mailbox_in form told bytes) change)
