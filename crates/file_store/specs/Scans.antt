-- What a layout finds in a file, and what it leaves of one.
use Rattle.std.specs.Prelude.{ℕ, false, List, ◌≡◌, ◌≤◌, ◌+◌, ◌*◌, ◌⊎◌, nat_lt, Some, length, take}
use Rattle.std.specs.List.{list_any}
use Rattle.mail_types.specs.Limits.{file_limit, record_limit, text_limit}
use Rattle.store_trait.specs.declared.store.Info.{Info}
use Rattle.file_model.specs.Disk.{seen}
use Rattle.file_model.specs.Histories.{History, Now}
use Rattle.file_model.specs.Images.{Image, bytes_at, node_at, file}
use Rattle.mail_types.specs.declared.contents.StoreContents.{StoreContents}
use Rattle.mail_types.specs.declared.driver.Driver.{Driver}
use Rattle.mail_types.specs.declared.driver.Driver.TheVariants.{Mbx, Mtx}
use Rattle.store_trait.specs.declared.change.Change.{Change}
use Rattle.store_trait.specs.declared.faults.OpenFault.{OpenFault}
use Rattle.store_trait.specs.declared.faults.OpenFault.TheVariants.{Absent, IllFormed, TooLarge, Failed, Memory}
use Rattle.store_index.specs.States.{ToldState}
use Rattle.store_index.specs.declared.opening.Found.{Found}
use Rattle.store_index.specs.Opened.{contents_at}
use Rattle.file_store.specs.Forms.{ReadForm}
use Rattle.file_store.specs.Standing.{IsSizedBy, mailbox_in}

-- a fact of the bytes of the file at a path, where the host tells them
abbrev pub OfFile : History → (path : List ℕ) → (List ℕ → Type 0) → Type 0
OfFile history path P = Now history (λ w. (bytes : List ℕ) → bytes_at (seen w.disk) path ≡ Some bytes → P bytes)

-- a file says what was found
pub record IsScanned (form : ReadForm) (holds : List ℕ → Type 0) (f : Found) (bytes : List ℕ) : Type 0 where
  pub records : ℕ
  pub spelled : form.file.spells bytes (contents_at f (form.texts bytes)) records
  pub sized : IsSizedBy f.infos.items (form.texts bytes)
  pub places : holds bytes

-- some first bytes of a file are spelled, with so many records
abbrev pub HasFront : ReadForm → List ℕ → ℕ → Type 0
HasFront form bytes records = (long : ℕ) × (contents : StoreContents) × form.file.spells (take long bytes) contents records

-- so many records has the longest first part of a file that is spelled, 0 where none is
pub record HasWholeFront (form : ReadForm) (bytes : List ℕ) (records : ℕ) : Type 0 where
  pub found : HasFront form bytes records ⊎ ((records ≡ 0) × ((n : ℕ) → HasFront form bytes n → ⊥))
  pub greatest : (n : ℕ) → HasFront form bytes n → n ≤ records

-- a file says nothing; and so many whole records has it
pub record IsNoFile (form : ReadForm) (bytes : List ℕ) (records : ℕ) : Type 0 where
  pub none : (contents : StoreContents) (n : ℕ) → form.file.spells bytes contents n → ⊥
  pub whole : HasWholeFront form bytes records

-- why a file isn't scanned; it has no other fault
abbrev pub RefusesScan : Driver → ReadForm → OpenFault → History → (path : List ℕ) → Type 0
RefusesScan driver form Failed old path = Unit {0}
RefusesScan driver form Memory old path = Unit {0}
RefusesScan driver form (IllFormed named records) old path = OfFile old path (λ bytes. (named ≡ driver) × IsNoFile form bytes records)
RefusesScan driver form Absent old path = ⊥
RefusesScan driver form (TooLarge limit) old path = ⊥

-- what is left of a file is its rewritten text, and the places of it hold
pub record IsRewritten (form : ReadForm) (told : ToldState) (change : Change) (bytes : List ℕ) (after : List ℕ) (holds : List ℕ → Type 0) : Type 0 where
  pub is : after ≡ form.file.rewritten bytes (mailbox_in form told bytes) change
  pub places : holds after

-- a file of this length stands at a path
abbrev pub HasFile : List ℕ → ℕ → Image → Type 0
HasFile path long image = (bytes : List ℕ) × (node_at image path ≡ file bytes) × (long ≡ length bytes)

-- the file at a path says what was found, and passes no limit
pub record IsWithin (form : ReadForm) (holds : List ℕ → Type 0) (f : Found) (path : List ℕ) (image : Image) : Type 0 where
  pub bytes : List ℕ
  pub has : bytes_at image path ≡ Some bytes
  pub short : length bytes ≤ file_limit
  pub scanned : IsScanned form holds f bytes
  pub few : length f.infos.items ≤ record_limit
  pub none_large : list_any (λ (i : Info). nat_lt text_limit i.size) f.infos.items ≡ false

-- so many bytes are enough to scan a file: for mbx and mtx by the number of whole records
abbrev pub IsEnoughOf : Driver → ReadForm → List ℕ → ℕ → Type 0
IsEnoughOf Mbx form bytes most = (records : ℕ) × HasWholeFront form bytes records × (most ≡ 4096 + 256 * records)
IsEnoughOf Mtx form bytes most = (records : ℕ) × HasWholeFront form bytes records × (most ≡ 4096 + 256 * records)
IsEnoughOf driver form bytes most = ⊥

-- no number of a driver of one file is its own
abbrev pub NoneEnough : List ℕ → Image → ℕ → Type 0
NoneEnough path image most = ⊥
