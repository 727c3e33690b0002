-- The mailboxes that a driver can have, and the contents that its files can say.
use Rattle.std.specs.Prelude.{ℕ, false, List, [], ◌≡◌, ◌≤◌, None, length, map}
use Rattle.std.specs.List.{AllByRecursion}
use Rattle.mail_fields.specs.Keyword.{IsKeyword}
use Rattle.mail_types.specs.declared.contents.Placing.TheVariants.{InPlace, Numbered}
use Rattle.mail_types.specs.declared.contents.StoreContents.{StoreContents}
use Rattle.mail_types.specs.declared.driver.Driver.{Driver}
use Rattle.mail_types.specs.declared.driver.Driver.TheVariants.{Unix, Mmdf, Mh}
use Rattle.mail_types.specs.declared.mailbox.Mailbox.{Mailbox}
use Rattle.mail_types.specs.declared.message.Record.{Record}
use Rattle.mail_types.specs.Drivers.{keeps_of}
use Rattle.mail_types.specs.Keeping.{take_record, kept_record}
use Rattle.mail_types.specs.Limits.{has_many, has_large_text}
use Rattle.mail_types.specs.Lists.{named}
use Rattle.mail_types.specs.Mailboxes.{IsMailbox, greatest_number}
use Rattle.mail_types.specs.Opening.{IsOpenable, highest, uids_of, greatest_given}
use Rattle.mail_types.specs.Stored.{stored_record, stored_contents, empty_placing, empty_mailbox}

-- the greatest UID that the driver can write
abbrev pub greatest_written : Driver → ℕ
greatest_written Unix = greatest_given
greatest_written Mmdf = greatest_given
greatest_written driver = greatest_number

-- A driver can have a mailbox: it is within the limits of messages and texts, in the driver's form but for flags, and each keyword bit has a name. Without modification numbers all of them are 0.
pub record CanSpell (driver : Driver) (m : Mailbox) : Type 0 where
  pub mailbox : IsMailbox m
  pub names : AllByRecursion IsKeyword m.words
  pub few : length m.words ≤ (keeps_of driver).words
  pub many : has_many m.records ≡ false
  pub large : has_large_text m.records ≡ false
  pub in_form : AllByRecursion (λ r. take_record (keeps_of driver) r ≡ r) m.records
  pub named : AllByRecursion (λ r. named (length m.words) r ≡ r) m.records
  pub last : m.last ≤ greatest_written driver
  pub unnumbered : (keeps_of driver).numbers ≡ false → m.number ≡ 0

-- where the driver has messages in the contents of its files
abbrev pub IsPlaced : Driver → StoreContents → Type 0
IsPlaced Mh contents = (numbers : List ℕ) × (directory : ℕ) × (contents.placing ≡ Numbered numbers directory) × (length numbers ≡ length contents.records)
IsPlaced driver contents = contents.placing ≡ InPlace

-- What files of the driver say: it opens as a mailbox, in the driver's own form, and each keyword bit has a name.
pub record IsFound (driver : Driver) (contents : StoreContents) : Type 0 where
  pub openable : IsOpenable contents
  pub names : AllByRecursion IsKeyword contents.words
  pub few : length contents.words ≤ (keeps_of driver).words
  pub in_form : AllByRecursion (λ r. stored_record (keeps_of driver) r ≡ r) contents.records
  pub named : AllByRecursion (λ r. named (length contents.words) r ≡ r) contents.records
  pub last : highest contents.last (uids_of contents.records) ≤ greatest_written driver
  pub unnumbered : (keeps_of driver).numbers ≡ false → contents.number ≡ 0
  pub lasting : (keeps_of driver).uids ≡ false → (contents.validity ≡ None) × (contents.last ≡ 0)
  pub placed : IsPlaced driver contents

abbrev pub without_uid : Record → Record
without_uid r = record r { uid = 0 }

-- The files say what is stored of the mailbox, but for UIDs, which its opening may have given, and for flags that aren't kept.
pub record IsBacked (driver : Driver) (before : StoreContents) (prior : Mailbox) : Type 0 where
  pub words : before.words ≡ prior.words
  pub number : before.number ≡ prior.number
  pub records : map without_uid before.records ≡ map (λ r. without_uid (kept_record (keeps_of driver) r)) prior.records

-- what is stored of a mailbox that is written from nothing
abbrev pub contents_of : Driver → Mailbox → StoreContents
contents_of driver m =
    stored_contents driver (record { validity = None; number = 0; last = 0; words = []; records = []; placing = empty_placing driver }) (empty_mailbox driver m.validity) m
