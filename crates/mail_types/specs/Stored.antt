-- What is written back of a mailbox.
use Rattle.std.specs.Prelude.{ℕ, List, [], ◌∷◌, ◌+◌, ◌==◌, max, Option, Some, None, if◌then◌else◌, map, unwrap_or, is_some}
use Rattle.mail_types.specs.declared.contents.Placing.{Placing}
use Rattle.mail_types.specs.declared.contents.Placing.TheVariants.{InPlace, Numbered}
use Rattle.mail_types.specs.declared.contents.StoreContents.{StoreContents}
use Rattle.mail_types.specs.declared.driver.Driver.{Driver}
use Rattle.mail_types.specs.declared.driver.Driver.TheVariants.{Mh}
use Rattle.mail_types.specs.declared.driver.Keeps.{Keeps}
use Rattle.mail_types.specs.declared.mailbox.Mailbox.{Mailbox}
use Rattle.mail_types.specs.declared.message.Record.{Record}
use Rattle.mail_types.specs.Drivers.{keeps_of}
use Rattle.mail_types.specs.Keeping.{kept_record}
use Rattle.mail_types.specs.Opening.{greatest}

-- a message as the driver keeps it, under its UID or, where UIDs don't last, none
abbrev pub stored_record : Keeps → Record → Record
stored_record keeps r = if keeps.uids then kept_record keeps r else record (kept_record keeps r) { uid = 0 }

-- ---- Where messages stand

-- the file number that a message had, which remains where its UID is one of the mailbox from before the change, the numbers standing in the order of the messages
abbrev pub number_of_uid : List Record → List ℕ → ℕ → Option ℕ
number_of_uid [] numbers uid = None
number_of_uid (r ∷ rest) [] uid = None
number_of_uid (r ∷ rest) (n ∷ numbers) uid = if r.uid == uid then Some n else number_of_uid rest numbers uid

-- messages that remain keep their file numbers, and each new one takes the next
abbrev pub stored_numbers : (prior : List Record) → List ℕ → (next : ℕ) → List Record → List ℕ
stored_numbers prior numbers next [] = []
stored_numbers prior numbers next (r ∷ rest) =
    let kept = number_of_uid prior numbers r.uid in
    unwrap_or kept next ∷ stored_numbers prior numbers (if is_some kept then next else next + 1) rest

-- where the messages then stand
abbrev pub stored_placing : Placing → (prior now : List Record) → Placing
stored_placing InPlace prior now = InPlace
stored_placing (Numbered numbers directory) prior now = Numbered (stored_numbers prior numbers (max (greatest numbers) directory + 1) now) directory

-- ---- The contents

-- What is written of the mailbox `now`. Before the change the files said `before`, and the store stood for the mailbox `prior`, message by message.
abbrev pub stored_contents : Driver → (before : StoreContents) → (prior now : Mailbox) → StoreContents
stored_contents driver before prior now = let keeps = keeps_of driver in record {
  validity = if keeps.uids then Some now.validity else None;
  number = if keeps.numbers then now.number else 0;
  last = if keeps.uids then now.last else 0;
  words = if keeps.uids then now.words else [];
  records = map (stored_record keeps) now.records;
  placing = stored_placing before.placing prior.records now.records;
}

-- ---- Creation

-- a mailbox without messages; its modification number is 1 where the driver has them
abbrev pub empty_mailbox : Driver → (validity : ℕ) → Mailbox
empty_mailbox driver validity = record { validity = validity; number = if (keeps_of driver).numbers then 1 else 0; last = 0; words = []; records = [] }

abbrev pub empty_placing : Driver → Placing
empty_placing Mh = Numbered [] 0
empty_placing driver = InPlace

-- what is written of a new mailbox
abbrev pub created_contents : Driver → (validity : ℕ) → StoreContents
created_contents driver validity =
    stored_contents driver (record { validity = None; number = 0; last = 0; words = []; records = []; placing = empty_placing driver }) (empty_mailbox driver validity) (empty_mailbox driver validity)
