-- What a scan of an mbx file finds.
use Rattle.std.specs.Prelude.{ℕ, ◌+◌, ◌*◌, ◌≡◌, ◌≤◌, ◌%◌, ◌^◌, nat_le, List, [], ◌∷◌, ◌++◌, Option, Some, None, if◌then◌else◌, length, drop}
use Rattle.std.specs.List.{AllByRecursion}
use Rattle.file_model.specs.Histories.{History}
use Rattle.mail_types.specs.declared.driver.Driver.TheVariants.{Mbx}
use Rattle.mail_types.specs.Flags.{flags_of_bits, has_bit}
use Rattle.store_trait.specs.declared.faults.OpenFault.{OpenFault}
use Rattle.store_trait.specs.declared.faults.OpenFault.TheVariants.{Absent, IllFormed, TooLarge, Failed, Memory}
use Rattle.store_trait.specs.declared.store.Info.{Info}
use Rattle.file_store.specs.Scans.{OfFile}
use Rattle.mbx_form.specs.declared.head.MbxHead.{MbxHead}
use Rattle.mbx_form.specs.Records.{FileRecord, records_text}
use Rattle.mbx_form.proofs.Records.{IsRecord}
use Rattle.mbx_form.proofs.Scanning.{StopsAt}
use Rattle.mbx_store.specs.declared.place.MbxPlace.{MbxPlace}
use Rattle.mbx_store.specs.Places.{places_from}

-- ---- One record

-- what is told of the message of a head, where so many keywords have names
abbrev pub info_at : (names : ℕ) → MbxHead → Info
info_at names head = record { uid = head.uid; stamp = head.stamp; flags = flags_of_bits head.bits; words = head.words % 2 ^ names; size = head.size }

-- the same of a record, which may be no message
abbrev pub infos_at : (names : ℕ) → MbxHead → List Info
infos_at names head = if has_bit 32768 head.bits then [] else info_at names head ∷ []

-- the place of a record with a head of a width, in a file that is so long
abbrev pub place_of : (at long : ℕ) → MbxHead → (width : ℕ) → Option MbxPlace
place_of at long head width =
    if nat_le (at + width + head.size) long then Some (record { at = at; head = width; size = head.size; words = head.words; bits = head.bits }) else None

abbrev pub with_head : MbxHead → Option MbxPlace → Option (MbxHead × MbxPlace)
with_head head None = None
with_head head (Some p) = Some (head, p)

-- the record that a head and its width make, where the file has its text
abbrev pub with_place : (at long : ℕ) → Option (MbxHead × ℕ) → Option (MbxHead × MbxPlace)
with_place at long None = None
with_place at long (Some found) = with_head found.0 (place_of at long found.0 found.1)

-- the place of a head within a file
pub record IsPlaceOf (at long : ℕ) (head : MbxHead) (p : MbxPlace) : Type 0 where
  pub begins : p.at ≡ at
  pub some : 1 ≤ p.head
  pub size : p.size ≡ head.size
  pub ends : p.at + p.head + p.size ≤ long

-- ---- All records

-- what is told of the messages among records
abbrev pub infos_of : (names : ℕ) → List FileRecord → List Info
infos_of names [] = []
infos_of names (r ∷ rest) = infos_at names r.head ++ infos_of names rest

-- these records stand one by one behind the header, up to a byte
pub record AreRead (bytes : List ℕ) (rs : List FileRecord) (at : ℕ) : Type 0 where
  pub are : AllByRecursion IsRecord rs
  pub text : drop 2048 bytes ≡ records_text rs ++ drop at bytes
  pub ends : at ≡ 2048 + length (records_text rs)

-- the records up to a byte have these places, and this is told of them
pub record AreFound (names : ℕ) (bytes : List ℕ) (at : ℕ) (places : List MbxPlace) (infos : List Info) : Type 0 where
  pub records : List FileRecord
  pub read : AreRead bytes records at
  pub places_are : places ≡ places_from 2048 records
  pub infos_are : infos ≡ infos_of names records

-- the same of all records
pub record AreAll (names : ℕ) (bytes : List ℕ) (places : List MbxPlace) (infos : List Info) : Type 0 where
  pub records : List FileRecord
  pub are : AllByRecursion IsRecord records
  pub text : drop 2048 bytes ≡ records_text records
  pub places_are : places ≡ places_from 2048 records
  pub infos_are : infos ≡ infos_of names records

-- so many records stand behind the header, and then something that begins none
pub record IsStopped (bytes : List ℕ) (count : ℕ) : Type 0 where
  pub records : List FileRecord
  pub rest : List ℕ
  pub stops : StopsAt bytes records rest
  pub some : 1 ≤ length rest
  pub counts : count ≡ length records

-- a call failed, or memory is wanting
abbrev pub IsHostFault : OpenFault → Type 0
IsHostFault Failed = Unit {0}
IsHostFault Memory = Unit {0}
IsHostFault fault = ⊥

-- why records aren't found; there is no other fault
abbrev pub RefusesRecords : OpenFault → History → (path : List ℕ) → Type 0
RefusesRecords Failed old path = Unit {0}
RefusesRecords Memory old path = Unit {0}
RefusesRecords (IllFormed named count) old path = OfFile old path (λ bytes. (named ≡ Mbx) × IsStopped bytes count)
RefusesRecords Absent old path = ⊥
RefusesRecords (TooLarge limit) old path = ⊥

-- for some records that stand behind the header, 61 bytes were read for each and for one more
pub record FewRead (bytes : List ℕ) (old new : ℕ) : Type 0 where
  pub records : List FileRecord
  pub rest : List ℕ
  pub are : AllByRecursion IsRecord records
  pub text : drop 2048 bytes ≡ records_text records ++ rest
  pub few : new ≤ old + 61 * (length records + 1)
