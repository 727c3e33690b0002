-- Where the records of an mbx file stand.
use Rattle.std.specs.Prelude.{ℕ, ◌+◌, ◌^◌, ◌≡◌, ◌≤◌, List, [], ◌∷◌, ◌++◌, Some, if◌then◌else◌, length}
use Rattle.std.specs.List.{AllByRecursion}
use Rattle.mail_types.specs.Flags.{has_bit}
use Rattle.mbx_form.specs.Form.{MbxFile, file_of}
use Rattle.mbx_form.specs.Heads.{head_text}
use Rattle.mbx_form.specs.Records.{FileRecord, record_text}
use Rattle.mbx_store.specs.declared.place.MbxPlace.{MbxPlace}

-- the place of a record whose head begins at a byte
abbrev pub place_at : ℕ → FileRecord → MbxPlace
place_at at r = record { at = at; head = length (head_text r.pieces); size = r.head.size; words = r.head.words; bits = r.head.bits }

-- the places of records that stand one behind the other from a byte on
abbrev pub places_from : ℕ → List FileRecord → List MbxPlace
places_from at [] = []
places_from at (r ∷ rest) = place_at at r ∷ places_from (at + length (record_text r)) rest

-- the file that bytes are has these places
pub record HasPlaces (places : List MbxPlace) (bytes : List ℕ) : Type 0 where
  pub file : MbxFile
  pub reads : file_of bytes ≡ Some file
  pub places_are : places ≡ places_from 2048 file.records

-- where the text of a message begins; another record has none
abbrev pub start_of : MbxPlace → List ℕ
start_of p = if has_bit 32768 p.bits then [] else (p.at + p.head) ∷ []

abbrev pub starts_of : List MbxPlace → List ℕ
starts_of [] = []
starts_of (p ∷ rest) = start_of p ++ starts_of rest

-- a record ends no later than at a byte
abbrev pub EndsBy : ℕ → MbxPlace → Type 0
EndsBy most p = p.at + p.head + p.size ≤ most

-- a record ends within what a number of 64 bits can say, and far from its end
abbrev pub IsNear : MbxPlace → Type 0
IsNear p = EndsBy (2 ^ 63) p

-- what a layout has on every host
pub record IsLayout (places : List MbxPlace) (starts : List ℕ) : Type 0 where
  pub starts_are : starts ≡ starts_of places
  pub near : AllByRecursion IsNear places
