-- Names and contents that are what reads see of a disk.
use Rattle.std.specs.Prelude.{ℕ, Bool, not, ◌≡◌, ◌<◌, ◌≤◌, List, map, string_bytes, Option, Some, None, length, String, Vec, slice_index_or, slice_set}
use Rattle.std.specs.declared.alloc.Global.{Global}
use Rattle.std.specs.BTreeMap.{BTreeMap, get_by_text}
use Rattle.std.specs.FinMap.{get}
use Rattle.file_model.specs.Paths.{is_at_or_inside}
use Rattle.file_model.specs.Images.{Entry, Names, a_file, a_directory}
use Rattle.file_model.specs.Disk.{Disk, seen_names}
use Rattle.mem_host.specs.declared.names.Place.{Place}
use Rattle.mem_host.specs.declared.names.Place.TheVariants.{File, Dir}

-- a place, as the disk has it
abbrev pub place_entry : Place → Entry
place_entry (File id) = a_file id
place_entry Dir = a_directory

abbrev pub entry_of : Option Place → Option Entry
entry_of None = None
entry_of (Some place) = Some (place_entry place)

-- A map of names leads where those of the model lead.
abbrev pub Shows : BTreeMap (String Global) Place → Names → Type 0
Shows names old = (path : List ℕ) → entry_of (get_by_text names path) ≡ get old path

-- names with their places, as the model has them
abbrev pub shown : List (String Global × Place) → List (List ℕ × Entry)
shown named = map (λ e. (string_bytes e.0, place_entry e.1)) named

-- a path that isn't a directory's and doesn't lead into it
abbrev pub stays : List ℕ → List ℕ → Bool
stays dir path = not (is_at_or_inside dir path)

-- The names lead where those of the disk lead, and each file has the bytes that reads see.
pub record Mirrors (names : BTreeMap (String Global) Place) (contents : List (Vec ℕ Global)) (disk : Disk) : Type 0 where
  pub shows : Shows names (seen_names disk)
  pub count : length contents ≡ disk.next
  pub bytes : (id : ℕ) → id < length contents → (d : Vec ℕ Global) → (slice_index_or contents id d).items ≡ (disk.files id).seen

-- a file that a name leads to has its content
abbrev pub IsStored : List ℕ → BTreeMap (String Global) Place → List (Vec ℕ Global) → Type 0
IsStored path names contents = (id : ℕ) → get_by_text names path ≡ Some (File id) → id < length contents

-- a name leads to a file that reaches a place
abbrev pub LeadsTo : List ℕ → ℕ → BTreeMap (String Global) Place → List (Vec ℕ Global) → Type 0
LeadsTo path place names contents = (id : ℕ) × (get_by_text names path ≡ Some (File id)) × (id < length contents) × ((d : Vec ℕ Global) → place ≤ length (slice_index_or contents id d).items)

-- The content of the file that a name leads to was changed, and no other.
pub record IsChanged (path : List ℕ) (change : List ℕ → List ℕ) (names : BTreeMap (String Global) Place) (old new : List (Vec ℕ Global)) : Type 0 where
  pub id : ℕ
  pub content : Vec ℕ Global
  pub leads : get_by_text names path ≡ Some (File id)
  pub below : id < length old
  pub is : (d : Vec ℕ Global) → content.items ≡ change (slice_index_or old id d).items
  pub whole : new ≡ slice_set old id content

-- The contents have the same bytes.
pub record IsSame (old new : List (Vec ℕ Global)) : Type 0 where
  pub count : length new ≡ length old
  pub bytes : (id : ℕ) → id < length old → (d : Vec ℕ Global) → (slice_index_or new id d).items ≡ (slice_index_or old id d).items
