-- What the drafts of files stand for.
use Rattle.std.specs.Prelude.{ℕ, List, [], ◌∷◌, ◌≡◌, ◌<◌, length, map, reverse, slice_index_or, slice_set, Some, String}
use Rattle.std.specs.declared.alloc.Global.{Global}
use Rattle.std.specs.BTreeMap.{BTreeMap, get_by_text}
use Rattle.file_model.specs.Disk.{Edit, wrote, shortened, FileState, Disk}
use Rattle.mem_host.specs.Crashes.{edited}
use Rattle.mem_host.specs.declared.names.Place.{Place}
use Rattle.mem_host.specs.declared.names.Place.TheVariants.{File}
use Rattle.mem_host.specs.declared.draft.Edit.{Edit as EditData}
use Rattle.mem_host.specs.declared.draft.Edit.TheVariants.{Wrote, Shortened}
use Rattle.mem_host.specs.declared.draft.Draft.{Draft}

abbrev pub edit_of : EditData → Edit
edit_of (Wrote place bytes) = wrote place bytes.now
edit_of (Shortened length) = shortened length

-- the edits of a draft, the newest first
abbrev pub edits_of : List EditData → List Edit
edits_of edits = reverse (map edit_of edits)

-- a draft's durable content and its edits
abbrev pub parts_of : Draft → List ℕ × List Edit
parts_of draft = (draft.durable.items, edits_of draft.edits.items)

-- those of a file
abbrev pub file_parts : FileState → List ℕ × List Edit
file_parts f = (f.durable, f.edits)

-- each file of a disk has its draft
pub record AreDrafts (drafts : List Draft) (disk : Disk) : Type 0 where
  pub count : length drafts ≡ disk.next
  pub each : (id : ℕ) → id < length drafts → (d : Draft) → parts_of (slice_index_or drafts id d) ≡ file_parts (disk.files id)

-- a name leads to a file with a draft
abbrev pub LeadsToDraft : List ℕ → BTreeMap (String Global) Place → List Draft → Type 0
LeadsToDraft path names drafts = (id : ℕ) × (get_by_text names path ≡ Some (File id)) × (id < length drafts)

abbrev pub add_edit : Edit → List ℕ × List Edit → List ℕ × List Edit
add_edit edit parts = (parts.0, edit ∷ parts.1)

abbrev pub settle_edits : List ℕ × List Edit → List ℕ × List Edit
settle_edits parts = (edited parts.1 parts.0, [])

-- The draft of the file that a name leads to was changed, and no other.
pub record IsRedrafted (path : List ℕ) (change : List ℕ × List Edit → List ℕ × List Edit) (names : BTreeMap (String Global) Place) (old new : List Draft) : Type 0 where
  pub id : ℕ
  pub draft : Draft
  pub leads : get_by_text names path ≡ Some (File id)
  pub below : id < length old
  pub is : (d : Draft) → parts_of draft ≡ change (parts_of (slice_index_or old id d))
  pub whole : new ≡ slice_set old id draft
