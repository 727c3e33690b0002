-- What remains of a disk stand for.
use Rattle.std.specs.Prelude.{ℕ, List, ◌≡◌, map, reverse}
use Rattle.file_model.specs.Disk.{DirectoryOperation, made, made_directory, moved_file, moved_directory, removed, Disk, FileState, Call, AreBytes, Edit, wrote, shortened, seen, seen_names}
use Rattle.std.specs.List.{AllByRecursion}
use Rattle.file_model.specs.Kinds.{Fits}
use Rattle.file_model.specs.Kept.{IsSound}
use Rattle.mem_host.specs.Mirrored.{Shows}
use Rattle.mem_host.specs.Crashes.{edited}
use Rattle.mem_host.specs.Drafts.{AreDrafts}
use Rattle.mem_host.specs.declared.remains.Operation.{Operation}
use Rattle.mem_host.specs.declared.remains.Operation.TheVariants.{Made, MadeDirectory, MovedFile, MovedDirectory, Removed}
use Rattle.mem_host.specs.declared.remains.Remains.{Remains}

abbrev pub operation_of : Operation → DirectoryOperation
operation_of (Made path id) = made path.now id
operation_of (MadeDirectory path) = made_directory path.now
operation_of (MovedFile from to id) = moved_file from.now to.now id
operation_of (MovedDirectory from to) = moved_directory from.now to.now
operation_of (Removed path) = removed path.now

-- the newest first
abbrev pub operations_of : List Operation → List DirectoryOperation
operations_of operations = reverse (map operation_of operations)

-- They are those of the disk.
pub record IsRemains (remains : Remains) (disk : Disk) : Type 0 where
  pub names : Shows remains.names (seen_names disk)
  pub durable : Shows remains.durable disk.durable
  pub pending : operations_of remains.pending.items ≡ disk.pending
  pub drafts : AreDrafts remains.files.items disk

abbrev pub IsByteEdit : Edit → Type 0
IsByteEdit (wrote place bytes) = AreBytes bytes
IsByteEdit (shortened l) = Unit {0}

-- What reads see of a file is its durable content with all edits done, and what was written are bytes.
pub record IsTidyFile (f : FileState) : Type 0 where
  pub is_seen : f.seen ≡ edited f.edits f.durable
  pub are_bytes : AllByRecursion IsByteEdit f.edits

abbrev pub IsTidy : Disk → Type 0
IsTidy disk = (id : ℕ) → IsTidyFile (disk.files id)

-- They are those of a sound disk that a call fits.
pub record CanStep (call : Call) (remains : Remains) : Type 0 where
  pub disk : Disk
  pub sound : IsSound disk
  pub is : IsRemains remains disk
  pub fit : Fits call (seen disk)
