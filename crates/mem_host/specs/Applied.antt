-- When a call can be done to the names and contents that reads see.
use Rattle.std.specs.Prelude.{ℕ, List, String, Vec}
use Rattle.std.specs.declared.alloc.Global.{Global}
use Rattle.std.specs.BTreeMap.{BTreeMap}
use Rattle.file_model.specs.Disk.{Disk, Call, make, make_dir, write_at, cut, sync, rename, remove_at, sync_dir, seen}
use Rattle.file_model.specs.Kinds.{Fits}
use Rattle.file_model.specs.Kept.{IsSound}
use Rattle.mem_host.specs.Mirrored.{Mirrors}
use Rattle.mem_host.specs.declared.names.Place.{Place}

-- They are those of a sound disk that the call fits.
pub record CanApply (call : Call) (names : BTreeMap (String Global) Place) (contents : List (Vec ℕ Global)) : Type 0 where
  pub disk : Disk
  pub sound : IsSound disk
  pub mirrors : Mirrors names contents disk
  pub fit : Fits call (seen disk)

-- the call may find no memory
abbrev pub TakesMemory : Call → Type 0
TakesMemory (make path) = Unit {0}
TakesMemory (make_dir path) = Unit {0}
TakesMemory (write_at path place bytes) = Unit {0}
TakesMemory (cut path l) = ⊥
TakesMemory (sync path) = ⊥
TakesMemory (rename from to) = Unit {0}
TakesMemory (remove_at path) = ⊥
TakesMemory (sync_dir dir) = ⊥
