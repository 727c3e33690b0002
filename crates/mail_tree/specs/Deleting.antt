-- What stands at a name that is deleted.
use Rattle.std.specs.Prelude.{ℕ, Bool, true, false, List, ◌≡◌, ◌≢◌, ◌⊎◌, ◌&&◌, Some, None, bytes_eq, map, IsPermutation}
use Rattle.std.specs.List.{list_all, list_any}
use Rattle.file_model.specs.Disk.{Disk, seen}
use Rattle.file_model.specs.Images.{Image, nothing, node_at, is_directory, names_in, Agree}
use Rattle.file_model.specs.Paths.{child}
use Rattle.file_model.specs.Reserved.{is_leftover}
use Rattle.mail_types.specs.declared.driver.Driver.{Driver}
use Rattle.store_trait.specs.Meaning.{Stands}
use Rattle.any_store.specs.Choice.{chosen, driver_at, has_file}
use Rattle.any_store.specs.Stores.{is_known}
use Rattle.mail_tree.specs.declared.deleting.Doomed.{Doomed}
use Rattle.mail_tree.specs.declared.deleting.Doomed.TheVariants.{Mailbox, Directory}
use Rattle.mail_tree.specs.declared.fault.TreeFault.{TreeFault}
use Rattle.mail_tree.specs.declared.fault.TreeFault.TheVariants.{Absent, NotStore, Failed, Memory}
use Rattle.mail_tree.specs.Sights.{sees_at}

-- ---- Which it is

-- the driver stands
abbrev pub IsKnownDoomed : Doomed → Type 0
IsKnownDoomed (Mailbox driver) = is_known driver ≡ true
IsKnownDoomed Directory = Unit {0}

-- a mailbox of a driver, or a directory that is none
abbrev pub StandsDoomed : Doomed → (path : List ℕ) → Image → Type 0
StandsDoomed (Mailbox driver) path image = driver_at chosen image path ≡ Some driver
StandsDoomed Directory path image = (is_directory image path ≡ true) × (driver_at chosen image path ≡ None)

-- a name sees it
pub record SeesDoomed (root name : List ℕ) (found : Doomed) (image : Image) : Type 0 where
  pub sees : sees_at root image name ≡ true
  pub stands : StandsDoomed found (child root name) image

-- a mailbox whose driver doesn't stand, or a file that no driver has
abbrev pub IsNoDoomed : (path : List ℕ) → Image → Type 0
IsNoDoomed path image =
    ((driver : Driver) × (driver_at chosen image path ≡ Some driver) × (is_known driver ≡ false))
    ⊎ (Stands path image × (is_directory image path ≡ false) × (driver_at chosen image path ≡ None))

-- why nothing at a path can be deleted
abbrev pub RefusesDoomed : TreeFault → (path : List ℕ) → Image → Type 0
RefusesDoomed Absent path image = node_at image path ≡ nothing
RefusesDoomed NotStore path image = IsNoDoomed path image
RefusesDoomed Failed path image = Unit {0}
RefusesDoomed Memory path image = Unit {0}
RefusesDoomed fault path image = ⊥

-- ---- Leftover files

-- a leftover file stands under a name
abbrev pub is_left_file : Image → (dir name : List ℕ) → Bool
is_left_file image dir name = is_leftover name && has_file image (child dir name)

-- nothing but leftover files stands in a directory
abbrev pub holds_left_files : Image → (dir : List ℕ) → Bool
holds_left_files image dir = list_all (is_left_file image dir) (names_in image dir)

-- these are the paths of all that stands in a directory
pub record ArePathsIn (dir : List ℕ) (paths : List (List ℕ)) (image : Image) : Type 0 where
  pub names : List (List ℕ)
  pub all : IsPermutation names (names_in image dir)
  pub whole : paths ≡ map (child dir) names

-- a path is one of these
abbrev pub is_one_of : List (List ℕ) → List ℕ → Bool
is_one_of paths path = list_any (bytes_eq path) paths

-- no file stands at these paths any more, and all else stands as before
pub record Cleared (paths : List (List ℕ)) (start end : Disk) : Type 0 where
  pub gone : (q : List ℕ) → is_one_of paths q ≡ true → is_directory (seen start) q ≡ false → node_at (seen end) q ≡ nothing
  pub rest : (q : List ℕ) → is_one_of paths q ≡ false → Agree q (seen end) (seen start)

-- a directory is gone
pub record RemovedDirectory (path : List ℕ) (start end : Image) : Type 0 where
  pub gone : node_at end path ≡ nothing
  pub rest : (q : List ℕ) → q ≢ path → Agree q end start
