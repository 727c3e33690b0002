-- What a disk holds at one instant.
use Rattle.std.specs.Prelude.{ℕ, Bool, true, false, List, ◌==◌, ◌+◌, ◌&&◌, ◌≡◌, not, Option, Some, None, if◌then◌else◌, drop, length, [], unwrap_or}
use Rattle.std.specs.declared.cmp.Ordering.{Ordering}
use Rattle.std.specs.Ordering.{nat_cmp}
use Rattle.std.specs.Cmp.Lexicographic.{slice_cmp}
use Rattle.std.specs.List.{filter_map, list_any}
use Rattle.std.specs.FinMap.{FinMap, get, keys}
use Rattle.file_model.specs.Paths.{parent, is_top, is_inside}

-- by rising bytes
abbrev pub path_cmp : List ℕ → List ℕ → Ordering
path_cmp = slice_cmp nat_cmp

-- a name leads to the file of a number, or to a directory
pub data Entry : Type 0 where
  a_file : ℕ → Entry
  a_directory : Entry

abbrev pub Names : Type 0
Names = FinMap path_cmp Entry

pub record Image : Type 0 where
  pub names : Names
  pub bytes : ℕ → List ℕ

-- what stands at a path
pub data Node : Type 0 where
  nothing : Node
  file : List ℕ → Node
  directory : Node

abbrev pub node_of : (ℕ → List ℕ) → Option Entry → Node
node_of bytes None = nothing
node_of bytes (Some (a_file id)) = file (bytes id)
node_of bytes (Some a_directory) = directory

abbrev pub node_at : Image → List ℕ → Node
node_at image path = node_of image.bytes (get image.names path)

abbrev pub bytes_of : Node → Option (List ℕ)
bytes_of nothing = None
bytes_of (file bytes) = Some bytes
bytes_of directory = None

-- the bytes of the file at a path
abbrev pub bytes_at : Image → List ℕ → Option (List ℕ)
bytes_at image path = bytes_of (node_at image path)

-- the same, where no file is one without bytes
abbrev pub text_at : Image → List ℕ → List ℕ
text_at image path = unwrap_or (bytes_at image path) []

abbrev pub directory_test : Node → Bool
directory_test nothing = false
directory_test (file bytes) = false
directory_test directory = true

-- whether a directory stands at a path
abbrev pub is_directory : Image → List ℕ → Bool
is_directory image path = directory_test (node_at image path)

-- the name by which a path stands in a directory itself
abbrev pub name_within : List ℕ → List ℕ → Option (List ℕ)
name_within dir path =
    let name = drop (length dir + 1) path in
    if is_inside dir path && not (list_any (λ b. b == 47) name) then Some name else None

-- the names in a directory, by rising bytes
abbrev pub names_in : Image → List ℕ → List (List ℕ)
names_in image dir = filter_map (name_within dir) (keys image.names)

-- nothing stands at a path
abbrev pub HasNothing : List ℕ → Image → Type 0
HasNothing path image = node_at image path ≡ nothing

-- two images agree at a path
abbrev pub Agree : List ℕ → Image → Image → Type 0
Agree path one other = node_at one path ≡ node_at other path

-- one image has at a path what another has at another
abbrev pub AgreeAcross : List ℕ → List ℕ → Image → Image → Type 0
AgreeAcross from to one other = node_at other to ≡ node_at one from

-- what stands below a top stands in a directory
pub record IsRooted (image : Image) : Type 0 where
  pub above : (path : List ℕ) → (HasNothing path image → ⊥) → is_top path ≡ false → is_directory image (parent path) ≡ true
