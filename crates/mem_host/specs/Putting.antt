-- What stands on a disk after something was put there.
use Rattle.std.specs.Prelude.{ℕ, Bool, List, [], ◌≡◌, ◌&&◌, not, true, None, if◌then◌else◌}
use Rattle.std.specs.Str.{bytes_eq}
use Rattle.file_model.specs.Paths.{is_inside}
use Rattle.file_model.specs.Images.{Image, Node, directory, node_at, bytes_at}

-- a path leads through a directory; the empty path is none
abbrev pub is_above : List ℕ → List ℕ → Bool
is_above dir path = is_inside dir path && not (bytes_eq dir [])

-- no file stands where a path needs a directory
abbrev pub NoFileAbove : Image → List ℕ → Type 0
NoFileAbove image path = (dir : List ℕ) → is_above dir path ≡ true → bytes_at image dir ≡ None

-- a path's directories stand, and all else is as it was
abbrev pub with_parents : Image → List ℕ → List ℕ → Node
with_parents image path q = if is_above q path then directory else node_at image q

-- so it is, but for what was put at the path itself
abbrev pub with_node : Image → List ℕ → Node → List ℕ → Node
with_node image path node q = if bytes_eq q path then node else with_parents image path q
