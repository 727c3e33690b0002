-- Whether a call, or what is put, fits what reads see. A host in memory leaves its disk where it doesn't.
use Rattle.std.specs.Prelude.{ℕ, Bool, true, false, List, [], ◌∷◌, ◌||◌, ◌&&◌, not, nat_le, nat_lt, length}
use Rattle.std.specs.List.{list_all}
use Rattle.file_model.specs.Paths.{parent, last_part, is_top, is_inside}
use Rattle.file_model.specs.Reserved.{is_reserved_name}
use Rattle.file_model.specs.Images.{Image, Node, nothing, file, directory, node_at, is_directory, names_in}
use Rattle.file_model.specs.Disk.{Call, make, make_dir, write_at, cut, sync, rename, remove_at, sync_dir}

-- a file that reaches so far
abbrev pub reaches : ℕ → Node → Bool
reaches place nothing = false
reaches place (file bytes) = nat_le place (length bytes)
reaches place directory = false

abbrev pub is_nothing : Node → Bool
is_nothing nothing = true
is_nothing (file bytes) = false
is_nothing directory = false

abbrev pub is_empty : List (List ℕ) → Bool
is_empty [] = true
is_empty (name ∷ names) = false

abbrev pub are_bytes : List ℕ → Bool
are_bytes bytes = list_all (λ b. nat_lt b 256) bytes

-- something can be named there
abbrev pub has_room : Image → List ℕ → Bool
has_room image path = is_directory image (parent path) && not (is_top path)

abbrev pub is_free : Image → List ℕ → Bool
is_free image path = is_nothing (node_at image path) && has_room image path

abbrev pub is_free_for_directory : Image → List ℕ → Bool
is_free_for_directory image path = is_free image path && not (is_reserved_name (last_part path))

abbrev pub moves_file : Image → List ℕ → List ℕ → Bool
moves_file image from to = reaches 0 (node_at image from) && (not (is_directory image to) && has_room image to)

abbrev pub moves_directory : Image → List ℕ → List ℕ → Bool
moves_directory image from to = is_directory image from && (is_free_for_directory image to && not (is_inside from to))

abbrev pub fits : Call → Image → Bool
fits (make path) image = is_free image path
fits (make_dir path) image = is_free_for_directory image path
fits (write_at path place bytes) image = reaches place (node_at image path) && are_bytes bytes
fits (cut path l) image = reaches l (node_at image path)
fits (sync path) image = reaches 0 (node_at image path)
fits (rename from to) image = moves_file image from to || moves_directory image from to
fits (remove_at path) image = reaches 0 (node_at image path) || (is_directory image path && is_empty (names_in image path))
fits (sync_dir dir) image = is_directory image dir

-- what is put comes to a top, or into a directory
abbrev pub can_put : Image → List ℕ → Bool
can_put image path = is_top path || is_directory image (parent path)

abbrev pub can_put_file : Image → List ℕ → List ℕ → Bool
can_put_file image path bytes = can_put image path && (not (is_directory image path) && are_bytes bytes)
