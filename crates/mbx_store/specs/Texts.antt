-- Where a text stands in its file.
use Rattle.std.specs.Prelude.{ℕ, List, ◌≡◌, ◌≤◌, ◌+◌, length, map, take, drop}
use Rattle.file_store.specs.Places.{read_byte}

-- a text stands in a file, from a byte on, and is so long
pub record TextStands (bytes : List ℕ) (start size : ℕ) (text : List ℕ) : Type 0 where
  pub within : start + size ≤ length bytes
  pub is : map read_byte (take size (drop start bytes)) ≡ text
