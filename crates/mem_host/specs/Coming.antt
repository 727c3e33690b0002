-- The input of a host in memory.
use Rattle.std.specs.Prelude.{ℕ, List, [], ◌∷◌, min, max, drop}

-- what is still to come: bytes, and the cuts of the calls of `hear`
pub record Coming : Type 0 where
  pub bytes : List ℕ
  pub cuts : List ℕ

-- how many bytes a `hear` with this room gives, of so many that are left
abbrev pub piece_length : ℕ → List ℕ → ℕ → ℕ
piece_length room [] left = min room left
piece_length room (cut ∷ cuts) left = min (max 1 cut) (min room left)

-- a turn takes its cut, and some of the bytes
abbrev pub after_turn : ℕ → Coming → Coming
after_turn n coming = record { bytes = drop n coming.bytes; cuts = drop 1 coming.cuts }
