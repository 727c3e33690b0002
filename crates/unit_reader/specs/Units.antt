-- The units of a stream that grows.
use Rattle.std.specs.Prelude.{ℕ, List, ◌++◌, ◌≡◌}

-- a piece behind a stream adds these units, those that weren't whole before it
pub record Adds {U : Type 0} (units_of : List ℕ → List U) (stream piece : List ℕ) (old new : List U) : Type 0 where
  pub more : List U
  pub added : new ≡ old ++ more
  pub are_units : units_of (stream ++ piece) ≡ units_of stream ++ more

-- the units of a stream come first in those of a longer one
pub record UnitsFirst {U : Type 0} (units_of : List ℕ → List U) (stream piece : List ℕ) : Type 0 where
  pub more : List U
  pub are_units : units_of (stream ++ piece) ≡ units_of stream ++ more
