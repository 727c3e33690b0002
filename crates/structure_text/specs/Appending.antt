-- Bytes that a writer puts behind others.
use Rattle.std.specs.Prelude.{◌≡◌, ℕ, List, ◌++◌}

-- some bytes of a kind stand behind those that were there
pub record Appends (Is : List ℕ → Type 0) (before after : List ℕ) : Type 0 where
  pub bytes : List ℕ
  pub is : Is bytes
  pub behind : after ≡ before ++ bytes
