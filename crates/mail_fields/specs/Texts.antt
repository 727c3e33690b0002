-- Texts that are written into a buffer.
use Rattle.std.specs.Prelude.{ℕ, ◌+◌, List, ◌++◌, length, take, drop}

-- a text at a place of a buffer, and all other bytes as they were
unfoldable pub written_at : List ℕ → ℕ → List ℕ → List ℕ
written_at buffer place text = take place buffer ++ text ++ drop (place + length text) buffer
