-- Spaces and tabs, the white space of a header (WSP of RFC 5234, appendix B.1).
use Rattle.std.specs.Prelude.{ℕ, Bool, false, List, [], ◌∷◌, ◌==◌, ◌||◌}

-- a space or a tab
abbrev pub is_blank : ℕ → Bool
is_blank byte = (byte == 32) || (byte == 9)

-- a line that begins with a blank continues the field before it (RFC 5322, section 2.2.3)
abbrev pub is_continuation : List ℕ → Bool
is_continuation [] = false
is_continuation (byte ∷ rest) = is_blank byte
