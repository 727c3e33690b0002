-- Names of keywords, and the spaces between them.
use Rattle.std.specs.Prelude.{ℕ, Bool, true, not, List, [], ◌∷◌, ◌==◌, ◌&&◌}
use Rattle.std.specs.List.{list_any}
use Rattle.mail_fields.specs.Keyword.{same_keyword}

abbrev pub is_space : ℕ → Bool
is_space byte = byte == 32

-- no two of these names are the same, whatever the case of their letters
abbrev pub are_distinct : List (List ℕ) → Bool
are_distinct [] = true
are_distinct (name ∷ rest) = not (list_any (same_keyword name) rest) && are_distinct rest
