-- Some bytes in a text, the needle, with the case of ASCII letters disregarded (RFC 3501, section 6.4.4).
use Rattle.std.specs.Prelude.{ℕ, Bool, true, false, List, [], ◌∷◌, ◌==◌, ◌&&◌, ◌||◌, map}
use Rattle.std.specs.Char.{to_ascii_lowercase}

-- the text begins with the needle
abbrev pub begins_with : List ℕ → List ℕ → Bool
begins_with [] text = true
begins_with (byte ∷ needle) [] = false
begins_with (byte ∷ needle) (first ∷ rest) = (byte == first) && begins_with needle rest

-- the needle stands in the text: the text begins with it, or it stands behind the text's first byte
abbrev pub stands_in : List ℕ → List ℕ → Bool
stands_in needle [] = begins_with needle []
stands_in needle (first ∷ rest) = begins_with needle (first ∷ rest) || stands_in needle rest

-- the bytes with each ASCII letter in lower case
abbrev pub lowered : List ℕ → List ℕ
lowered bytes = map to_ascii_lowercase bytes

-- the needle stands in the text, with the case of letters disregarded
abbrev pub is_inside : List ℕ → List ℕ → Bool
is_inside needle text = stands_in (lowered needle) (lowered text)
