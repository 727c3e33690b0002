-- Strings and lists in a reply (RFC 3501, section 4; `string`, `nstring` and `literal` of its section 9).
use Rattle.std.specs.Prelude.{ℕ, Bool, not, List, [], ◌∷◌, ◌++◌, ◌==◌, ◌||◌, ◌&&◌, if◌then◌else◌, nat_le, Option, Some, None, codes, decimal, length, map}
use Rattle.std.specs.List.{list_all, flat_map}
use Rattle.std.specs.Char.{to_ascii_uppercase}

-- a byte that stands in a quoted string: a space or a printable byte, and neither `"` nor `\`
abbrev pub is_quotable : ℕ → Bool
is_quotable b = nat_le 32 b && nat_le b 126 && not ((b == 34) || (b == 92))

-- a quoted string
abbrev pub quoted_text : List ℕ → List ℕ
quoted_text bytes = 34 ∷ bytes ++ 34 ∷ []

-- a literal: how many bytes it has, in braces, a line end, and the bytes
abbrev pub literal_text : List ℕ → List ℕ
literal_text bytes = codes "{" ++ decimal (length bytes) ++ codes "}\r\n" ++ bytes

-- a string: quoted where each of its bytes may stand in quotes, else a literal
unfoldable pub string_text : List ℕ → List ℕ
string_text bytes = if list_all is_quotable bytes then quoted_text bytes else literal_text bytes

-- what isn't there
abbrev pub nil : List ℕ
nil = codes "NIL"

-- a string, or none
abbrev pub nstring_text : Option (List ℕ) → List ℕ
nstring_text None = nil
nstring_text (Some bytes) = string_text bytes

-- a string in upper case
abbrev pub word_text : List ℕ → List ℕ
word_text bytes = string_text (map to_ascii_uppercase bytes)

-- values, each behind a space
abbrev pub after_spaces : List (List ℕ) → List ℕ
after_spaces values = flat_map (λ value. 32 ∷ value) values

-- values in parentheses, with a space between each two
abbrev pub listed : List (List ℕ) → List ℕ
listed [] = codes "()"
listed (value ∷ more) = codes "(" ++ (value ++ (after_spaces more ++ codes ")"))
