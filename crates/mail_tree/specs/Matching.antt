-- Matching a pattern byte by byte: a row tells of each place of a name, and of its end, whether the pattern so far leads there.
use Rattle.std.specs.Prelude.{ℕ, Bool, true, false, List, [], ◌∷◌, ◌==◌, ◌&&◌, ◌||◌, not, drop, if◌then◌else◌}

-- from one of the places that the row has, a test passes what is left of the name
abbrev pub any_passes : (row : List Bool) → (List ℕ → Bool) → List ℕ → Bool
any_passes [] test name = false
any_passes (here ∷ row) test name = (here && test name) || any_passes row test (drop 1 name)

-- the first byte passes, where there is one
abbrev pub first_passes : (ℕ → Bool) → List ℕ → Bool
first_passes test [] = false
first_passes test (byte ∷ rest) = test byte

-- the row after any bytes, none of which stops
abbrev pub any_row : (goes : ℕ → Bool) → (carry : Bool) → (row : List Bool) → List ℕ → List Bool
any_row goes carry [] name = []
any_row goes carry (here ∷ row) name = (here || carry) ∷ any_row goes ((here || carry) && first_passes goes name) row (drop 1 name)

-- the row after one byte
abbrev pub byte_row : ℕ → (carry : Bool) → (row : List Bool) → List ℕ → List Bool
byte_row wanted carry [] name = []
byte_row wanted carry (here ∷ row) name = carry ∷ byte_row wanted (here && first_passes (λ byte. byte == wanted) name) row (drop 1 name)

-- a slash stops `%`, and nothing stops `*`
abbrev pub goes_on : (slash : Bool) → ℕ → Bool
goes_on slash byte = not (slash && (byte == 47))

-- the row after the first byte of a pattern
abbrev pub row_after : ℕ → (row : List Bool) → List ℕ → List Bool
row_after wanted row name = if wanted == 42 then any_row (goes_on false) false row name else if wanted == 37 then any_row (goes_on true) false row name else byte_row wanted false row name
