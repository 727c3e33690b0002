-- Sets of numbers (RFC 3501, section 9, sequence-set), and what they hold.
use Rattle.std.specs.Prelude.{ℕ, Bool, List, [], ◌∷◌, ◌++◌, ◌&&◌, ◌||◌, if◌then◌else◌, Ok, nat_le, length, drop}
use Rattle.std.specs.List.{list_any}
use Rattle.imap_arguments.specs.Readings.{Read, ◌>>=◌}
use Rattle.imap_arguments.specs.Tokens.{begins, separated}
use Rattle.imap_arguments.specs.Numbers.{nonzero_at}
use Rattle.imap_arguments.specs.declared.set.End.{End}
use Rattle.imap_arguments.specs.declared.set.End.TheVariants.{Number, Largest}
use Rattle.imap_arguments.specs.declared.set.Set.{Set}

-- the number that an end stands for
abbrev pub end_number : ℕ → End → ℕ
end_number largest (Number n) = n
end_number largest Largest = largest

-- a range holds the numbers between its ends, both included, whichever is written first
abbrev pub range_has : ℕ → ℕ → End × End → Bool
range_has largest n range =
    let one = end_number largest range.0 in
    let other = end_number largest range.1 in
    (nat_le one n && nat_le n other) || (nat_le other n && nat_le n one)

abbrev pub set_has : ℕ → ℕ → Set → Bool
set_has largest n set = list_any (range_has largest n) set.ranges

-- an end of a range: `*` or a number that isn't 0
unfoldable pub end_at : List ℕ → Read (End × List ℕ)
end_at bytes =
    if begins 42 bytes then Ok (Largest, drop 1 bytes)
    else (do
      number ← nonzero_at bytes
      Ok (Number number.0, number.1))

-- a range: one end, or two with a colon between them
unfoldable pub range_at : List ℕ → Read ((End × End) × List ℕ)
range_at bytes = do
  one ← end_at bytes
  if begins 58 one.1
      then (do
        other ← end_at (drop 1 one.1)
        Ok ((one.0, other.0), other.1))
      else Ok ((one.0, one.0), one.1)

-- a range more
abbrev pub add_range : List (End × End) → List ℕ → Read (List (End × End) × List ℕ)
add_range before bytes = range_at bytes >>= λ range. Ok (before ++ range.0 ∷ [], range.1)

-- ranges with commas between them, fewer than bytes
abbrev pub ranges_at : List ℕ → Read (List (End × End) × List ℕ)
ranges_at bytes = separated 44 add_range (length bytes) [] bytes

-- a set
unfoldable pub set_at : List ℕ → Read (Set × List ℕ)
set_at bytes = do
  ranges ← ranges_at bytes
  Ok (record { ranges = ranges.0 }, ranges.1)
