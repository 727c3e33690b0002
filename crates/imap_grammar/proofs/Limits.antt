-- Each raw unit of a stream keeps to the limits.
use Rattle.std.proofs.Common.{ℕ, zero, suc, ◌+◌, ◌*◌, ◌<◌, ◌≤◌, Bool, true, false, ◌==◌, if◌then◌else◌, List, [], ◌∷◌, ◌++◌, ◌≡◌, Option, Some, None, nat_le, nat_lt, length, take, drop, map, arith, refl, sym, ◌∙◌, ap, subst}
use Rattle.std.specs.List.{sum_by, AllByRecursion}
use Rattle.std.proofs.lemmas.Grind.{common_steps}
use Rattle.std.proofs.lemmas.List.Concat.{flat_map-cons}
use Rattle.std.proofs.lemmas.List.Sums.{sum_by-cons}
use Rattle.raw_commands.specs.Limits.{Part, lines_size, literals_size, Ending, too_long, too_large, whole, literal, ending, ending_at, ending_of, announced, behind_brace, last_behind, closed_behind}
use Rattle.raw_commands.specs.Streams.{with_crlf, first_line, text_of, command_of, Reading, in_literal, ending_then, line_then, reading_of, reading, raw_units_of}
use Rattle.raw_commands.specs.Taken.{lines_of}
use Rattle.raw_commands.proofs.Feeds.{size_more, held_more, fits, size_fits}
use Rattle.imap_grammar.specs.Limits.{IsWithin, KeepsLimits}

-- the parts of a command that is begun
record Fits (parts : List Part) : Type 0 where
  lines : lines_size parts ≤ 65536
  few : 2 * length parts ≤ lines_size parts
  held : literals_size parts ≤ 16777216

no_parts : Fits []
no_parts = record { lines = omega arith; few = omega arith; held = omega arith }

-- a line that announces a literal has two bytes at least
brace_shorter : (x : Bool) (b : ℕ) (rest tail : List ℕ) → (if x then Some rest else None) ≡ Some tail → length tail < length (b ∷ rest)
brace_shorter true b rest tail is =
    let same : rest ≡ tail = cc in subst (λ r. length r < length (b ∷ rest)) same (omega arith)
brace_shorter false b rest tail is = absurd (cc)

last_shorter : (b : ℕ) (rest tail : List ℕ) (found : Option (List ℕ)) → ((behind : List ℕ) → found ≡ Some behind → length behind < length rest) → last_behind b rest found ≡ Some tail
    → length tail < length (b ∷ rest)
last_shorter b rest tail None below is = brace_shorter (b == 123) b rest tail is
last_shorter b rest tail (Some behind) below is =
    let less = below behind refl in
    let same : behind ≡ tail = cc in
    subst (λ r. length r < length (b ∷ rest)) same (omega arith)

behind_shorter : (line tail : List ℕ) → behind_brace line ≡ Some tail → length tail < length line
behind_shorter [] tail is = absurd (cc)
behind_shorter (b ∷ rest) tail is = last_shorter b rest tail (behind_brace rest) (λ behind at. behind_shorter rest behind at) is

closed_long : (line : List ℕ) (size : ℕ) (found : Option (List ℕ)) → behind_brace line ≡ found → closed_behind found ≡ Some size → 2 ≤ length line
closed_long line size None at is = absurd (cc)
closed_long line size (Some []) at is = absurd (cc)
closed_long line size (Some (b ∷ tail)) at is =
    let less = behind_shorter line (b ∷ tail) at in omega arith

announced_long : (line : List ℕ) (size : ℕ) → announced line ≡ Some size → 2 ≤ length line
unfolding announced
announced_long line size is = closed_long line size (behind_brace line) refl is

ending_long : (x : Bool) (before size : ℕ) (line : List ℕ) (count : Option ℕ) → announced line ≡ count → literal size ≡ (if x then too_long else ending_of before count) → 2 ≤ length line
ending_long true before size line count at is = absurd (cc)
ending_long false before size line None at is = absurd (cc)
ending_long false before size line (Some count) at is = announced_long line count at

literal_long : (lines before size : ℕ) (line : List ℕ) → literal size ≡ ending_at lines before line → 2 ≤ length line
unfolding ending_at
literal_long lines before size line is = ending_long (nat_lt 65536 (lines + length line)) before size line (announced line) refl is

part_more : (parts : List Part) (part : Part) → length (parts ++ part ∷ []) ≡ length parts + 1
part_more parts part = grind (arith, common_steps)

one_more : (parts : List Part) (line bytes : List ℕ) (size : ℕ) → Fits parts → 2 ≤ length line → lines_size parts + length line ≤ 65536 → literals_size parts + size ≤ 16777216
    → length bytes ≤ size → Fits (parts ++ (line, bytes) ∷ [])
one_more parts line bytes size fit long short small within =
    let lines = size_more parts line bytes in
    let held = held_more parts line bytes in
    let one = part_more parts (line, bytes) in
    let few = fit.few in
    record { lines = omega arith; few = omega arith; held = omega arith }

-- a command by its parts
literals_are : (parts : List Part) → sum_by length (map (λ part. part.1) parts) ≡ literals_size parts
literals_are [] = refl
literals_are (part ∷ parts) =
    sum_by-cons length part.1 (map (λ (p : Part). p.1) parts) ∙ ap (λ n. length part.1 + n) (literals_are parts) ∙ sym (sum_by-cons (λ (p : Part). length p.1) part parts)

as_many : (parts : List Part) → length (map (λ part. part.1) parts) ≡ length parts
as_many [] = refl
as_many (part ∷ parts) = ap suc (as_many parts)

joined : (line rest : List ℕ) → length (with_crlf line ++ rest) ≡ length line + 2 + length rest
joined line rest = grind (arith, common_steps)

behind : (lines line : List ℕ) → length (lines ++ line) ≡ length lines + length line
behind lines line = grind (arith, common_steps)

lines_long : (parts : List Part) → length (lines_of parts) ≡ lines_size parts + 2 * length parts
lines_long [] = refl
lines_long (part ∷ parts) =
    let below = lines_long parts in
    let first = ap length (flat_map-cons (λ (p : Part). with_crlf p.0) part parts) ∙ joined part.0 (lines_of parts) in
    omega (arith, first, sum_by-cons (λ (p : Part). length p.0) part parts)

text_long : (parts : List Part) (line : List ℕ) → length (text_of parts line) ≡ lines_size parts + 2 * length parts + length line
text_long parts line =
    let long = behind (lines_of parts) line in
    let lines = lines_long parts in
    omega arith

keeps_limits : (parts : List Part) (line : List ℕ) → Fits parts → lines_size parts + length line ≤ 65536 → KeepsLimits (command_of parts line)
keeps_limits parts line fit short =
    let long = text_long parts line in
    let many = as_many parts in
    let few = fit.few in
    let held = fit.held in
    let sum = literals_are parts in
    record { lines = omega arith; few = omega arith; literals = omega arith }

refused_short : (parts : List Part) (line : List ℕ) → Fits parts → lines_size parts + length line ≤ 65536 → length (text_of parts line) ≤ 131072
refused_short parts line fit short =
    let long = text_long parts line in
    let few = fit.few in
    omega arith

front_fits : (n : ℕ) (bytes : List ℕ) → length (take n bytes) ≤ n
front_fits n bytes = grind (arith, common_steps)

abbrev Within : Reading → Type 0
Within reading = AllByRecursion IsWithin reading.units

-- what reads on behind parts that fit
abbrev Reads : (List Part → List ℕ → Reading) → Type 0
Reads more = (parts : List Part) (rest : List ℕ) → Fits parts → Within (more parts rest)

literal_within : (more : List Part → List ℕ → Reading) (parts : List Part) (line : List ℕ) (size : ℕ) (rest : List ℕ) (x : Bool) → Reads more → Fits parts → 2 ≤ length line
    → lines_size parts + length line ≤ 65536 → literals_size parts + size ≤ 16777216
    → Within (elim x as (λ _. Reading) [
      | true ↦ more (parts ++ (line, take size rest) ∷ []) (drop size rest)
      | false ↦ record { units = []; left = in_literal parts line size rest }
    ])
literal_within more parts line size rest true reads fit long short small =
    reads (parts ++ (line, take size rest) ∷ []) (drop size rest) (one_more parts line (take size rest) size fit long short small (front_fits size rest))
literal_within more parts line size rest false reads fit long short small = tt

ending_within : (more : List Part → List ℕ → Reading) (parts : List Part) (line rest : List ℕ) (end : Ending) → Reads more → Fits parts → end ≡ ending parts line
    → Within (ending_then more parts line rest end)
ending_within more parts line rest too_long reads fit is = (front_fits 65536 (text_of parts line), reads [] rest no_parts)
ending_within more parts line rest too_large reads fit is =
    (refused_short parts line fit (fits (lines_size parts) (literals_size parts) line too_large (λ same. absurd (cc)) is), reads [] rest no_parts)
ending_within more parts line rest whole reads fit is =
    (keeps_limits parts line fit (fits (lines_size parts) (literals_size parts) line whole (λ same. absurd (cc)) is), reads [] rest no_parts)
ending_within more parts line rest (literal size) reads fit is = (
  tt,
  literal_within more parts line size rest (nat_le size (length rest)) reads fit (literal_long (lines_size parts) (literals_size parts) size line is)
      (fits (lines_size parts) (literals_size parts) line (literal size) (λ same. absurd (cc)) is) (size_fits (lines_size parts) (literals_size parts) size line is),
)

line_within : (more : List Part → List ℕ → Reading) (parts : List Part) (bytes : List ℕ) (first : Option (List ℕ × List ℕ)) → Reads more → Fits parts
    → Within (line_then more parts bytes first)
line_within more parts bytes None reads fit = tt
line_within more parts bytes (Some found) reads fit = ending_within more parts found.0 found.1 (ending parts found.0) reads fit refl

reads_all : (n : ℕ) → Reads (reading_of n)
reads_all zero parts rest fit = tt
reads_all (suc n) parts rest fit = line_within (reading_of n) parts rest (first_line rest) (reads_all n) fit

pub all_within : (stream : List ℕ) → AllByRecursion IsWithin (raw_units_of stream)
unfolding reading
all_within stream = reads_all (length stream) [] stream no_parts
