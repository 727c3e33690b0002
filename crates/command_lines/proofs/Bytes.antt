-- What one byte more does to a stream.
use Rattle.std.proofs.Common.{ℕ, ◌+◌, suc, Bool, List, [], ◌∷◌, ◌++◌, ◌≡◌, ◌==◌, arith, ◌&&◌, true, false, refl, sym, ◌∙◌, ap, subst, take, drop, map, flat_map, length}
use Rattle.std.specs.List.{sum_by}
use Rattle.std.proofs.lemmas.List.{map-append}
use Rattle.std.proofs.lemmas.List.Concat.{flat_map-cons}
use Rattle.std.proofs.lemmas.Bool.Decides.{nat_tests}
use Rattle.std.proofs.lemmas.List.Sums.{sum_by-cons}
use Rattle.command_lines.specs.Stream.{is_crlf, in_first, lines_of, unfinished, units_of}
use Rattle.command_lines.specs.Taken.{ends_in_cr}

-- `unfinished` by recursion on the bytes, as `lines_of` is: a byte belongs to it where no line is whole behind the byte
abbrev rest_from : ℕ → List (List ℕ) → List ℕ → List ℕ
rest_from byte [] behind = byte ∷ behind
rest_from byte (line ∷ lines) behind = behind

abbrev rest_of : List ℕ → List ℕ
rest_of [] = []
rest_of (a ∷ []) = a ∷ []
rest_of (a ∷ b ∷ rest) = elim (is_crlf a b) as (λ _. List ℕ) [ true ↦ rest_of rest | false ↦ rest_from a (lines_of (b ∷ rest)) (rest_of (b ∷ rest)) ]

-- the lines and the rest of a stream of two bytes or more, from those behind its first two bytes and behind its first
abbrev lines_if : Bool → ℕ → List (List ℕ) → List (List ℕ) → List (List ℕ)
lines_if x a second first = elim x as (λ _. List (List ℕ)) [ true ↦ [] ∷ second | false ↦ in_first a first ]

abbrev rest_if : Bool → ℕ → List ℕ → List (List ℕ) → List ℕ → List ℕ
rest_if x a second lines first = elim x as (λ _. List ℕ) [ true ↦ second | false ↦ rest_from a lines first ]

abbrev taken_up : List (List ℕ) → ℕ
taken_up lines = sum_by (λ line. length line + 2) lines

taken_up-cons : (line : List ℕ) (lines : List (List ℕ)) → taken_up (line ∷ lines) ≡ suc (suc (length line + taken_up lines))
taken_up-cons line lines = sum_by-cons (λ l. length l + 2) line lines ∙ omega arith

drop_first : (a : ℕ) (lines : List (List ℕ)) (bytes rest : List ℕ) → drop (taken_up lines) bytes ≡ rest → drop (taken_up (in_first a lines)) (a ∷ bytes) ≡ rest_from a lines rest
drop_first a [] bytes rest is = ap (λ r. a ∷ r) is
drop_first a (line ∷ lines) bytes rest is =
    let longer : taken_up ((a ∷ line) ∷ lines) ≡ suc (taken_up (line ∷ lines)) = omega (arith, taken_up-cons (a ∷ line) lines, taken_up-cons line lines) in
    ap (λ n. drop n (a ∷ bytes)) longer ∙ is

drop_here : (a b : ℕ) (rest : List ℕ) (x : Bool) → drop (taken_up (lines_of rest)) rest ≡ rest_of rest → drop (taken_up (lines_of (b ∷ rest))) (b ∷ rest) ≡ rest_of (b ∷ rest)
    → drop (taken_up (lines_if x a (lines_of rest) (lines_of (b ∷ rest)))) (a ∷ b ∷ rest) ≡ rest_if x a (rest_of rest) (lines_of (b ∷ rest)) (rest_of (b ∷ rest))
drop_here a b rest true second first =
    let longer : taken_up ([] ∷ lines_of rest) ≡ suc (suc (taken_up (lines_of rest))) = omega (arith, taken_up-cons [] (lines_of rest)) in
    ap (λ n. drop n (a ∷ b ∷ rest)) longer ∙ second
drop_here a b rest false second first = drop_first a (lines_of (b ∷ rest)) (b ∷ rest) (rest_of (b ∷ rest)) first

is_rest : (stream : List ℕ) → unfinished stream ≡ rest_of stream
is_rest [] = refl
is_rest (a ∷ []) = refl
is_rest (a ∷ b ∷ rest) = drop_here a b rest (is_crlf a b) (is_rest rest) (is_rest (b ∷ rest))

abbrev pub without_last : List ℕ → List ℕ
without_last [] = []
without_last (a ∷ []) = []
without_last (a ∷ b ∷ rest) = a ∷ without_last (b ∷ rest)

-- whether a byte ends the line whose bytes so far are `rest`, the line that it ends then, and what is left
abbrev pub ends_line : ℕ → List ℕ → Bool
ends_line byte rest = ends_in_cr rest && (byte == 10)

abbrev pub line_ended : Bool → List ℕ → List (List ℕ)
line_ended true rest = without_last rest ∷ []
line_ended false rest = []

abbrev pub rest_after : Bool → ℕ → List ℕ → List ℕ
rest_after true byte rest = []
rest_after false byte rest = rest ++ byte ∷ []

first_of_none : (a : ℕ) (lines : List (List ℕ)) → in_first a lines ≡ [] → lines ≡ []
first_of_none a [] none = refl
first_of_none a (line ∷ lines) none = absurd (cc)

none_here : (a b : ℕ) (rest : List ℕ) (x : Bool) → (lines_of (b ∷ rest) ≡ [] → rest_of (b ∷ rest) ≡ b ∷ rest)
    → lines_if x a (lines_of rest) (lines_of (b ∷ rest)) ≡ [] → rest_if x a (rest_of rest) (lines_of (b ∷ rest)) (rest_of (b ∷ rest)) ≡ a ∷ b ∷ rest
none_here a b rest true below none = absurd (cc)
none_here a b rest false below none =
    let is = first_of_none a (lines_of (b ∷ rest)) none in
    subst (λ ls. rest_from a ls (rest_of (b ∷ rest)) ≡ a ∷ b ∷ rest) (sym is) (ap (λ bs. a ∷ bs) (below is))

-- where no line is whole all bytes are unfinished
none_whole : (stream : List ℕ) → lines_of stream ≡ [] → rest_of stream ≡ stream
none_whole [] none = refl
none_whole (a ∷ []) none = refl
none_whole (a ∷ b ∷ rest) none = none_here a b rest (is_crlf a b) (none_whole (b ∷ rest)) none

in_front : (a b : ℕ) (rest : List ℕ) (x : Bool) → in_first a (line_ended x (b ∷ rest)) ≡ line_ended x (a ∷ b ∷ rest)
in_front a b rest true = refl
in_front a b rest false = refl

lines_behind : (a byte b : ℕ) (rest : List ℕ) (lines : List (List ℕ)) (behind : List ℕ) → (lines ≡ [] → behind ≡ b ∷ rest)
    → let left = rest_from a lines behind in
    in_first a (lines ++ line_ended (ends_line byte behind) behind) ≡ in_first a lines ++ line_ended (ends_line byte left) left
lines_behind a byte b rest [] behind are =
    subst (λ u. in_first a (line_ended (ends_line byte u) u) ≡ line_ended (ends_line byte (a ∷ u)) (a ∷ u)) (sym (are refl)) (in_front a b rest (ends_line byte (b ∷ rest)))
lines_behind a byte b rest (line ∷ lines) behind are = refl

lines_here : (a b byte : ℕ) (rest : List ℕ) (x : Bool)
    → lines_of (rest ++ byte ∷ []) ≡ lines_of rest ++ line_ended (ends_line byte (rest_of rest)) (rest_of rest)
    → lines_of (b ∷ rest ++ byte ∷ []) ≡ lines_of (b ∷ rest) ++ line_ended (ends_line byte (rest_of (b ∷ rest))) (rest_of (b ∷ rest))
    → let left = rest_if x a (rest_of rest) (lines_of (b ∷ rest)) (rest_of (b ∷ rest)) in
    lines_if x a (lines_of (rest ++ byte ∷ [])) (lines_of (b ∷ rest ++ byte ∷ [])) ≡ lines_if x a (lines_of rest) (lines_of (b ∷ rest)) ++ line_ended (ends_line byte left) left
lines_here a b byte rest true second first = ap (λ ls. [] ∷ ls) second
lines_here a b byte rest false second first =
    ap (in_first a) first ∙ lines_behind a byte b rest (lines_of (b ∷ rest)) (rest_of (b ∷ rest)) (none_whole (b ∷ rest))

lines_one : (a byte : ℕ) (x y : Bool) → lines_if (x && y) a [] [] ≡ line_ended (x && y) (a ∷ [])
lines_one a byte true true = refl
lines_one a byte true false = refl
lines_one a byte false y = refl

lines_more : (stream : List ℕ) (byte : ℕ) → lines_of (stream ++ byte ∷ []) ≡ lines_of stream ++ line_ended (ends_line byte (rest_of stream)) (rest_of stream)
lines_more [] byte = refl
lines_more (a ∷ []) byte = lines_one a byte (a == 13) (byte == 10)
lines_more (a ∷ b ∷ rest) byte = lines_here a b byte rest (is_crlf a b) (lines_more rest byte) (lines_more (b ∷ rest) byte)

-- a byte more ends a line or none
pub lines_push : (stream : List ℕ) (byte : ℕ) → lines_of (stream ++ byte ∷ []) ≡ lines_of stream ++ line_ended (ends_line byte (unfinished stream)) (unfinished stream)
lines_push stream byte = lines_more stream byte ∙ ap (λ r. lines_of stream ++ line_ended (ends_line byte r) r) (sym (is_rest stream))

pub units_push : (stream : List ℕ) (byte : ℕ) → units_of (stream ++ byte ∷ []) ≡ units_of stream ++ map (take 65536) (line_ended (ends_line byte (unfinished stream)) (unfinished stream))
units_push stream byte = ap (map (take 65536)) (lines_push stream byte) ∙ map-append (take 65536) (lines_of stream) _

rest_front : (a byte b : ℕ) (rest : List ℕ) (x : Bool) → rest_from a (line_ended x (b ∷ rest)) (rest_after x byte (b ∷ rest)) ≡ rest_after x byte (a ∷ b ∷ rest)
rest_front a byte b rest true = refl
rest_front a byte b rest false = refl

rest_behind : (a byte b : ℕ) (rest : List ℕ) (lines : List (List ℕ)) (behind : List ℕ) → (lines ≡ [] → behind ≡ b ∷ rest)
    → let left = rest_from a lines behind in
    rest_from a (lines ++ line_ended (ends_line byte behind) behind) (rest_after (ends_line byte behind) byte behind) ≡ rest_after (ends_line byte left) byte left
rest_behind a byte b rest [] behind are =
    subst (λ u. rest_from a (line_ended (ends_line byte u) u) (rest_after (ends_line byte u) byte u) ≡ rest_after (ends_line byte (a ∷ u)) byte (a ∷ u))
    (sym (are refl)) (rest_front a byte b rest (ends_line byte (b ∷ rest)))
rest_behind a byte b rest (line ∷ lines) behind are = refl

rest_here : (a b byte : ℕ) (rest : List ℕ) (x : Bool)
    → rest_of (rest ++ byte ∷ []) ≡ rest_after (ends_line byte (rest_of rest)) byte (rest_of rest)
    → rest_of (b ∷ rest ++ byte ∷ []) ≡ rest_after (ends_line byte (rest_of (b ∷ rest))) byte (rest_of (b ∷ rest))
    → let left = rest_if x a (rest_of rest) (lines_of (b ∷ rest)) (rest_of (b ∷ rest)) in
    rest_if x a (rest_of (rest ++ byte ∷ [])) (lines_of (b ∷ rest ++ byte ∷ [])) (rest_of (b ∷ rest ++ byte ∷ [])) ≡ rest_after (ends_line byte left) byte left
rest_here a b byte rest true second first = second
rest_here a b byte rest false second first =
    ap (λ ls. rest_from a ls (rest_of (b ∷ rest ++ byte ∷ []))) (lines_more (b ∷ rest) byte)
    ∙ ap (λ u. rest_from a (lines_of (b ∷ rest) ++ line_ended (ends_line byte (rest_of (b ∷ rest))) (rest_of (b ∷ rest))) u) first
    ∙ rest_behind a byte b rest (lines_of (b ∷ rest)) (rest_of (b ∷ rest)) (none_whole (b ∷ rest))

rest_one : (a byte : ℕ) (x y : Bool) → rest_if (x && y) a [] [] (byte ∷ []) ≡ rest_after (x && y) byte (a ∷ [])
rest_one a byte true true = refl
rest_one a byte true false = refl
rest_one a byte false y = refl

rest_more : (stream : List ℕ) (byte : ℕ) → rest_of (stream ++ byte ∷ []) ≡ rest_after (ends_line byte (rest_of stream)) byte (rest_of stream)
rest_more [] byte = refl
rest_more (a ∷ []) byte = rest_one a byte (a == 13) (byte == 10)
rest_more (a ∷ b ∷ rest) byte = rest_here a b byte rest (is_crlf a b) (rest_more rest byte) (rest_more (b ∷ rest) byte)

-- what a byte more leaves
pub rest_push : (stream : List ℕ) (byte : ℕ) → unfinished (stream ++ byte ∷ []) ≡ rest_after (ends_line byte (unfinished stream)) byte (unfinished stream)
rest_push stream byte = is_rest (stream ++ byte ∷ []) ∙ rest_more stream byte ∙ ap (λ r. rest_after (ends_line byte r) byte r) (sym (is_rest stream))

pub ends_pushed : (rest : List ℕ) (byte : ℕ) → ends_in_cr (rest ++ byte ∷ []) ≡ byte == 13
ends_pushed [] byte = refl
ends_pushed (a ∷ []) byte = refl
ends_pushed (a ∷ b ∷ rest) byte = ends_pushed (b ∷ rest) byte

pub both_true : (x y : Bool) → x && y ≡ true → (x ≡ true) × (y ≡ true)
both_true true y is = (refl, is)
both_true false y is = absurd (cc)

pub is_number : (n byte : ℕ) → (byte == n) ≡ true → byte ≡ n
is_number n byte is = grind (arith, nat_tests)

abbrev pub with_crlf : List ℕ → List ℕ
with_crlf line = line ++ 13 ∷ 10 ∷ []

join_first : (a : ℕ) (lines : List (List ℕ)) (behind : List ℕ) → flat_map with_crlf (in_first a lines) ++ rest_from a lines behind ≡ a ∷ (flat_map with_crlf lines ++ behind)
join_first a [] behind = refl
join_first a (line ∷ lines) behind =
    ap (λ bytes. bytes ++ behind) (flat_map-cons with_crlf (a ∷ line) lines) ∙ sym (ap (λ bytes. a ∷ (bytes ++ behind)) (flat_map-cons with_crlf line lines))

join_here : (a b : ℕ) (rest : List ℕ) (x : Bool) → is_crlf a b ≡ x → flat_map with_crlf (lines_of rest) ++ rest_of rest ≡ rest
    → flat_map with_crlf (lines_of (b ∷ rest)) ++ rest_of (b ∷ rest) ≡ b ∷ rest
    → flat_map with_crlf (lines_if x a (lines_of rest) (lines_of (b ∷ rest))) ++ rest_if x a (rest_of rest) (lines_of (b ∷ rest)) (rest_of (b ∷ rest)) ≡ a ∷ b ∷ rest
join_here a b rest true is second first =
    let both = both_true (a == 13) (b == 10) is in
    ap (λ bytes. bytes ++ rest_of rest) (flat_map-cons with_crlf [] (lines_of rest)) ∙ ap (λ bytes. 13 ∷ 10 ∷ bytes) second
    ∙ sym (ap (λ n. n ∷ 10 ∷ rest) (is_number 13 a both.0)) ∙ sym (ap (λ n. a ∷ n ∷ rest) (is_number 10 b both.1))
join_here a b rest false is second first =
    join_first a (lines_of (b ∷ rest)) (rest_of (b ∷ rest)) ∙ ap (λ bytes. a ∷ bytes) first

joined : (stream : List ℕ) → flat_map with_crlf (lines_of stream) ++ rest_of stream ≡ stream
joined [] = refl
joined (a ∷ []) = refl
joined (a ∷ b ∷ rest) = join_here a b rest (is_crlf a b) refl (joined rest) (joined (b ∷ rest))

-- the lines, each with its CRLF, and what is unfinished behind them are the stream
pub lines_joined : (stream : List ℕ) → flat_map with_crlf (lines_of stream) ++ unfinished stream ≡ stream
lines_joined stream = ap (λ rest. flat_map with_crlf (lines_of stream) ++ rest) (is_rest stream) ∙ joined stream
