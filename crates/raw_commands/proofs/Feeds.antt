-- A feed behind the end of a line and in a literal.
use Rattle.std.proofs.Common.{ℕ, zero, suc, ◌+◌, ◌-◌, ◌<◌, ◌≤◌, min, Bool, true, false, List, [], ◌∷◌, ◌++◌, ◌≡◌, nat_le, nat_lt, arith, refl, sym, ◌∙◌, ap, subst, take, drop, map, length, take-take, if◌then◌else◌, Option, Some, None, Result, Ok, Err, OnOk}
use Rattle.std.proofs.lemmas.Grind.{common_steps, flat_map-append}
use Rattle.std.proofs.lemmas.List.Concat.{flat_map-cons}
use Rattle.std.proofs.lemmas.List.{append-nil, map-append}
use Rattle.std.proofs.lemmas.List.Sums.{sum_by-append, sum_by-cons}
use Rattle.std.proofs.lemmas.Bool.Decides.{nat_tests}
use Rattle.raw_commands.specs.Limits.{Part, lines_size, literals_size, Ending, too_long, too_large, literal, ending_at, ending_of, announced}
use Rattle.raw_commands.specs.Streams.{with_crlf, text_of}
use Rattle.raw_commands.specs.Steps.{ends_in_cr, without_last, ended, line_ended}
use Rattle.raw_commands.specs.Taken.{lines_of, InLine, Holds}
use Rattle.raw_commands.specs.declared.command.RawUnit.{RawUnit}
use Rattle.raw_commands.specs.declared.feed.Feed.{Feed}
use Rattle.raw_commands.proofs.Runs.{is_front, front_step, behind_start}

-- one part more
pub one_line_more : (parts : List Part) (line bytes : List ℕ) → lines_of (parts ++ (line, bytes) ∷ []) ≡ lines_of parts ++ with_crlf line
one_line_more parts line bytes =
    flat_map-append (λ (part : Part). with_crlf part.0) parts ((line, bytes) ∷ [])
    ∙ ap (λ more. lines_of parts ++ more) (flat_map-cons (λ (part : Part). with_crlf part.0) (line, bytes) [] ∙ append-nil (with_crlf line))

pub size_more : (parts : List Part) (line bytes : List ℕ) → lines_size (parts ++ (line, bytes) ∷ []) ≡ lines_size parts + length line
size_more parts line bytes =
    sum_by-append (λ (part : Part). length part.0) parts ((line, bytes) ∷ []) ∙ omega (arith, sum_by-cons (λ (part : Part). length part.0) (line, bytes) [])

pub held_more : (parts : List Part) (line bytes : List ℕ) → literals_size (parts ++ (line, bytes) ∷ []) ≡ literals_size parts + length bytes
held_more parts line bytes =
    sum_by-append (λ (part : Part). length part.1) parts ((line, bytes) ∷ []) ∙ omega (arith, sum_by-cons (λ (part : Part). length part.1) (line, bytes) [])

pub literals_more : (parts : List Part) (line bytes : List ℕ) → map (λ part. part.1) (parts ++ (line, bytes) ∷ []) ≡ map (λ part. part.1) parts ++ bytes ∷ []
literals_more parts line bytes = map-append (λ part. part.1) parts ((line, bytes) ∷ [])

longer : (line rest : List ℕ) → length (with_crlf line ++ rest) ≡ length line + 2 + length rest
longer line rest = grind (arith, common_steps)

-- the earlier lines take at least the room that they count
pub lines_length : (parts : List Part) → lines_size parts ≤ length (lines_of parts)
lines_length [] = omega arith
lines_length (part ∷ parts) =
    let below = lines_length parts in
    let first : lines_of (part ∷ parts) ≡ with_crlf part.0 ++ lines_of parts = flat_map-cons (λ (p : Part). with_crlf p.0) part parts in
    let long : length (lines_of (part ∷ parts)) ≡ length part.0 + 2 + length (lines_of parts) = ap length first ∙ longer part.0 (lines_of parts) in
    omega (arith, long, sum_by-cons (λ (p : Part). length p.0) part parts)

pub on_both : {T E : Type 0} (P Q : Type 0) (result : Result T E) → OnOk result P → OnOk result Q → OnOk result (P × Q)
on_both P Q (Ok x) p q = (p, q)
on_both P Q (Err e) p q = tt

some_byte : (line : List ℕ) → ends_in_cr line ≡ true → 0 < length line
some_byte [] cr = absurd (cc)
some_byte (a ∷ line) cr = omega arith

front_of_append : (lines back : List ℕ) → 0 < length back → take (length (lines ++ back) - 1) (lines ++ back) ≡ lines ++ take (length back - 1) back
front_of_append [] back some = refl
front_of_append (a ∷ lines) back some =
    let longer : length (lines ++ back) ≡ length lines + length back = grind (arith, common_steps) in
    sym (front_step a (lines ++ back) (length (lines ++ back) - 1) (length (a ∷ lines ++ back) - 1) (omega arith)) ∙ ap (λ r. a ∷ r) (front_of_append lines back some)

all_taken : (n : ℕ) (line : List ℕ) → length line ≤ n → take n line ≡ line
all_taken n line short = grind (arith, common_steps)

take_of_take : (n m k : ℕ) (line : List ℕ) (x : Bool) → nat_le n m ≡ x → k ≡ min n m → take n (take m line) ≡ take k line
take_of_take n m k line true is least =
    let less : n ≤ m = grind (arith, nat_tests) in
    take-take n m line less ∙ ap (λ j. take j line) (omega arith)
take_of_take n m k line false is least =
    let less : m < n = grind (arith, nat_tests) in
    let short : length (take m line) ≤ n = grind (arith, common_steps) in
    all_taken n (take m line) short ∙ ap (λ j. take j line) (omega arith)

front_of_take : (n m : ℕ) (line : List ℕ) → m ≡ n + 1 → 0 < length line → take (length (take m line) - 1) (take m line) ≡ take n (take (length line - 1) line)
front_of_take n m line is some =
    let long : length (take m line) ≡ min m (length line) = grind (arith, common_steps) in
    take-take (length (take m line) - 1) m line (omega arith)
    ∙ sym (take_of_take n (length line - 1) (length (take m line) - 1) line (nat_le n (length line - 1)) refl (omega arith))

front_of_two : (n m : ℕ) (lines line : List ℕ) → m ≡ n + 1 → 0 < length line
    → take (length (lines ++ take m line) - 1) (lines ++ take m line) ≡ lines ++ take n (take (length line - 1) line)
front_of_two n m lines line is some =
    let kept : 0 < length (take m line) = grind (arith, common_steps) in
    front_of_append lines (take m line) kept ∙ ap (λ l. lines ++ l) (front_of_take n m line is some)

-- what is kept of a line without its CR
pub popped : (n m len : ℕ) (lines line old text : List ℕ) → m ≡ n + 1 → ends_in_cr line ≡ true → old ≡ lines ++ take m line → len ≡ length old → text ≡ take (len - 1) old
    → text ≡ lines ++ take n (without_last line)
popped n m len lines line old text is cr from long front =
    front ∙ ap (λ k. take (k - 1) old) long ∙ ap (λ o. take (length o - 1) o) from ∙ front_of_two n m lines line is (some_byte line cr)
    ∙ ap (λ l. lines ++ take n l) (sym (is_front line))

kept_long : (lines n : ℕ) (line : List ℕ) → n ≡ 65537 - lines → lines ≤ 65536 → 65536 < lines + length line → nat_lt 65536 (lines + length (take n line)) ≡ true
kept_long lines n line is fits long =
    let many : length (take n line) ≡ n = grind (arith, common_steps) in
    grind (arith, nat_tests, many)

is_less : (n m : ℕ) → nat_lt n m ≡ true → n < m
is_less n m is = grind (arith, nat_tests)

is_most : (n m : ℕ) → nat_lt n m ≡ false → m ≤ n
is_most n m is = grind (arith, nat_tests)

abbrev ending_if : Bool → ℕ → List ℕ → Ending
ending_if x literals line = if x then too_long else ending_of literals (announced line)

ending_kept_if : (lines literals n : ℕ) (line : List ℕ) (x : Bool) → nat_lt 65536 (lines + length line) ≡ x → n ≡ 65537 - lines → lines ≤ 65536
    → ending_at lines literals (take n line) ≡ ending_if x literals line
unfolding ending_at
ending_kept_if lines literals n line true is are fits =
    ap (λ x. ending_if x literals (take n line)) (kept_long lines n line are fits (is_less 65536 (lines + length line) is))
ending_kept_if lines literals n line false is are fits =
    let same = all_taken n line (let less = is_most 65536 (lines + length line) is in omega arith) in
    ap (λ l. ending_if (nat_lt 65536 (lines + length l)) literals l) same ∙ ap (λ x. ending_if x literals line) is

-- a line asks for the same by what is kept of it
pub ending_kept : (lines literals n : ℕ) (line : List ℕ) → n ≡ 65537 - lines → lines ≤ 65536 → ending_at lines literals (take n line) ≡ ending_at lines literals line
unfolding ending_at
ending_kept lines literals n line is fits = ending_kept_if lines literals n line (nat_lt 65536 (lines + length line)) refl is fits

fits_if : (lines literals : ℕ) (line : List ℕ) (end : Ending) (x : Bool) → nat_lt 65536 (lines + length line) ≡ x → (end ≡ too_long → ⊥) → end ≡ ending_if x literals line → lines + length line ≤ 65536
fits_if lines literals line end true is other are = absurd (other are)
fits_if lines literals line end false is other are = is_most 65536 (lines + length line) is

-- a line that isn't too long
pub fits : (lines literals : ℕ) (line : List ℕ) (end : Ending) → (end ≡ too_long → ⊥) → end ≡ ending_at lines literals line → lines + length line ≤ 65536
unfolding ending_at
fits lines literals line end other are = fits_if lines literals line end (nat_lt 65536 (lines + length line)) refl other are

size_if : (literals size count : ℕ) (x : Bool) → nat_lt 16777216 (literals + count) ≡ x → literal size ≡ (if x then too_large else literal count) → literals + size ≤ 16777216
size_if literals size count true is are = absurd (cc)
size_if literals size count false is are =
    let same : size ≡ count = cc in subst (λ n. literals + n ≤ 16777216) (sym same) (is_most 16777216 (literals + count) is)

size_of : (literals size : ℕ) (count : Option ℕ) → literal size ≡ ending_of literals count → literals + size ≤ 16777216
size_of literals size None are = absurd (cc)
size_of literals size (Some count) are = size_if literals size count (nat_lt 16777216 (literals + count)) refl are

size_here : (literals size : ℕ) (line : List ℕ) (x : Bool) → literal size ≡ ending_if x literals line → literals + size ≤ 16777216
size_here literals size line true are = absurd (cc)
size_here literals size line false are = size_of literals size (announced line) are

-- a literal that isn't too large
pub size_fits : (lines literals size : ℕ) (line : List ℕ) → literal size ≡ ending_at lines literals line → literals + size ≤ 16777216
unfolding ending_at
size_fits lines literals size line are = size_here literals size line (nat_lt 65536 (lines + length line)) are

-- the first bytes of a text that is too long
pub first_bytes : (n m : ℕ) (lines line : List ℕ) → m ≤ length lines + n → take m (lines ++ take n line) ≡ take m (lines ++ line)
first_bytes n m [] line room = take-take m n line (omega arith)
first_bytes n zero (a ∷ lines) line room = refl
first_bytes n (suc m) (a ∷ lines) line room = ap (λ r. a ∷ r) (first_bytes n m lines line (omega arith))

-- a feed whose line has just lost its CR
pub record Ends (old : Feed) (parts : List Part) (line text kept : List ℕ) : Type 0 where
  pub is_text : text ≡ lines_of parts ++ take (65537 - lines_size parts) (without_last line)
  pub is_kept : kept ≡ take (65537 - lines_size parts) (without_last line)

pub ends : (old : Feed) (parts : List Part) (line text kept : List ℕ) → InLine old parts line → ends_in_cr line ≡ true → text ≡ take (length old.text.items - 1) old.text.items
    → kept ≡ drop old.start text → Ends old parts line text kept
ends old parts line text kept held cr front behind =
    let room : 65538 - lines_size parts ≡ 65537 - lines_size parts + 1 = let most = held.fits in omega arith in
    let is = popped (65537 - lines_size parts) (65538 - lines_size parts) (length old.text.items) (lines_of parts) line old.text.items text room cr held.text refl front in
    record { is_text = is; is_kept = behind ∙ ap (drop old.start) is ∙ behind_start (lines_of parts) (take (65537 - lines_size parts) (without_last line)) old.start held.start }

-- what the line's end asks for
pub asks : (old : Feed) (parts : List Part) (line text kept : List ℕ) (end : Ending) → InLine old parts line → Ends old parts line text kept
    → end ≡ ending_at old.lines_size old.literals_size kept → ending_at (lines_size parts) (literals_size parts) (without_last line) ≡ end
asks old parts line text kept end held are is =
    sym (is ∙ ap (λ n. ending_at n old.literals_size kept) held.lines ∙ ap (λ n. ending_at (lines_size parts) n kept) held.held
    ∙ ap (ending_at (lines_size parts) (literals_size parts)) are.is_kept
    ∙ ending_kept (lines_size parts) (literals_size parts) (65537 - lines_size parts) (without_last line) refl held.fits)

-- the whole text, where the line fits
pub whole_text : (old : Feed) (parts : List Part) (line text kept : List ℕ) → Ends old parts line text kept → lines_size parts + length (without_last line) ≤ 65536
    → text ≡ lines_of parts ++ without_last line
whole_text old parts line text kept are short =
    are.is_text ∙ ap (λ l. lines_of parts ++ l) (all_taken (65537 - lines_size parts) (without_last line) (omega arith))

pub first_of : (old : Feed) (parts : List Part) (line text kept : List ℕ) → Ends old parts line text kept → take 65536 text ≡ take 65536 (text_of parts (without_last line))
first_of old parts line text kept are =
    let low = lines_length parts in
    ap (take 65536) are.is_text ∙ first_bytes (65537 - lines_size parts) 65536 (lines_of parts) (without_last line) (omega arith)

-- what a line's end brings
pub over : {E : Type 0} (result : Result (Unit {0}) E) (new : Feed) (parts : List Part) (line : List ℕ) (end : Ending) (before after : List RawUnit)
    → ending_at (lines_size parts) (literals_size parts) (without_last line) ≡ end
    → OnOk result (Holds new (ended parts (without_last line) end).left) → OnOk result (after ≡ before ++ (ended parts (without_last line) end).units)
    → OnOk result (Holds new (line_ended parts line).left × (after ≡ before ++ (line_ended parts line).units))
over result new parts line end before after asked here told =
    let P : Ending → Type 0 = λ e. OnOk result (Holds new (ended parts (without_last line) e).left × (after ≡ before ++ (ended parts (without_last line) e).units)) in
    subst P (sym asked) (on_both _ _ result here told)
