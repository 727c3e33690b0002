-- A stream read byte by byte.
use Rattle.std.proofs.Common.{ℕ, zero, suc, ◌+◌, ◌<◌, ◌≤◌, Bool, true, false, List, [], ◌∷◌, ◌++◌, ◌≡◌, ◌==◌, ◌&&◌, Option, Some, None, nat_le, length, take, drop, arith, refl, sym, ◌∙◌, ap, subst, append_assoc}
use Rattle.std.proofs.lemmas.List.{append-nil}
use Rattle.std.proofs.lemmas.Grind.{common_steps}
use Rattle.std.proofs.lemmas.Bool.Decides.{nat_tests}
use Rattle.raw_commands.specs.Limits.{Part, Ending, too_long, too_large, whole, literal, ending}
use Rattle.raw_commands.specs.Streams.{is_crlf, in_front, first_line, text_of, command_of, Left, in_line, in_literal, Reading, and_then, literal_then, ending_then, line_then, reading_of, reading}
use Rattle.raw_commands.specs.Steps.{ends_in_cr, without_last, ends_line, awaiting, ended, line_pushed, filled, push, both, run}
use Rattle.raw_commands.specs.declared.command.RawUnit.TheVariants.{Announce, Whole, TooLong, TooLarge}

-- the bytes of a run in two parts
pub run_append : (left : Left) (front back : List ℕ) → run left (front ++ back) ≡ both (run left front) (run (run left front).left back)
run_append left [] back = refl
run_append left (byte ∷ front) back =
    let one = push left byte in
    let whole = run_append one.left front back in
    ap (both one) whole
    ∙ ap (λ units. record { units = units; left = (run (run one.left front).left back).left })
    (sym (append_assoc one.units (run one.left front).units (run (run one.left front).left back).units))

pub both_true : (x y : Bool) → x && y ≡ true → (x ≡ true) × (y ≡ true)
both_true true y is = (refl, is)
both_true false y is = absurd (cc)

pub is_number : (n byte : ℕ) → (byte == n) ≡ true → byte ≡ n
is_number n byte is = grind (arith, nat_tests)

none_in_front : (a : ℕ) (found : Option (List ℕ × List ℕ)) → in_front a found ≡ None → found ≡ None
none_in_front a None none = refl
none_in_front a (Some found) none = absurd (cc)

-- a stream of two bytes or more has its first line by its first two bytes, or by the first line behind its first
abbrev line_if : Bool → ℕ → List ℕ → Option (List ℕ × List ℕ) → Option (List ℕ × List ℕ)
line_if x a rest first = elim x as (λ _. Option (List ℕ × List ℕ)) [ true ↦ Some ([], rest) | false ↦ in_front a first ]

goes_on : (x : Bool) (a : ℕ) (rest : List ℕ) (first : Option (List ℕ × List ℕ)) → line_if x a rest first ≡ None → (x ≡ false) × (first ≡ None)
goes_on true a rest first none = absurd (cc)
goes_on false a rest first none = (refl, none_in_front a first none)

and_true : (x : Bool) → x && true ≡ x
and_true true = refl
and_true false = refl

-- a line ends behind its CR
line_ends : (line rest : List ℕ) → first_line line ≡ None → ends_in_cr line ≡ true → first_line (line ++ 10 ∷ rest) ≡ Some (without_last line, rest)
line_ends [] rest none cr = absurd (cc)
line_ends (a ∷ []) rest none cr = ap (λ x. line_if x a rest (first_line (10 ∷ rest))) (and_true (a == 13) ∙ cr)
line_ends (a ∷ b ∷ line) rest none cr =
    let on = goes_on (is_crlf a b) a line (first_line (b ∷ line)) none in
    ap (λ x. line_if x a (line ++ 10 ∷ rest) (first_line (b ∷ line ++ 10 ∷ rest))) on.0 ∙ ap (in_front a) (line_ends (b ∷ line) rest on.1 cr)

-- and goes on behind any other byte
line_goes_on : (line : List ℕ) (byte : ℕ) → first_line line ≡ None → ends_line byte line ≡ false → first_line (line ++ byte ∷ []) ≡ None
line_goes_on [] byte none is = refl
line_goes_on (a ∷ []) byte none is = ap (λ x. line_if x a [] None) is
line_goes_on (a ∷ b ∷ line) byte none is =
    let on = goes_on (is_crlf a b) a line (first_line (b ∷ line)) none in
    ap (λ x. line_if x a (line ++ byte ∷ []) (first_line (b ∷ line ++ byte ∷ []))) on.0 ∙ ap (in_front a) (line_goes_on (b ∷ line) byte on.1 is)

shorter_front : (a b : ℕ) (rest : List ℕ) (found : List ℕ × List ℕ) (first : Option (List ℕ × List ℕ))
    → ((behind : List ℕ × List ℕ) → first ≡ Some behind → length behind.1 < length (b ∷ rest)) → in_front a first ≡ Some found → length found.1 < length (a ∷ b ∷ rest)
shorter_front a b rest found None below is = absurd (cc)
shorter_front a b rest found (Some behind) below is =
    let less = below behind refl in
    let same : behind.1 ≡ found.1 = cc in
    subst (λ r. length r < length (a ∷ b ∷ rest)) same (omega arith)

shorter_here : (a b : ℕ) (rest : List ℕ) (found : List ℕ × List ℕ) (x : Bool) (first : Option (List ℕ × List ℕ))
    → ((behind : List ℕ × List ℕ) → first ≡ Some behind → length behind.1 < length (b ∷ rest)) → line_if x a rest first ≡ Some found → length found.1 < length (a ∷ b ∷ rest)
shorter_here a b rest found true first below is =
    let same : rest ≡ found.1 = cc in
    subst (λ r. length r < length (a ∷ b ∷ rest)) same (omega arith)
shorter_here a b rest found false first below is = shorter_front a b rest found first below is

-- what stands behind the first line is shorter than all
pub line_shorter : (bytes : List ℕ) (found : List ℕ × List ℕ) → first_line bytes ≡ Some found → length found.1 < length bytes
line_shorter [] found is = absurd (cc)
line_shorter (a ∷ []) found is = absurd (cc)
line_shorter (a ∷ b ∷ rest) found is = shorter_here a b rest found (is_crlf a b) (first_line (b ∷ rest)) (λ behind are. line_shorter (b ∷ rest) behind are) is

-- where a line is looked for behind some of its bytes
abbrev pub scanned : List Part → List ℕ → Option (List ℕ × List ℕ) → Reading
scanned parts bytes None = record { units = []; left = in_line parts bytes }
scanned parts bytes (Some found) = let end = ended parts found.0 (ending parts found.0) in both end (run end.left found.1)

abbrev pushed_then : List Part → List ℕ → ℕ → List ℕ → Bool → Reading
pushed_then parts line byte bytes x = let one = line_pushed x parts line byte in both one (run one.left bytes)

is_feed : (line : List ℕ) (byte : ℕ) → ends_line byte line ≡ true → (ends_in_cr line ≡ true) × (byte ≡ 10)
is_feed line byte is = let two = both_true (ends_in_cr line) (byte == 10) is in (two.0, is_number 10 byte two.1)

scan_here : (byte : ℕ) (bytes line : List ℕ) (parts : List Part) (x : Bool) → first_line line ≡ None → ends_line byte line ≡ x
    → (first_line (line ++ byte ∷ []) ≡ None
    → run (in_line parts (line ++ byte ∷ [])) bytes ≡ scanned parts ((line ++ byte ∷ []) ++ bytes) (first_line ((line ++ byte ∷ []) ++ bytes)))
    → pushed_then parts line byte bytes x ≡ scanned parts (line ++ byte ∷ bytes) (first_line (line ++ byte ∷ bytes))
scan_here byte bytes line parts true none is more =
    let feed = is_feed line byte is in
    sym (ap (λ b. scanned parts (line ++ b ∷ bytes) (first_line (line ++ b ∷ bytes))) feed.1 ∙ ap (scanned parts (line ++ 10 ∷ bytes)) (line_ends line bytes none feed.0))
scan_here byte bytes line parts false none is more =
    more (line_goes_on line byte none is) ∙ ap (λ b. scanned parts b (first_line b)) (append_assoc line (byte ∷ []) bytes)

-- bytes behind those of a line, one by one
pub scan : (bytes line : List ℕ) (parts : List Part) → first_line line ≡ None → run (in_line parts line) bytes ≡ scanned parts (line ++ bytes) (first_line (line ++ bytes))
scan [] line parts none = sym (ap (λ b. scanned parts b (first_line b)) (append-nil line) ∙ ap (scanned parts line) none)
scan (byte ∷ bytes) line parts none = scan_here byte bytes line parts (ends_line byte line) none refl (λ on. scan bytes (line ++ byte ∷ []) parts on)

-- bytes behind those of a literal that isn't whole
abbrev pub taken : Bool → List Part → List ℕ → ℕ → List ℕ → Reading
taken true parts line size bytes = run (in_line (parts ++ (line, take size bytes) ∷ []) []) (drop size bytes)
taken false parts line size bytes = record { units = []; left = in_literal parts line size bytes }

abbrev filled_then : List Part → List ℕ → ℕ → List ℕ → List ℕ → Bool → Reading
filled_then parts line size got bytes x = both (record { units = []; left = filled x parts line size got }) (run (filled x parts line size got) bytes)

not_full : (size : ℕ) (got : List ℕ) → length got < size → nat_le size (length got) ≡ false
not_full size got less = grind (arith, nat_tests)

pub front_is : (got bytes : List ℕ) (size : ℕ) → size ≡ length got → (take size (got ++ bytes) ≡ got) × (drop size (got ++ bytes) ≡ bytes) × (nat_le size (length (got ++ bytes)) ≡ true)
front_is got bytes size is = (grind (arith, common_steps), grind (arith, common_steps), full)
  where
    longer : size ≤ length (got ++ bytes)
    longer = grind (arith, common_steps)

    full : nat_le size (length (got ++ bytes)) ≡ true
    full = let more = longer in grind (arith, nat_tests)

one_longer : (got : List ℕ) (byte size : ℕ) → length got < size → nat_le size (length (got ++ byte ∷ [])) ≡ true → size ≡ length (got ++ byte ∷ [])
one_longer got byte size less is =
    let long : length (got ++ byte ∷ []) ≡ length got + 1 = grind (arith, common_steps) in
    grind (arith, nat_tests, long)

still_less : (got : List ℕ) (byte size : ℕ) → nat_le size (length (got ++ byte ∷ [])) ≡ false → length (got ++ byte ∷ []) < size
still_less got byte size is = grind (arith, nat_tests)

fill_here : (byte : ℕ) (bytes : List ℕ) (parts : List Part) (line : List ℕ) (size : ℕ) (got : List ℕ) (x : Bool) → length got < size
    → nat_le size (length (got ++ byte ∷ [])) ≡ x
    → (length (got ++ byte ∷ []) < size
    → run (in_literal parts line size (got ++ byte ∷ [])) bytes ≡ taken (nat_le size (length ((got ++ byte ∷ []) ++ bytes))) parts line size ((got ++ byte ∷ []) ++ bytes))
    → filled_then parts line size (got ++ byte ∷ []) bytes x ≡ taken (nat_le size (length (got ++ byte ∷ bytes))) parts line size (got ++ byte ∷ bytes)
fill_here byte bytes parts line size got true less is more =
    let now = got ++ byte ∷ [] in
    let parts_are = front_is now bytes size (one_longer got byte size less is) in
    sym (ap (λ b. taken (nat_le size (length b)) parts line size b) (sym (append_assoc got (byte ∷ []) bytes))
    ∙ ap (λ x. taken x parts line size (now ++ bytes)) parts_are.2
    ∙ ap (λ t. run (in_line (parts ++ (line, t) ∷ []) []) (drop size (now ++ bytes))) parts_are.0
    ∙ ap (λ d. run (in_line (parts ++ (line, now) ∷ []) []) d) parts_are.1)
fill_here byte bytes parts line size got false less is more =
    more (still_less got byte size is) ∙ ap (λ b. taken (nat_le size (length b)) parts line size b) (append_assoc got (byte ∷ []) bytes)

pub fill : (bytes : List ℕ) (parts : List Part) (line : List ℕ) (size : ℕ) (got : List ℕ) → length got < size
    → run (in_literal parts line size got) bytes ≡ taken (nat_le size (length (got ++ bytes))) parts line size (got ++ bytes)
fill [] parts line size got less =
    sym (ap (λ b. taken (nat_le size (length b)) parts line size b) (append-nil got) ∙ ap (λ x. taken x parts line size got) (not_full size got less))
fill (byte ∷ bytes) parts line size got less =
    fill_here byte bytes parts line size got (nat_le size (length (got ++ byte ∷ []))) less refl (λ still. fill bytes parts line size (got ++ byte ∷ []) still)

-- what a reader of the bytes behind a line gives
abbrev Reads : (List Part → List ℕ → Reading) → ℕ → Type 0
Reads more n = (parts : List Part) (rest : List ℕ) → length rest ≤ n → more parts rest ≡ run (in_line parts []) rest

behind_less : (size n : ℕ) (rest : List ℕ) → length rest ≤ n → length (drop size rest) ≤ n
behind_less size n rest short = grind (arith, common_steps)

whole_literal : (more : List Part → List ℕ → Reading) (n : ℕ) (parts : List Part) (line : List ℕ) (size : ℕ) (rest : List ℕ) (x : Bool) → Reads more n → length rest ≤ n
    → elim x as (λ _. Reading) [
      | true ↦ more (parts ++ (line, take size rest) ∷ []) (drop size rest)
      | false ↦ record { units = []; left = in_literal parts line size rest }
    ] ≡ taken x parts line size rest
whole_literal more n parts line size rest true reads short = reads (parts ++ (line, take size rest) ∷ []) (drop size rest) (behind_less size n rest short)
whole_literal more n parts line size rest false reads short = refl

zero_low : (n : ℕ) → nat_le zero n ≡ true
zero_low n = grind (arith, nat_tests)

awaited : (parts : List Part) (line : List ℕ) (size : ℕ) (rest : List ℕ) → run (awaiting parts line size) rest ≡ taken (nat_le size (length rest)) parts line size rest
awaited parts line zero rest = sym (ap (λ x. taken x parts line zero rest) (zero_low (length rest)))
awaited parts line (suc size) rest = fill rest parts line (suc size) [] (omega arith)

literal_reads : (more : List Part → List ℕ → Reading) (n : ℕ) (parts : List Part) (line : List ℕ) (size : ℕ) (rest : List ℕ) → Reads more n → length rest ≤ n
    → literal_then more parts line size rest ≡ run (awaiting parts line size) rest
literal_reads more n parts line size rest reads short =
    whole_literal more n parts line size rest (nat_le size (length rest)) reads short ∙ sym (awaited parts line size rest)

ending_reads : (more : List Part → List ℕ → Reading) (n : ℕ) (parts : List Part) (line rest : List ℕ) (end : Ending) → Reads more n → length rest ≤ n
    → ending_then more parts line rest end ≡ both (ended parts line end) (run (ended parts line end).left rest)
ending_reads more n parts line rest too_long reads short = ap (and_then (TooLong (take 65536 (text_of parts line)))) (reads [] rest short)
ending_reads more n parts line rest too_large reads short = ap (and_then (TooLarge (text_of parts line))) (reads [] rest short)
ending_reads more n parts line rest whole reads short = ap (and_then (Whole (command_of parts line))) (reads [] rest short)
ending_reads more n parts line rest (literal size) reads short = ap (and_then Announce) (literal_reads more n parts line size rest reads short)

line_reads : (more : List Part → List ℕ → Reading) (n : ℕ) (parts : List Part) (bytes : List ℕ) (first : Option (List ℕ × List ℕ)) → Reads more n
    → ((found : List ℕ × List ℕ) → first ≡ Some found → length found.1 ≤ n) → line_then more parts bytes first ≡ scanned parts bytes first
line_reads more n parts bytes None reads short = refl
line_reads more n parts bytes (Some found) reads short = ending_reads more n parts found.0 found.1 (ending parts found.0) reads (short found refl)

reads_all : (n : ℕ) → Reads (reading_of n) n
reads_all zero parts [] short = refl
reads_all zero parts (byte ∷ bytes) short = absurd (omega arith)
reads_all (suc n) parts bytes short =
    line_reads (reading_of n) n parts bytes (first_line bytes) (reads_all n) (λ found is. let less = line_shorter bytes found is in omega arith)
    ∙ sym (scan bytes [] parts refl)

-- a stream is read byte by byte
pub reads_bytes : (stream : List ℕ) → reading stream ≡ run (in_line [] []) stream
unfolding reading
reads_bytes stream = reads_all (length stream) [] stream (omega arith)

-- a piece behind a stream is read from where the stream left off
pub reads_piece : (stream piece : List ℕ) → reading (stream ++ piece) ≡ both (reading stream) (run (reading stream).left piece)
reads_piece stream piece =
    reads_bytes (stream ++ piece) ∙ run_append (in_line [] []) stream piece ∙ sym (ap (λ r. both r (run r.left piece)) (reads_bytes stream))
