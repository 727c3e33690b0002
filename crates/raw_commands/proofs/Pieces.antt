-- How far into a piece a feed is.
use Rattle.std.proofs.Common.{ℕ, zero, suc, ◌+◌, ◌-◌, ◌<◌, ◌≤◌, Bool, true, false, ◌==◌, ◌&&◌, List, [], ◌∷◌, ◌++◌, ◌≡◌, IsTrue, nat_le, None, Some, Result, Ok, Err, OnOk, OnErr, arith, append_assoc, refl, sym, ◌∙◌, ap, subst, take, drop, flat_map, length, slice_index, take-append-drop}
use Rattle.std.specs.Result.{is_err}
use Rattle.std.proofs.lemmas.List.{append-nil, take_more}
use Rattle.std.proofs.lemmas.List.Concat.{flat_map-cons}
use Rattle.std.proofs.lemmas.Grind.{common_steps}
use Rattle.std.proofs.lemmas.Bool.Decides.{nat_tests}
use Rattle.memchr.specs.Find.{IsFirstByte, is_byte}
use Rattle.raw_commands.specs.Limits.{Part, lines_size}
use Rattle.raw_commands.specs.Streams.{with_crlf, Left, in_line, in_literal, reading, begun, unfinished, raw_units_of}
use Rattle.raw_commands.specs.Steps.{ends_in_cr, push, line_pushed, both, run}
use Rattle.raw_commands.specs.Taken.{lines_of, InLine, InLiteral, Holds, Goes, GoesFirst, AddsSome, HasTaken, Adds, AddsFirst, UnitsFirst}
use Rattle.raw_commands.specs.declared.command.RawUnit.{RawUnit}
use Rattle.raw_commands.specs.declared.feed.Feed.{Feed}
use Rattle.raw_commands.proofs.Bytes.{run_append, taken, fill, front_is, is_number, reads_piece}

abbrev pub NoLineFeed : List ℕ → Type 0
NoLineFeed [] = Unit {0}
NoLineFeed (byte ∷ bytes) = ((byte == 10) ≡ false) × NoLineFeed bytes

not_true : (x : Bool) → (x ≡ true → ⊥) → x ≡ false
not_true true none = absurd (none refl)
not_true false none = refl

none_before : (bytes : List ℕ) (k : ℕ) → k ≤ length bytes → ((j : ℕ) → 0 ≤ j → j < k → (slice_index bytes j == 10) ≡ true → ⊥) → NoLineFeed (take k bytes)
none_before [] zero within none = tt
none_before [] (suc k) within none = tt
none_before (byte ∷ bytes) zero within none = tt
none_before (byte ∷ bytes) (suc k) within none =
    (not_true (byte == 10) (none 0 (omega arith) (omega arith)), none_before bytes k (omega arith) (λ j low below. none (suc j) (omega arith) (omega arith)))

take_whole : (bytes : List ℕ) → take (length bytes) bytes ≡ bytes
take_whole bytes = grind (arith, common_steps)

and_false : (x y : Bool) → y ≡ false → x && y ≡ false
and_false true y is = is
and_false false y is = refl

-- bytes without a line feed belong to the line
quiet : (bytes line : List ℕ) (parts : List Part) → NoLineFeed bytes → run (in_line parts line) bytes ≡ record { units = []; left = in_line parts (line ++ bytes) }
quiet [] line parts none = ap (λ l. record { units = []; left = in_line parts l }) (sym (append-nil line))
quiet (byte ∷ bytes) line parts none =
    ap (λ x. let one = line_pushed x parts line byte in both one (run one.left bytes)) (and_false (ends_in_cr line) (byte == 10) none.0)
    ∙ ap (both (record { units = []; left = in_line parts (line ++ byte ∷ []) })) (quiet bytes (line ++ byte ∷ []) parts none.1)
    ∙ ap (λ l. record { units = []; left = in_line parts l }) (append_assoc line (byte ∷ []) bytes)

no_literal : (n : ℕ) → n ≡ 0 → 0 < n → ⊥
no_literal n none some = absurd (omega arith)

quiet_goes : (old new : Feed) (bytes : List ℕ) (units : List RawUnit) → old.awaited ≡ 0 → NoLineFeed bytes
    → ((parts : List Part) (line : List ℕ) → InLine old parts line → InLine new parts (line ++ bytes)) → Goes old new bytes units units
quiet_goes old new bytes units here none goes (in_line parts line) held =
    let is = quiet bytes line parts none in
    (subst (λ r. Holds new r.left) (sym is) (goes parts line held), sym (append-nil units) ∙ ap (λ r. units ++ r.units) (sym is))
quiet_goes old new bytes units here none goes (in_literal parts line size got) held = absurd (no_literal old.awaited here held.1)

-- a piece without a line feed
pub run_goes : (old new : Feed) (bytes : List ℕ) (units : List RawUnit) → old.awaited ≡ 0 → IsFirstByte (is_byte 10) bytes None
    → ((parts : List Part) (line : List ℕ) → InLine old parts line → InLine new parts (line ++ bytes)) → Goes old new (take (length bytes) bytes) units units
run_goes old new bytes units here none goes =
    let no_feed : NoLineFeed bytes = subst NoLineFeed (take_whole bytes) (none_before bytes (length bytes) (omega arith) (λ j low below. none j low below)) in
    subst (λ b. Goes old new b units units) (sym (take_whole bytes)) (quiet_goes old new bytes units here no_feed goes)

feed_goes : (old mid new : Feed) (bytes : List ℕ) (before after : List RawUnit) → old.awaited ≡ 0 → NoLineFeed bytes
    → ((parts : List Part) (line : List ℕ) → InLine old parts line → InLine mid parts (line ++ bytes))
    → ((parts : List Part) (line : List ℕ) → InLine mid parts line → Holds new (push (in_line parts line) 10).left × (after ≡ before ++ (push (in_line parts line) 10).units))
    → Goes old new (bytes ++ 10 ∷ []) before after
feed_goes old mid new bytes before after here none goes ends (in_line parts line) held =
    let one = push (in_line parts (line ++ bytes)) 10 in
    let end = ends parts (line ++ bytes) (goes parts line held) in
    let is : run (in_line parts line) (bytes ++ 10 ∷ []) ≡ record { units = one.units; left = one.left } =
    run_append (in_line parts line) bytes (10 ∷ [])
    ∙ ap (λ r. both r (run r.left (10 ∷ []))) (quiet bytes line parts none)
    ∙ ap (λ u. record { units = u; left = one.left }) (append-nil one.units) in
    (subst (λ r. Holds new r.left) (sym is) end.0, end.1 ∙ ap (λ r. before ++ r.units) (sym is))
feed_goes old mid new bytes before after here none goes ends (in_literal parts line size got) held = absurd (no_literal old.awaited here held.1)

-- the bytes up to a line feed, with it
pub line_feed_goes : (old mid new : Feed) (bytes front : List ℕ) (k : ℕ) (before after : List RawUnit) → old.awaited ≡ 0 → IsFirstByte (is_byte 10) bytes (Some k)
    → front ≡ take k bytes
    → ((parts : List Part) (line : List ℕ) → InLine old parts line → InLine mid parts (line ++ front))
    → ((parts : List Part) (line : List ℕ) → InLine mid parts line → Holds new (push (in_line parts line) 10).left × (after ≡ before ++ (push (in_line parts line) 10).units))
    → Goes old new (take (k + 1) bytes) before after
line_feed_goes old mid new bytes front k before after here at is goes ends =
    let none : NoLineFeed front = subst NoLineFeed (sym is) (none_before bytes k (omega (arith, at.0.high)) (λ j low below. at.0.before j low below)) in
    let parts_are : take (k + 1) bytes ≡ front ++ 10 ∷ [] =
    take_more bytes k 0 at.0.high ∙ ap (λ b. take k bytes ++ b ∷ []) (is_number 10 (slice_index bytes k) at.1) ∙ ap (λ f. f ++ 10 ∷ []) (sym is) in
    subst (λ b. Goes old new b before after) (sym parts_are) (feed_goes old mid new front before after here none goes ends)

pub longer : (got bytes : List ℕ) → length (got ++ bytes) ≡ length got + length bytes
longer got bytes = grind (arith, common_steps)

-- a literal goes on
still_in : (parts : List Part) (line : List ℕ) (size : ℕ) (got bytes : List ℕ) → length got + length bytes < size
    → run (in_literal parts line size got) bytes ≡ record { units = []; left = in_literal parts line size (got ++ bytes) }
still_in parts line size got bytes less =
    let long = longer got bytes in
    let is : nat_le size (length (got ++ bytes)) ≡ false = grind (arith, nat_tests, long) in
    fill bytes parts line size got (omega arith) ∙ ap (λ x. taken x parts line size (got ++ bytes)) is

full_now : (parts : List Part) (line : List ℕ) (size : ℕ) (got bytes : List ℕ) → length got < size → length got + length bytes ≡ size
    → run (in_literal parts line size got) bytes ≡ record { units = []; left = in_line (parts ++ (line, got ++ bytes) ∷ []) [] }
full_now parts line size got bytes less full =
    let long : size ≡ length (got ++ bytes) = sym (longer got bytes ∙ full) in
    let are = front_is (got ++ bytes) [] size long in
    let same = append-nil (got ++ bytes) in
    fill bytes parts line size got less
    ∙ ap (λ b. taken (nat_le size (length b)) parts line size b) (sym same)
    ∙ ap (λ x. taken x parts line size ((got ++ bytes) ++ [])) are.2
    ∙ ap (λ t. run (in_line (parts ++ (line, t) ∷ []) []) (drop size ((got ++ bytes) ++ []))) are.0
    ∙ ap (λ d. run (in_line (parts ++ (line, got ++ bytes) ∷ []) []) d) are.1

pub literal_goes_on : (old new : Feed) (bytes : List ℕ) → length bytes < old.awaited
    → ((parts : List Part) (line : List ℕ) (size : ℕ) (got : List ℕ) → InLiteral old parts line size got → InLiteral new parts line size (got ++ bytes) × (0 < new.awaited))
    → Goes old new bytes [] []
literal_goes_on old new bytes less goes (in_line parts line) held = let none = held.awaited in absurd (omega arith)
literal_goes_on old new bytes less goes (in_literal parts line size got) held =
    let sum = held.0.awaited in
    let is = still_in parts line size got bytes (omega arith) in
    (subst (λ r. Holds new r.left) (sym is) (goes parts line size got held.0), ap (λ r. r.units) (sym is))

pub literal_ends : (old new : Feed) (bytes : List ℕ) → 0 < old.awaited → length bytes ≡ old.awaited
    → ((parts : List Part) (line : List ℕ) (size : ℕ) (got : List ℕ) → InLiteral old parts line size got → InLine new (parts ++ (line, got ++ bytes) ∷ []) [])
    → Goes old new bytes [] []
literal_ends old new bytes some less goes (in_line parts line) held = let none = held.awaited in absurd (omega arith)
literal_ends old new bytes some less goes (in_literal parts line size got) held =
    let sum = held.0.awaited in
    let is = full_now parts line size got bytes (omega arith) (omega arith) in
    (subst (λ r. Holds new r.left) (sym is) (goes parts line size got held.0), ap (λ r. r.units) (sym is))

-- a feed has taken the front of a piece, and `rest` is behind it
pub record Reached (start feed : Feed) (piece rest : List ℕ) (old units : List RawUnit) : Type 0 where
  pub front : List ℕ
  pub parts : piece ≡ front ++ rest
  pub goes : Goes start feed front old units

pub none_reached : (feed : Feed) (piece : List ℕ) (units : List RawUnit) → Reached feed feed piece piece units units
none_reached feed piece units = record { front = []; parts = refl; goes = λ left held. (held, sym (append-nil units)) }

-- one run behind another
goes_then : (start feed next : Feed) (front back : List ℕ) (old units more : List RawUnit) → Goes start feed front old units → Goes feed next back units more
    → Goes start next (front ++ back) old more
goes_then start feed next front back old units more one two left held =
    let first = one left held in
    let mid = run left front in
    let second = two mid.left first.0 in
    let is = run_append left front back in (
      subst (λ r. Holds next r.left) (sym is) second.0,
      second.1 ∙ ap (λ u. u ++ (run mid.left back).units) first.1 ∙ append_assoc old mid.units (run mid.left back).units ∙ ap (λ r. old ++ r.units) (sym is),
    )

pub further : (start feed next : Feed) (piece bytes rest : List ℕ) (width : ℕ) (old units more : List RawUnit) → Reached start feed piece bytes old units
    → rest ≡ drop width bytes → Goes feed next (take width bytes) units more → Reached start next piece rest old more
further start feed next piece bytes rest width old units more reached is goes = record {
  front = reached.front ++ take width bytes;
  parts = reached.parts ∙ ap (λ b. reached.front ++ b) (sym (take-append-drop width bytes) ∙ ap (λ r. take width bytes ++ r) (sym is))
      ∙ sym (append_assoc reached.front (take width bytes) rest);
  goes = goes_then start feed next reached.front (take width bytes) old units more reached.goes goes;
}

-- the whole piece
pub all_reached : (start feed : Feed) (piece rest : List ℕ) (old units : List RawUnit) → Reached start feed piece rest old units → length rest ≡ 0 → Goes start feed piece old units
all_reached start feed piece [] old units reached none =
    subst (λ p. Goes start feed p old units) (sym (reached.parts ∙ append-nil reached.front)) reached.goes
all_reached start feed piece (byte ∷ rest) old units reached none = absurd (omega arith)

-- what was added where the piece goes on
pub part_added : (start feed : Feed) (piece rest : List ℕ) (old units : List RawUnit) → Reached start feed piece rest old units → GoesFirst start piece old units
part_added start feed piece rest old units reached left held =
    let mid = run left reached.front in record {
      more = mid.units;
      added = (reached.goes left held).1;
      missing = (run mid.left rest).units;
      are_units = ap (λ r. r.units) (ap (run left) reached.parts ∙ run_append left reached.front rest);
    }

-- a stream with a piece behind it
pub stream_taken : (new : Feed) (stream piece : List ℕ) (old units : List RawUnit)
    → Holds new (run (reading stream).left piece).left × (units ≡ old ++ (run (reading stream).left piece).units)
    → HasTaken new (stream ++ piece) × Adds stream piece old units
stream_taken new stream piece old units goes =
    let is = reads_piece stream piece in (
      subst (λ r. Holds new r.left) (sym is) goes.0,
      record { more = (run (reading stream).left piece).units; added = goes.1; are_units = ap (λ r. r.units) is },
    )

pub units_first : (stream piece : List ℕ) → UnitsFirst stream piece
units_first stream piece = record { more = (run (reading stream).left piece).units; are_units = ap (λ r. r.units) (reads_piece stream piece) }

pub first_added : (stream piece : List ℕ) (old units : List RawUnit) → AddsSome (reading stream).left piece old units → AddsFirst stream piece old units
first_added stream piece old units some = record {
  more = some.more;
  added = some.added;
  missing = some.missing;
  are_units = ap (λ r. r.units) (reads_piece stream piece) ∙ ap (λ u. raw_units_of stream ++ u) some.are_units ∙ sym (append_assoc (raw_units_of stream) some.more some.missing);
}

spent_again : (feed : Feed) (left : Left) → Holds feed left → Holds (record feed { spent = false }) left
spent_again feed (in_line parts line) held = subst (λ s. Holds (record feed { spent = s }) (in_line parts line)) held.goes_on held
spent_again feed (in_literal parts line size got) held = subst (λ s. Holds (record feed { spent = s }) (in_literal parts line size got)) held.0.goes_on held

-- the end of a call
pub piece_taken : {E : Type 0} (result : Result (Unit {0}) E) (old new : Feed) (stream piece : List ℕ) (before after : List RawUnit) → OnOk result (Goes old new piece before after)
    → HasTaken old stream → OnOk result (HasTaken (record new { spent = is_err result }) (stream ++ piece) × Adds stream piece before after)
piece_taken (Ok x) old new stream piece before after goes taken =
    let left = (reading stream).left in
    let now = goes left taken in
    stream_taken (record new { spent = false }) stream piece before after (spent_again new (run left piece).left now.0, now.1)
piece_taken (Err e) old new stream piece before after goes taken = tt

pub some_taken : {E : Type 0} (result : Result (Unit {0}) E) (old : Feed) (stream piece : List ℕ) (before after : List RawUnit) → OnErr result (GoesFirst old piece before after)
    → HasTaken old stream → OnErr result (AddsFirst stream piece before after)
some_taken (Ok x) old stream piece before after goes taken = tt
some_taken (Err e) old stream piece before after goes taken = first_added stream piece before after (goes (reading stream).left taken)

some_text : (parts : List Part) (part : Part) (rest : List ℕ) → 0 < length (lines_of (part ∷ parts) ++ rest)
some_text parts part rest =
    let first : lines_of (part ∷ parts) ≡ with_crlf part.0 ++ lines_of parts = flat_map-cons (λ (p : Part). with_crlf p.0) part parts in
    subst (λ l. 0 < length (l ++ rest)) (sym first) (grind (arith, common_steps))

some_begun : (parts : List Part) (part : Part) (rest : List ℕ) → flat_map (λ p. with_crlf p.0 ++ p.1) (part ∷ parts) ++ rest ≡ [] → ⊥
some_begun parts part rest none =
    let first = flat_map-cons (λ (p : Part). with_crlf p.0 ++ p.1) part parts in
    let long : 0 < length ((with_crlf part.0 ++ part.1) ++ flat_map (λ (p : Part). with_crlf p.0 ++ p.1) parts ++ rest) = grind (arith, common_steps) in
    let short : length ((with_crlf part.0 ++ part.1) ++ flat_map (λ (p : Part). with_crlf p.0 ++ p.1) parts ++ rest) ≡ 0 =
    ap (λ l. length (l ++ rest)) (sym first) ∙ ap length none in
    absurd (omega arith)

no_bytes : (line : List ℕ) (n : ℕ) → 0 < n → length (take n line) ≡ 0 → line ≡ []
no_bytes [] n some none = refl
no_bytes (byte ∷ line) zero some none = absurd (omega arith)
no_bytes (byte ∷ line) (suc n) some none = absurd (omega arith)

some_line : (before line : List ℕ) → 0 < length (before ++ with_crlf line)
some_line before line = grind (arith, common_steps)

line_begun : (before line got : List ℕ) → before ++ with_crlf line ++ got ≡ [] → ⊥
line_begun before line got none =
    let some : 0 < length (before ++ with_crlf line ++ got) = grind (arith, common_steps) in
    let short = ap length none in
    absurd (omega arith)

rests : (feed : Feed) (left : Left) → Holds feed left → (length feed.text.items ≡ 0 → begun left ≡ []) × (begun left ≡ [] → length feed.text.items ≡ 0)
rests feed (in_line [] line) held =
    let kept : length feed.text.items ≡ length (take 65538 line) = ap length held.text in
    (λ none. no_bytes line 65538 (omega arith) (sym kept ∙ none), λ none. kept ∙ ap (λ l. length (take 65538 l)) none)
rests feed (in_line (part ∷ parts) line) held =
    let some = some_text parts part (take (65538 - lines_size (part ∷ parts)) line) in
    let long = ap length held.text in
    (λ none. absurd (omega arith), λ none. absurd (some_begun parts part line none))
rests feed (in_literal parts line size got) held =
    let some = some_line (lines_of parts) line in
    let long = ap length held.0.text in
    (λ none. absurd (omega arith), λ none. absurd (line_begun (flat_map (λ (p : Part). with_crlf p.0 ++ p.1) parts) line got none))

pub at_rest_where : (test : Bool) (len : ℕ) (feed : Feed) (stream : List ℕ) → test ≡ (len == 0) → len ≡ length feed.text.items → HasTaken feed stream
    → (IsTrue test → unfinished stream ≡ []) × (unfinished stream ≡ [] → IsTrue test)
at_rest_where test len feed stream is long taken =
    let both_ways = rests feed (reading stream).left taken in
    (λ yes. both_ways.0 (grind (arith, nat_tests, is, long, yes)), λ none. let zero_now = both_ways.1 none in grind (arith, nat_tests, is, long, zero_now))

-- a stream of no bytes has no units
pub no_units : raw_units_of [] ≡ []
unfolding reading
no_units = refl
