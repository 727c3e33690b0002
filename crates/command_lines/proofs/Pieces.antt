-- How far into a piece a feed is.
use Rattle.std.proofs.Common.{ℕ, ◌+◌, List, [], ◌∷◌, ◌++◌, ◌≡◌, None, Some, Result, Ok, Err, OnOk, OnErr, arith, append_assoc, refl, sym, ◌∙◌, ap, subst, take, drop}
use Rattle.std.proofs.lemmas.List.{append-nil}
use Rattle.memchr.specs.Find.{IsFirstByte, is_byte}
use Rattle.command_lines.specs.Stream.{unfinished, units_of}
use Rattle.command_lines.specs.Taken.{HasTaken, Adds, AddsFirst}
use Rattle.std.specs.declared.alloc.AllocError.{AllocError}
use Rattle.command_lines.specs.declared.feed.Feed.{Feed}
use Rattle.command_lines.proofs.Streams.{units_first}
use Rattle.command_lines.proofs.Runs.{InLine, NoLineFeed, none_before, nowhere, parts_at, run_in_line}

-- a feed has taken the front of a piece, and `rest` is behind it
pub record Reached (start feed : Feed) (piece rest : List ℕ) (old units : List (List ℕ)) : Type 0 where
  pub front : List ℕ
  pub parts : piece ≡ front ++ rest
  pub taken : (stream : List ℕ) → HasTaken start stream → HasTaken feed (stream ++ front) × Adds stream front old units

pub none_reached : (feed : Feed) (piece : List ℕ) (units : List (List ℕ)) → Reached feed feed piece piece units units
none_reached feed piece units = record {
  front = [];
  parts = refl;
  taken = λ stream taken. (
    subst (HasTaken feed) (sym (append-nil stream)) taken,
    record { more = []; added = sym (append-nil units); are_units = ap units_of (append-nil stream) ∙ sym (append-nil (units_of stream)) },
  );
}

-- the units of two pieces, one behind the other
pub adds_more : (stream front run : List ℕ) (old mid new : List (List ℕ)) → Adds stream front old mid → Adds (stream ++ front) run mid new → Adds stream (front ++ run) old new
adds_more stream front run old mid new one two = record {
  more = one.more ++ two.more;
  added = two.added ∙ ap (λ u. u ++ two.more) one.added ∙ append_assoc old one.more two.more;
  are_units = ap units_of (sym (append_assoc stream front run)) ∙ two.are_units ∙ ap (λ u. u ++ two.more) one.are_units ∙ append_assoc (units_of stream) one.more two.more;
}

-- a run behind what the feed has taken
further : (start feed next : Feed) (piece run rest : List ℕ) (old units more : List (List ℕ)) → Reached start feed piece (run ++ rest) old units
    → ((stream : List ℕ) → HasTaken feed stream → HasTaken next (stream ++ run) × Adds stream run units more)
    → Reached start next piece rest old more
further start feed next piece run rest old units more reached goes = record {
  front = reached.front ++ run;
  parts = reached.parts ∙ sym (append_assoc reached.front run rest);
  taken = λ stream taken.
      let before = reached.taken stream taken in
      let after = goes (stream ++ reached.front) before.0 in
      (subst (HasTaken next) (append_assoc stream reached.front run) after.0, adds_more stream reached.front run old units more before.1 after.1);
}

-- a run without a line feed adds no unit
run_goes : (feed next : Feed) (run : List ℕ) (units : List (List ℕ)) → NoLineFeed run
    → ((stream : List ℕ) → HasTaken feed stream → unfinished (stream ++ run) ≡ unfinished stream ++ run → HasTaken next (stream ++ run))
    → (stream : List ℕ) → HasTaken feed stream → HasTaken next (stream ++ run) × Adds stream run units units
run_goes feed next run units none goes stream taken =
    let in_line = run_in_line run stream none in
    (goes stream taken in_line.rest, record { more = []; added = sym (append-nil units); are_units = in_line.units ∙ sym (append-nil (units_of stream)) })

-- the bytes up to a line feed, and the line feed
pub line_feed_reached : (start feed mid next : Feed) (piece bytes run rest : List ℕ) (k : ℕ) (old units more : List (List ℕ)) → Reached start feed piece bytes old units
    → IsFirstByte (is_byte 10) bytes (Some k) → run ≡ take k bytes → rest ≡ drop (k + 1) bytes
    → ((stream : List ℕ) → HasTaken feed stream → unfinished (stream ++ run) ≡ unfinished stream ++ run → HasTaken mid (stream ++ run))
    → ((stream : List ℕ) → HasTaken mid stream → HasTaken next (stream ++ 10 ∷ []) × Adds stream (10 ∷ []) units more)
    → Reached start next piece rest old more
line_feed_reached start feed mid next piece bytes run rest k old units more reached at is_run is_rest run_taken line_feed_taken =
    let none : NoLineFeed run = subst NoLineFeed (sym is_run) (none_before bytes k (omega (arith, at.0.high)) at.0.before) in
    let parts : bytes ≡ run ++ 10 ∷ rest = parts_at bytes k at.0.high at.1 ∙ ap (λ r. r ++ 10 ∷ drop (k + 1) bytes) (sym is_run) ∙ ap (λ r. run ++ 10 ∷ r) (sym is_rest) in
    let split : Reached start feed piece (run ++ 10 ∷ rest) old units = subst (λ h. Reached start feed piece h old units) parts reached in
    further start mid next piece (10 ∷ []) rest old units more
    (further start feed mid piece run (10 ∷ rest) old units units split (run_goes feed mid run units none run_taken))
    line_feed_taken

-- the piece's end
pub all_reached : (result : Result (Unit {0}) AllocError) (start feed next : Feed) (piece bytes : List ℕ) (old units : List (List ℕ)) → Reached start feed piece bytes old units
    → IsFirstByte (is_byte 10) bytes None
    → ((stream : List ℕ) → HasTaken feed stream → unfinished (stream ++ bytes) ≡ unfinished stream ++ bytes → OnOk result (HasTaken next (stream ++ bytes)))
    → (stream : List ℕ) → HasTaken start stream → OnOk result (HasTaken next (stream ++ piece) × Adds stream piece old units)
all_reached (Err e) start feed next piece bytes old units reached none goes stream taken = tt
all_reached (Ok x) start feed next piece bytes old units reached none goes stream taken =
    let before = reached.taken stream taken in
    let after = run_goes feed next bytes units (nowhere bytes none) goes (stream ++ reached.front) before.0 in
    subst (λ p. HasTaken next (stream ++ p) × Adds stream p old units) (sym reached.parts)
    (subst (HasTaken next) (append_assoc stream reached.front bytes) after.0, adds_more stream reached.front bytes old units units before.1 after.1)

-- what was added where the piece goes on
pub part_added : (start feed : Feed) (stream piece rest : List ℕ) (old units : List (List ℕ)) → Reached start feed piece rest old units → HasTaken start stream
    → AddsFirst stream piece old units
part_added start feed stream piece rest old units reached taken =
    let adds = (reached.taken stream taken).1 in
    let below = units_first rest (stream ++ reached.front) in record {
      more = adds.more;
      added = adds.added;
      missing = below.0;
      are_units = ap (λ p. units_of (stream ++ p)) reached.parts ∙ ap units_of (sym (append_assoc stream reached.front rest))
          ∙ below.1 ∙ ap (λ u. u ++ below.0) adds.are_units;
    }

-- a byte more of the line, if it can be kept
pub byte_taken : (result : Result (Unit {0}) AllocError) (next : Feed) (stream : List ℕ) (byte : ℕ) (units : List (List ℕ)) → InLine stream (byte ∷ [])
    → OnOk result (HasTaken next (stream ++ byte ∷ [])) → OnOk result (HasTaken next (stream ++ byte ∷ []) × Adds stream (byte ∷ []) units units)
byte_taken (Ok x) next stream byte units in_line taken =
    (taken, record { more = []; added = sym (append-nil units); are_units = in_line.units ∙ sym (append-nil (units_of stream)) })
byte_taken (Err e) next stream byte units in_line taken = tt

pub on_ok : {T E P Q : Type 0} (result : Result T E) → (P → Q) → OnOk result P → OnOk result Q
on_ok (Ok x) follows holds = follows holds
on_ok (Err e) follows holds = tt

pub on_err : {T E P : Type 0} (result : Result T E) → P → OnErr result P
on_err (Ok x) holds = tt
on_err (Err e) holds = holds
