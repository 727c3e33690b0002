-- What the raw units of a piece mean for its units.
use Rattle.std.proofs.Common.{ℕ, false, List, [], ◌∷◌, ◌++◌, ◌≡◌, Result, Ok, Err, OnOk, OnErr, map, refl, sym, ◌∙◌, ap, subst, append_assoc}
use Rattle.std.specs.Result.{is_err}
use Rattle.std.specs.List.{All, slice_index_or}
use Rattle.std.proofs.lemmas.List.{append-nil, map-append}
use Rattle.std.proofs.lemmas.List.Elements.{All-append, All-map}
use Rattle.raw_commands.specs.Streams.{raw_units_of}
use Rattle.raw_commands.specs.Taken as raw
use Rattle.raw_commands.specs.declared.command.RawUnit.{RawUnit}
use Rattle.imap_grammar.specs.Units.{unit_of, units_of}
use Rattle.imap_grammar.specs.Sound.{IsSound}
use Rattle.imap_grammar.specs.Taken.{HasTaken, AddsSome, Adds, AddsFirst, UnitsFirst}
use Rattle.imap_grammar.specs.declared.feed.Feed.{Feed}
use Rattle.imap_grammar.specs.declared.unit.Unit as unit
use Rattle.imap_grammar.proofs.Sound.{raw_sound}

more_units : (stream piece : List ℕ) (more : List RawUnit) → raw_units_of (stream ++ piece) ≡ raw_units_of stream ++ more → units_of (stream ++ piece) ≡ units_of stream ++ map unit_of more
more_units stream piece more are = ap (map unit_of) are ∙ map-append unit_of (raw_units_of stream) more

pub units_first : (stream piece : List ℕ) → raw.UnitsFirst stream piece → UnitsFirst stream piece
units_first stream piece first = record { more = map unit_of first.more; are_units = more_units stream piece first.more first.are_units }

-- where none is added, all are missing
pub none_added : (stream piece : List ℕ) (old : List unit.Unit) → raw.UnitsFirst stream piece → AddsFirst stream piece old old
none_added stream piece old first = record {
  more = [];
  added = sym (append-nil old);
  missing = map unit_of first.more;
  are_units = more_units stream piece first.more first.are_units ∙ ap (λ u. u ++ map unit_of first.more) (sym (append-nil (units_of stream)));
}

all_more : (stream piece : List ℕ) (before raws : List RawUnit) → before ≡ [] → raw.Adds stream piece before raws → units_of (stream ++ piece) ≡ units_of stream ++ map unit_of raws
all_more stream piece before raws none adds =
    let are = adds.added ∙ ap (λ b. b ++ adds.more) none in
    more_units stream piece raws (adds.are_units ∙ ap (λ r. raw_units_of stream ++ r) (sym are))

-- the units of a piece that was taken
pub whole_taken : {E : Type 0} (result : Result (Unit {0}) E) (feed : Feed) (stream piece : List ℕ) (before raws : List RawUnit) (old new : List unit.Unit) → before ≡ []
    → raw.HasTaken feed.raw (stream ++ piece) × raw.Adds stream piece before raws → feed.spent ≡ false → OnOk result (new ≡ old ++ map unit_of raws)
    → OnOk result (HasTaken feed (stream ++ piece) × Adds stream piece old new)
whole_taken (Ok x) feed stream piece before raws old new none taken goes is =
    (record { raw_taken = taken.0; goes_on = goes }, record { more = map unit_of raws; added = is; are_units = all_more stream piece before raws none taken.1 })
whole_taken (Err e) feed stream piece before raws old new none taken goes is = tt

-- only the first of them were added
pub part_taken : {E : Type 0} (result : Result (Unit {0}) E) (stream piece : List ℕ) (before raws : List RawUnit) (old new : List unit.Unit) → before ≡ [] → raw.Adds stream piece before raws
    → OnErr result (AddsSome (map unit_of raws) old new) → OnErr result (AddsFirst stream piece old new)
part_taken (Ok x) stream piece before raws old new none adds some = tt
part_taken (Err e) stream piece before raws old new none adds some = record {
  more = some.more;
  added = some.added;
  missing = some.missing;
  are_units = all_more stream piece before raws none adds ∙ ap (λ u. units_of stream ++ u) some.are_units ∙ sym (append_assoc (units_of stream) some.more some.missing);
}

-- the first of the raw units are added, and `rest` is behind them
pub record Reached (raws rest : List RawUnit) (old new : List unit.Unit) : Type 0 where
  pub front : List RawUnit
  pub parts : raws ≡ front ++ rest
  pub added : new ≡ old ++ map unit_of front

pub none_reached : (raws : List RawUnit) (old : List unit.Unit) → Reached raws raws old old
none_reached raws old = record { front = []; parts = refl; added = sym (append-nil old) }

one_more : (raw : RawUnit) (raws rest : List RawUnit) (old new : List unit.Unit) → Reached raws (raw ∷ rest) old new → Reached raws rest old (new ++ unit_of raw ∷ [])
one_more raw raws rest old new reached = record {
  front = reached.front ++ raw ∷ [];
  parts = reached.parts ∙ sym (append_assoc reached.front (raw ∷ []) rest);
  added = ap (λ u. u ++ unit_of raw ∷ []) reached.added ∙ append_assoc old (map unit_of reached.front) (unit_of raw ∷ [])
      ∙ ap (λ u. old ++ u) (sym (map-append unit_of reached.front (raw ∷ [])));
}

pub further : (raw : RawUnit) (one : unit.Unit) (raws items rest : List RawUnit) (old units new : List unit.Unit) → Reached raws items old units → items ≡ raw ∷ rest → one ≡ unit_of raw
    → new ≡ units ++ one ∷ [] → Reached raws rest old new
further raw one raws items rest old units new reached are means is =
    subst (Reached raws rest old) (sym (is ∙ ap (λ u. units ++ u ∷ []) means)) (one_more raw raws rest old units (subst (λ r. Reached raws r old units) are reached))

pub front_added : (raws rest : List RawUnit) (old new : List unit.Unit) → Reached raws rest old new → AddsSome (map unit_of raws) old new
front_added raws rest old new reached = record {
  more = map unit_of reached.front;
  added = reached.added;
  missing = map unit_of rest;
  are_units = ap (map unit_of) reached.parts ∙ map-append unit_of reached.front rest;
}

pub all_reached : (raws rest : List RawUnit) (old new : List unit.Unit) → Reached raws rest old new → rest ≡ [] → new ≡ old ++ map unit_of raws
all_reached raws rest old new reached none =
    reached.added ∙ ap (λ r. old ++ map unit_of r) (sym (reached.parts ∙ ap (λ r. reached.front ++ r) none ∙ append-nil reached.front))

-- what raw units mean is sound
pub all_sound_still : (raws rest : List RawUnit) (old new : List unit.Unit) → Reached raws rest old new → All IsSound old → All IsSound new
all_sound_still raws rest old new reached are =
    subst (All IsSound) (sym reached.added) (All-append IsSound old (map unit_of reached.front) are (All-map IsSound unit_of reached.front (λ k d within. raw_sound (slice_index_or reached.front k d))))

-- the end of a call
pub goes_on_where : {E : Type 0} (P : Type 0) (result : Result (Unit {0}) E) (new : Feed) (stream : List ℕ) → OnOk result (HasTaken new stream × P)
    → OnOk result (HasTaken (record new { spent = is_err result }) stream × P)
goes_on_where P (Ok x) new stream both = (record { raw_taken = both.0.raw_taken; goes_on = refl }, both.1)
goes_on_where P (Err e) new stream both = tt
