-- What holds at each instant of a session.
use Rattle.std.specs.Prelude.{ℕ, Bool, false, List, [], ◌∷◌, ◌++◌, ◌≡◌, ◌<◌, ◌≤◌, ◌^◌, ◌||◌, length}
use Rattle.std.specs.List.{AllByRecursion}
use Rattle.file_model.specs.Images.{Image}
use Rattle.file_model.specs.Disk.{Disk, MayLeave}
use Rattle.file_model.specs.Histories.{World, History, Passed}
use Rattle.session_loop.specs.declared.end.End.{End}
use Rattle.session_loop.specs.Outcome.{regular_end, IsLong}
use Rattle.session_loop.specs.Machine.{Protocol, replies, state_after, commands_in, is_over}
use Rattle.session_loop.specs.Saying.{AllSaid, FirstSaid, lines_to}
use Rattle.file_model.specs.Arrived.{Arrived, Begins}

-- What a crash finds: some of the units were answered, no byte of a later reply was said, and the image agrees with the state after them.
pub record Finds {S U : Type 0} (p : Protocol S U) (state : S) (units : List U) (front : List p.Line) (said : List ℕ) (image : Image) : Type 0 where
  pub done : List U
  pub are_done : Begins done units
  pub are_said : FirstSaid p.says (front ++ replies p.step state done) said
  pub agreed : p.agrees (state_after p.step state done) image

-- An instant while units are answered: nothing is heard, and a part of their replies is said.
pub record Answering {S U : Type 0} (p : Protocol S U) (state : S) (units : List U) (start world : World) : Type 0 where
  pub heard : world.streams.heard ≡ start.streams.heard
  pub ended : world.streams.ended ≡ start.streams.ended
  pub turns : world.streams.turns ≡ start.streams.turns
  pub part : List ℕ
  pub is_said : world.streams.said ≡ start.streams.said ++ part
  pub is_part : FirstSaid p.says (replies p.step state units) part
  pub crash : p.alike state start.disk → (image : Image) → MayLeave world.disk image → Finds p state units [] part image

-- Units were answered: their replies were said, and the session stands for the state after them.
pub record HasAnswered {S U : Type 0} (p : Protocol S U) (stands : Disk → S → Type 0) (state : S) (units : List U) (start world : World) : Type 0 where
  pub heard : world.streams.heard ≡ start.streams.heard
  pub ended : world.streams.ended ≡ start.streams.ended
  pub turns : world.streams.turns ≡ start.streams.turns
  pub bytes : List ℕ
  pub are_said : AllSaid p.says (replies p.step state units) bytes
  pub said : world.streams.said ≡ start.streams.said ++ bytes
  pub is_state : stands world.disk (state_after p.step state units)
  pub still_alike : p.alike state start.disk → p.alike (state_after p.step state units) world.disk

-- the most bytes that a session hears
abbrev pub most_heard : ℕ
most_heard = 2 ^ 40

-- As a `hear` began, the replies to all units of what was heard were said, and none of these units ends the session.
pub record IsTurn {S U : Type 0} (p : Protocol S U) (state : S) (start : World) (heard said : List ℕ) (turn : ℕ × ℕ) : Type 0 where
  pub heard_then : List ℕ
  pub is_heard : turn.0 ≡ length (start.streams.heard ++ heard_then)
  pub heard_front : Begins heard_then heard
  pub said_then : List ℕ
  pub are_said : AllSaid p.says (lines_to p state (commands_in p heard_then)) said_then
  pub is_said : turn.1 ≡ length (start.streams.said ++ said_then)
  pub said_front : Begins said_then said
  pub goes_on : is_over p heard_then ≡ false

-- each turn but the last heard a byte: as the next one began, more bytes were heard
abbrev pub EachHears : List (ℕ × ℕ) → Type 0
EachHears [] = Unit {0}
EachHears (turn ∷ []) = Unit {0}
EachHears (turn ∷ next ∷ turns) = (turn.0 < next.0) × EachHears (next ∷ turns)

pub record Turns {S U : Type 0} (p : Protocol S U) (state : S) (start world : World) (heard said : List ℕ) : Type 0 where
  pub more : List (ℕ × ℕ)
  pub are_more : world.streams.turns ≡ start.streams.turns ++ more
  pub each : AllByRecursion (IsTurn p state start heard said) more
  pub each_hears : EachHears more

-- An instant of a session since its start.
pub record Serving {S U : Type 0} (p : Protocol S U) (state : S) (start world : World) : Type 0 where
  pub heard : List ℕ
  pub is_heard : world.streams.heard ≡ start.streams.heard ++ heard
  pub few : length heard ≤ most_heard
  pub said : List ℕ
  pub is_said : world.streams.said ≡ start.streams.said ++ said
  pub is_part : FirstSaid p.says (lines_to p state (commands_in p heard)) said
  pub turns : Turns p state start world heard said
  pub crash : p.alike state start.disk → (image : Image) → MayLeave world.disk image → Finds p state (commands_in p heard) (p.greeting state ∷ []) said image

-- These bytes were heard, and the end or not, and these units were answered. Before the end each turn heard a byte.
pub record HasServed {S U : Type 0} (p : Protocol S U) (stands : Disk → S → Type 0) (state : S) (heard : List ℕ) (units : List U) (over : Bool) (start world : World) : Type 0 where
  pub is_heard : world.streams.heard ≡ start.streams.heard ++ heard
  pub few : length heard ≤ most_heard
  pub is_over : world.streams.ended ≡ start.streams.ended || over
  pub said : List ℕ
  pub are_said : AllSaid p.says (lines_to p state units) said
  pub is_said : world.streams.said ≡ start.streams.said ++ said
  pub turns : Turns p state start world heard said
  pub all_heard : over ≡ false → AllByRecursion (λ turn. turn.0 < length world.streams.heard) turns.more
  pub is_state : stands world.disk (state_after p.step state units)
  pub still_alike : p.alike state start.disk → p.alike (state_after p.step state units) world.disk

-- A session was opened: nothing was heard or said, what a crash leaves agrees with the first state, and it stands for that.
pub record Opened {S U : Type 0} (p : Protocol S U) (stands : Disk → S → Type 0) (state : S) (first now : History) : Type 0 where
  pub instants : Passed (Answering {S = S} {U = U} p state []) first now
  pub here : Arrived (HasAnswered {S = S} {U = U} p stands state []) first now

-- All units of what was heard were answered, and the session ends as the bytes heard tell.
abbrev pub EndsAs : {S U : Type 0} → Protocol S U → (Disk → S → Type 0) → S → End → History → History → Type 0
EndsAs p stands state end first now =
    (heard : List ℕ) × (ended : Bool) × Arrived (HasServed p stands state heard (commands_in p heard) ended) first now
    × (end ≡ regular_end (is_over p heard) ended (p.unfinished heard)) × IsLong end heard
