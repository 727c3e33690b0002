-- What a session says and leaves, since the world at its start.
use Rattle.std.specs.Prelude.{ℕ, false, List, ◌++◌, ◌≡◌, ◌≤◌, ◌-◌, length, take, drop}
use Rattle.std.specs.List.{AllByRecursion}
use Rattle.file_model.specs.Images.{Image}
use Rattle.file_model.specs.Disk.{Disk}
use Rattle.file_model.specs.Histories.{World}
use Rattle.file_model.specs.Arrived.{Begins, heard_since, said_since, turns_since}
use Rattle.session_loop.specs.declared.end.End.{End}
use Rattle.session_loop.specs.Instants.{most_heard, EachHears}
use Rattle.session_loop.specs.Outcome.{regular_end, IsLong}
use Rattle.session_loop.specs.Machine.{Protocol, state_after, commands_in, is_over}
use Rattle.session_loop.specs.Saying.{AllSaid, FirstSaid, lines_to}

-- the units of the bytes heard since the start, up to the last that is answered
abbrev pub commands : {S U : Type 0} → Protocol S U → World → World → List U
commands p start world = commands_in p (heard_since start world)

-- As each `hear` began, the bytes said were the greeting and the replies to all units of the bytes heard, and none of these units ends the session.
abbrev pub RepliesAtOnce : {S U : Type 0} → Protocol S U → S → World → World → Type 0
RepliesAtOnce p state start world =
    AllByRecursion (λ turn. AllSaid p.says (lines_to p state (commands_in p (take (turn.0 - length start.streams.heard) (heard_since start world))))
    (take (turn.1 - length start.streams.said) (said_since start world))
    × (is_over p (take (turn.0 - length start.streams.heard) (heard_since start world)) ≡ false)) (turns_since start world)

-- What was said begins the greeting and the replies to all units heard, and no reply waited for a `hear`.
pub record SaysReplies {S U : Type 0} (p : Protocol S U) (state : S) (start world : World) : Type 0 where
  pub part : FirstSaid p.says (lines_to p state (commands p start world)) (said_since start world)
  pub at_once : RepliesAtOnce p state start world

-- At most 2^40 bytes were heard, and each turn but the last heard at least one.
pub record IsBounded (start world : World) : Type 0 where
  pub few : length (heard_since start world) ≤ most_heard
  pub each_hears : EachHears (turns_since start world)

-- All replies were said, the session stands for the state after all units, and the end is the one that the bytes heard tell.
pub record IsServed {S U : Type 0} (p : Protocol S U) (stands : Disk → S → Type 0) (state : S) (end : End) (start world : World) : Type 0 where
  pub said : AllSaid p.says (lines_to p state (commands p start world)) (said_since start world)
  pub is_state : stands world.disk (state_after p.step state (commands p start world))
  pub still_alike : p.alike state start.disk → p.alike (state_after p.step state (commands p start world)) world.disk
  pub is_end : start.streams.ended ≡ false → end ≡ regular_end (is_over p (heard_since start world)) world.streams.ended (p.unfinished (heard_since start world))
  pub is_long : IsLong end (heard_since start world)

-- The replies to the first m units were said, whatever else is heard later.
pub record IsAcknowledged {S U : Type 0} (p : Protocol S U) (state : S) (heard said : List ℕ) (m : ℕ) : Type 0 where
  pub later : List ℕ
  pub are_heard : m ≤ length (commands_in p (heard ++ later))
  pub whole : List ℕ
  pub is_whole : AllSaid p.says (lines_to p state (take m (commands_in p (heard ++ later)))) whole
  pub are_said : Begins whole said

-- A crash that finds these bytes said leaves what survives the first n units heard, among them all whose replies were said.
pub record Survives {S U : Type 0} (p : Protocol S U) (state : S) (start world : World) (image : Image) (said : List ℕ) : Type 0 where
  pub n : ℕ
  pub are_heard : n ≤ length (commands p start world)
  pub agreed : p.agrees (state_after p.step state (take n (commands p start world))) image
  pub acknowledged : (m : ℕ) → IsAcknowledged p state (heard_since start world) (drop (length start.streams.said) said) m → m ≤ n
