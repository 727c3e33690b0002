-- What a host in memory stands for.
use Rattle.std.specs.Prelude.{ℕ, List, [], ◌∷◌, Bool, ◌≡◌, ◌+◌, ◌-◌, ◌^◌, ◌==◌, min}
use Rattle.std.specs.List.{list_any}
use Rattle.file_model.specs.Images.{Image}
use Rattle.file_model.specs.Causes.{Faults}
use Rattle.file_model.specs.Histories.{History}
use Rattle.mem_host.specs.Events.{Event, looked}
use Rattle.mem_host.specs.Coming.{Coming}
use Rattle.mem_host.specs.Replay.{replay, seen_after, world_after, IsUntouched}

-- what the host was asked, and what it is still to do
pub record State : Type 0 where
  -- the newest first
  pub events : List Event
  pub coming : Coming
  -- the numbers of the calls that fail
  pub fails : List ℕ
  pub calls : ℕ
  pub faults : Faults

-- the instants since the disk was empty
abbrev pub history_of : State → History
history_of state = replay state.events

-- what reads see
abbrev pub seen_of : State → Image
seen_of state = seen_after state.events

-- the bytes said
abbrev pub said_of : State → List ℕ
said_of state = (world_after state.events).streams.said

-- whether a number is in a list of calls
abbrev pub counts_call : List ℕ → ℕ → Bool
counts_call fails number = list_any (λ fail. fail == number) fails

-- whether the next call is one of those that fail
abbrev pub is_failing : State → Bool
is_failing state = counts_call state.fails state.calls

-- One call more was made.
pub record IsNextCall (old new : State) : Type 0 where
  pub calls : new.calls ≡ min (old.calls + 1) (2 ^ 64 - 1)
  pub fails : new.fails ≡ old.fails

-- The same of a call that hears nothing.
pub record IsQuietCall (old new : State) : Type 0 where
  pub calls : new.calls ≡ min (old.calls + 1) (2 ^ 64 - 1)
  pub fails : new.fails ≡ old.fails
  pub coming : new.coming ≡ old.coming

-- The same of a call that changes nothing.
pub record IsReading (old new : State) : Type 0 where
  pub calls : new.calls ≡ min (old.calls + 1) (2 ^ 64 - 1)
  pub fails : new.fails ≡ old.fails
  pub coming : new.coming ≡ old.coming
  pub events : new.events ≡ looked ∷ old.events

-- At rest, with no input, no failing calls, and nothing counted.
pub record IsFresh (state : State) : Type 0 where
  pub untouched : IsUntouched (history_of state)
  pub coming : state.coming ≡ record { bytes = []; cuts = [] }
  pub fails : state.fails ≡ []
  pub calls : state.calls ≡ 0
  pub faults : state.faults ≡ record { file = 0; hear = 0; say = 0; read = 0 }
