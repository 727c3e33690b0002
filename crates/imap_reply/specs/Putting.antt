-- Bytes that are put: the first of them were said, the next ones wait to be said, and the rest isn't put yet.
use Rattle.std.specs.Prelude.{ℕ, List, [], ◌++◌, ◌≡◌, ◌≤◌, length, Result, Ok, OnOk, IfErr}
use Rattle.file_model.specs.Histories.{World, History, Passed}
use Rattle.file_model.specs.Arrived.{Arrived, IsSaying}
use Rattle.file_model.specs.Causes.{Faults, SayCause}
use Rattle.session_loop.specs.declared.answers.Stop.{Stop}
use Rattle.session_loop.specs.declared.answers.Stop.TheVariants.{SayFault}
use Rattle.imap_reply.specs.Sinks.{Putting}

-- Since a start some bytes were said, and nothing else happened; with those that wait and the rest they make the whole.
pub record HasPut (whole waits rest : List ℕ) (start world : World) : Type 0 where
  pub disk : world.disk ≡ start.disk
  pub heard : world.streams.heard ≡ start.streams.heard
  pub ended : world.streams.ended ≡ start.streams.ended
  pub turns : world.streams.turns ≡ start.streams.turns
  pub part : List ℕ
  pub is_said : world.streams.said ≡ start.streams.said ++ part
  pub is_whole : part ++ (waits ++ rest) ≡ whole

-- At each instant the first bytes of the whole were said; and where all was put, those that weren't said wait.
pub record Puts (whole waits : List ℕ) (result : Result (Unit {0}) Stop) (old new : History) : Type 0 where
  pub instants : Passed (IsSaying whole) old new
  pub done : OnOk result (Arrived (HasPut whole waits []) old new)

-- The same of a loop that has still to put the rest.
pub record PutsBut (whole waits rest : List ℕ) (old new : History) : Type 0 where
  pub instants : Passed (IsSaying whole) old new
  pub here : Arrived (HasPut whole waits rest) old new

-- All of it waits, and nothing was said.
pub record AllWaits (whole waits : List ℕ) (result : Result (Unit {0}) Stop) (old new : History) : Type 0 where
  pub done : result ≡ Ok tt
  pub waiting : waits ≡ whole
  pub none_said : new ≡ old

-- Bytes go behind those that wait; few of them all wait. Only `say` can fail.
pub record Buffers (bytes : List ℕ) (result : Result (Unit {0}) Stop) (was is : List ℕ) (old new : History) (before after : Faults) : Type 0 where
  pub puts : Puts (was ++ bytes) is result old new
  pub small : length (was ++ bytes) ≤ 65536 → AllWaits (was ++ bytes) is result old new
  pub fault : IfErr result (λ stop. stop ≡ SayFault)
  pub cause : SayCause before after result

-- the same over a host
abbrev pub Buffering : {W : Type 0} → (W → History) → (W → Faults) → Putting (List ℕ) W
Buffering history faults bytes result was is host later = Buffers bytes result was is (history host) (history later) (faults host) (faults later)
