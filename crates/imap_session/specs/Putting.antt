-- Lines that are put: some of their bytes were said, and the others wait to be said.
use Rattle.std.specs.Prelude.{ℕ, List, ◌++◌, ◌≡◌, Result, OnOk}
use Rattle.file_model.specs.Histories.{World, History, Passed}
use Rattle.file_model.specs.Arrived.{Arrived}
use Rattle.session_loop.specs.Saying.{AllSaid, FirstSaid}
use Rattle.session_loop.specs.declared.answers.Stop.{Stop}
use Rattle.imap_session.specs.Lines.{Line, SaysLine}

-- Since a start a part of the lines was said, and nothing else happened.
pub record SayingLines (lines : List Line) (start world : World) : Type 0 where
  pub disk : world.disk ≡ start.disk
  pub heard : world.streams.heard ≡ start.streams.heard
  pub ended : world.streams.ended ≡ start.streams.ended
  pub turns : world.streams.turns ≡ start.streams.turns
  pub part : List ℕ
  pub is_said : world.streams.said ≡ start.streams.said ++ part
  pub is_part : FirstSaid SaysLine lines part

-- The lines are put: what wasn't said of them waits.
pub record HasPutLines (lines : List Line) (waits : List ℕ) (start world : World) : Type 0 where
  pub disk : world.disk ≡ start.disk
  pub heard : world.streams.heard ≡ start.streams.heard
  pub ended : world.streams.ended ≡ start.streams.ended
  pub turns : world.streams.turns ≡ start.streams.turns
  pub part : List ℕ
  pub is_said : world.streams.said ≡ start.streams.said ++ part
  pub are_put : AllSaid SaysLine lines (part ++ waits)

-- More lines are put behind those that were put since a start, `was` waiting before and `is` afterwards.
-- At each instant a part of all was said, also where the session ends there.
pub record PutsLines (more : List Line) (was is : List ℕ) (result : Result (Unit {0}) Stop) (old new : History) : Type 0 where
  pub instants : (first : History) (lines : List Line) → Passed (SayingLines lines) first old → Arrived (HasPutLines lines was) first old → Passed (SayingLines (lines ++ more)) first new
  pub done : OnOk result ((first : History) (lines : List Line) → Arrived (HasPutLines lines was) first old → Arrived (HasPutLines (lines ++ more) is) first new)
