-- How bytes go into what takes replies.
use Rattle.std.specs.Prelude.{ℕ, List, [], ◌++◌, Result, Ok, Err}
use Rattle.session_loop.specs.declared.answers.Stop.{Stop}

-- what a sink is, and what its host is, before bytes were put and after
abbrev pub Putting : Type 0 → Type 0 → Type 1
Putting S W = List ℕ → Result (Unit {0}) Stop → S → S → W → W → Type 0

-- Bytes go in one behind the other, whatever the pieces; where some couldn't be put, those behind them weren't.
pub record IsSink {S W : Type 0} (puts : Putting S W) : Type 0 where
  pub none : (sink : S) (host : W) → puts [] (Ok tt) sink sink host host
  pub more : (front rest : List ℕ) (result : Result (Unit {0}) Stop) (one two three : S) (first second third : W)
      → puts front (Ok tt) one two first second → puts rest result two three second third → puts (front ++ rest) result one three first third
  pub no_more : (front rest : List ℕ) (stop : Stop) (one two : S) (first second : W) → puts front (Err stop) one two first second → puts (front ++ rest) (Err stop) one two first second
