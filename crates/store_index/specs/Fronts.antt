-- What every open store has in memory.
use Rattle.std.specs.Prelude.{ℕ, Bool, false, List, ◌≡◌, ◌≤◌, length}
use Rattle.file_model.specs.Paths.{is_top}
use Rattle.mail_types.specs.Limits.{record_limit}
use Rattle.store_index.specs.States.{ToldState}

pub record FrontState : Type 0 where
  pub path : List ℕ
  pub told : ToldState
  pub broken : Bool

-- what holds on every host: its path isn't a top, and it tells no more names and messages than a store may have
pub record IsFront (s : FrontState) : Type 0 where
  pub below : is_top s.path ≡ false
  pub few : length s.told.words ≤ 30
  pub many : length s.told.infos ≤ record_limit
