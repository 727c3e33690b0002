-- What a reader of an address list has read and has left.
use Rattle.std.specs.Prelude.{◌<◌, ◌≤◌, ◌+◌, ℕ, Bool, List, drop, if◌then◌else◌}
use Rattle.addr_list.specs.Tokens.{Token}
use Rattle.addr_list.specs.Reading.{GoesOn}
use Rattle.addr_list.specs.declared.address.Address.{Address}
use Rattle.addr_list.specs.declared.list.Reader.{Reader}

-- the lists that the whole may be, by what is read
abbrev pub MayBe : List Token → Reader → List Address → Type 0
MayBe tokens reader all = GoesOn reader.starts reader.depth (drop reader.at tokens) reader.addresses.items all

-- a step that leaves what the list may be
pub record StepsTo (tokens : List Token) (before after : Reader) : Type 0 where
  pub there : (all : List Address) → MayBe tokens before all → MayBe tokens after all
  pub back : (all : List Address) → MayBe tokens after all → MayBe tokens before all

-- there is no such list
abbrev pub IsStuck : List Token → Reader → Type 0
IsStuck tokens reader = (all : List Address) → MayBe tokens reader all → ⊥

-- behind an element a reader is further than before it
abbrev pub half_step : Bool → ℕ
half_step starts = if starts then 0 else 1

-- how far a reader is, so that each step goes on
abbrev pub progress : Reader → ℕ
progress reader = reader.at + reader.at + half_step reader.starts

-- how a step leaves the reader
pub record Moves (size : ℕ) (before after : Reader) : Type 0 where
  pub on : progress before < progress after
  pub within : after.at ≤ size
  pub shallow : after.depth ≤ after.at
