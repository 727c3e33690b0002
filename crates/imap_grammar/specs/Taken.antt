-- What a feed stands for.
use Rattle.std.specs.Prelude.{ℕ, List, ◌++◌, ◌≡◌, true, false}
use Rattle.raw_commands.specs.Taken as raw
use Rattle.unit_reader.specs.Units as reader
use Rattle.imap_grammar.specs.Units.{units_of}
use Rattle.imap_grammar.specs.declared.unit.Unit as unit
use Rattle.imap_grammar.specs.declared.feed.Feed.{Feed}

-- a call of the feed answered an error, so that bytes may be lost
abbrev pub IsSpent : Feed → Type 0
IsSpent feed = feed.spent ≡ true

-- the feed has taken this stream, no other bytes and no error
pub record HasTaken (feed : Feed) (stream : List ℕ) : Type 0 where
  pub raw_taken : raw.HasTaken feed.raw stream
  pub goes_on : feed.spent ≡ false

-- only the first of these units were added
pub record AddsSome (all old new : List unit.Unit) : Type 0 where
  pub more : List unit.Unit
  pub added : new ≡ old ++ more
  pub missing : List unit.Unit
  pub are_units : all ≡ more ++ missing

-- a piece behind a stream adds these units, those that weren't there before it
abbrev pub Adds : (stream piece : List ℕ) (old new : List unit.Unit) → Type 0
Adds stream piece old new = reader.Adds units_of stream piece old new

-- of the units that the piece adds only the first were added, and the others are missing
pub record AddsFirst (stream piece : List ℕ) (old new : List unit.Unit) : Type 0 where
  pub more : List unit.Unit
  pub added : new ≡ old ++ more
  pub missing : List unit.Unit
  pub are_units : units_of (stream ++ piece) ≡ units_of stream ++ more ++ missing

-- the units of a stream come first in those of a longer one
abbrev pub UnitsFirst : (stream piece : List ℕ) → Type 0
UnitsFirst stream piece = reader.UnitsFirst units_of stream piece
