-- What a feed stands for.
use Rattle.std.specs.Prelude.{ℕ, Bool, List, [], ◌∷◌, ◌++◌, ◌==◌, ◌≡◌, true, false, take}
use Rattle.unit_reader.specs.Units as reader
use Rattle.command_lines.specs.Stream.{units_of, unfinished}
use Rattle.command_lines.specs.declared.feed.Feed.{Feed}

-- whether the last byte is a CR
abbrev pub ends_in_cr : List ℕ → Bool
ends_in_cr [] = false
ends_in_cr (a ∷ []) = a == 13
ends_in_cr (a ∷ b ∷ rest) = ends_in_cr (b ∷ rest)

-- a call of the feed answered an error, so that bytes may be lost
abbrev pub IsSpent : Feed → Type 0
IsSpent feed = feed.spent ≡ true

-- the feed has taken this stream, no other bytes and no error
pub record HasTaken (feed : Feed) (stream : List ℕ) : Type 0 where
  pub kept : feed.kept.items ≡ take 65537 (unfinished stream)
  pub after_cr : feed.after_cr ≡ ends_in_cr (unfinished stream)
  pub goes_on : feed.spent ≡ false

-- a piece behind a stream adds these units, those that weren't whole before it
abbrev pub Adds : (stream piece : List ℕ) (old new : List (List ℕ)) → Type 0
Adds stream piece old new = reader.Adds units_of stream piece old new

-- of the units that the piece adds only the first were added, and the others are missing
pub record AddsFirst (stream piece : List ℕ) (old new : List (List ℕ)) : Type 0 where
  pub more : List (List ℕ)
  pub added : new ≡ old ++ more
  pub missing : List (List ℕ)
  pub are_units : units_of (stream ++ piece) ≡ units_of stream ++ more ++ missing
