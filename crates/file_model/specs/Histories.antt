-- The instants of a run, and what it changes.
use Rattle.std.specs.Prelude.{ℕ, Bool, List, [], ◌∷◌, ◌++◌, ◌+◌, ◌-◌, ◌==◌, ◌||◌, ◌&&◌, nat_lt, ◌≤◌, ◌≡◌, ◌⊎◌, take, length, Result, Ok, Err, Contains}
use Rattle.std.specs.List.{AllByRecursion}
use Rattle.file_model.specs.declared.files.Failed.{Failed}
use Rattle.file_model.specs.Images.{Image}
use Rattle.file_model.specs.Disk.{Disk, Call, after, AfterFailed, MayLeave}

-- what was heard and said
pub record Streams : Type 0 where
  pub heard : List ℕ
  pub ended : Bool
  pub said : List ℕ
  -- a crash finds at least so many of them said
  pub surely_said : ℕ
  -- for each `hear` the numbers of bytes heard and said as it began
  pub turns : List (ℕ × ℕ)

pub record World : Type 0 where
  pub disk : Disk
  pub streams : Streams

-- A history has the worlds of a session, the newest first. A host that is not modelled has none.
abbrev pub History : Type 0
History = List World

-- P of the world as it is now, where it is told
abbrev pub Now : History → (World → Type 0) → Type 0
Now [] P = Unit {0}
Now (world ∷ past) P = P world

abbrev pub instant : History → ℕ
instant history = length history

-- P of the world at the start of a run that added some worlds; where none is told it added none
abbrev pub FromStart : History → List World → (World → Type 0) → Type 0
FromStart [] added P = added ≡ []
FromStart (world ∷ past) added P = P world

-- a crash now may leave this image
abbrev pub MayLeaveNow : History → Image → Type 0
MayLeaveNow [] image = ⊥
MayLeaveNow (world ∷ past) image = MayLeave world.disk image

-- a crash since an instant might have left this image and found these bytes said
abbrev pub LeftSince : ℕ → History → Image → List ℕ → Type 0
LeftSince start history image said = (world : World) × Contains (take (length history + 1 - start) history) world × MayLeave world.disk image
    × ((n : ℕ) × (world.streams.surely_said ≤ n) × (said ≡ take n world.streams.said))

abbrev pub with_disk : World → Disk → World
with_disk world disk = record { disk = disk; streams = world.streams }

-- How a call on the files goes on with a history: inside it a crash finds it undone or done. One that failed may have done nothing.
abbrev pub GoesOn : Call → Result (Unit {0}) Failed → History → History → Type 0
GoesOn call result [] new = new ≡ []
GoesOn call (Ok u) (world ∷ past) new = new ≡ with_disk world (after call world.disk) ∷ world ∷ past
GoesOn call (Err e) (world ∷ past) new =
    (new ≡ world ∷ past)
    ⊎ ((disk : Disk) × AfterFailed call world.disk disk × (new ≡ with_disk world disk ∷ with_disk world (after call world.disk) ∷ world ∷ past))

-- The run from old to new changes files alone, and the disk of each of its instants stands in R to the disk at its start.
pub record Ran (R : Disk → Disk → Type 0) (old new : History) : Type 0 where
  pub added : History
  pub whole : new ≡ added ++ old
  pub each : FromStart old added (λ start. AllByRecursion (λ world. (world.streams ≡ start.streams) × R start.disk world.disk) added)

-- the disk at the end stands in R to the disk at the start
abbrev pub Ended : (Disk → Disk → Type 0) → History → History → Type 0
Ended R [] new = new ≡ []
Ended R (start ∷ past) [] = ⊥
Ended R (start ∷ past) (end ∷ more) = R start.disk end.disk

-- ---- Streams

abbrev pub with_streams : World → Streams → World
with_streams world streams = record { disk = world.disk; streams = streams }

-- a turn begins
abbrev pub with_turn : Streams → List (ℕ × ℕ)
with_turn streams = streams.turns ++ (length streams.heard, length streams.said) ∷ []

-- `hear` with room for some bytes: those that it gave are heard, and none is the end
abbrev pub Hears : ℕ → List ℕ → Result ℕ Failed → History → History → Type 0
Hears room given result [] new = new ≡ []
Hears room given (Ok n) (world ∷ past) new = new ≡ with_streams world (record {
  heard = world.streams.heard ++ take n given;
  ended = world.streams.ended || (n == 0 && nat_lt 0 room);
  said = world.streams.said;
  surely_said = world.streams.surely_said;
  turns = with_turn world.streams;
}) ∷ world ∷ past
Hears room given (Err e) (world ∷ past) new = new ≡ with_streams world (record {
  heard = world.streams.heard;
  ended = world.streams.ended;
  said = world.streams.said;
  surely_said = world.streams.surely_said;
  turns = with_turn world.streams;
}) ∷ world ∷ past

-- said after these bytes, of which a crash finds at least some
abbrev pub saying : World → List ℕ → ℕ → World
saying world bytes surely = with_streams world (record {
  heard = world.streams.heard;
  ended = world.streams.ended;
  said = world.streams.said ++ bytes;
  surely_said = surely;
  turns = world.streams.turns;
})

-- `say`: inside it a crash finds the bytes said before and some of its own. Where it failed some of its own were said.
abbrev pub Says : List ℕ → Result (Unit {0}) Failed → History → History → Type 0
Says bytes result [] new = new ≡ []
Says bytes (Ok u) (world ∷ past) new =
    new ≡ saying world bytes (length (world.streams.said ++ bytes)) ∷ saying world bytes (length world.streams.said) ∷ world ∷ past
Says bytes (Err e) (world ∷ past) new = (n : ℕ) ×
    (new ≡ saying world (take n bytes) (length (world.streams.said ++ take n bytes)) ∷ saying world bytes (length world.streams.said) ∷ world ∷ past)

-- The run from old to new, each of whose instants stands in R to the world at its start.
pub record Passed (R : World → World → Type 0) (old new : History) : Type 0 where
  pub added : History
  pub whole : new ≡ added ++ old
  pub each : FromStart old added (λ start. AllByRecursion (R start) added)
