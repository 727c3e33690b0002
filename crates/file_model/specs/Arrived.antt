-- Where a run leads, and what came since its start.
use Rattle.std.specs.Prelude.{ℕ, Bool, List, [], ◌∷◌, ◌++◌, ◌≡◌, ◌||◌, ◌&&◌, ◌+◌, ◌-◌, ◌==◌, nat_lt, ◌≤◌, length, drop, take, Result, Ok, Err, false}
use Rattle.file_model.specs.declared.files.Failed.{Failed}
use Rattle.file_model.specs.Images.{Image}
use Rattle.file_model.specs.Disk.{MayLeave}
use Rattle.file_model.specs.Histories.{World, History}

-- the world at the end stands in R to the world at the start
abbrev pub Arrived : (World → World → Type 0) → History → History → Type 0
Arrived R [] new = new ≡ []
Arrived R (start ∷ past) [] = ⊥
Arrived R (start ∷ past) (end ∷ more) = R start end

-- the worlds since an instant, that of the instant too
abbrev pub worlds_since : ℕ → History → List World
worlds_since start history = take (length history + 1 - start) history

-- A crash at an instant might have left this image and found these bytes said, and P holds there.
pub record LeftBy (P : World → Type 0) (image : Image) (said : List ℕ) : Type 0 where
  pub world : World
  pub holds : P world
  pub may_leave : MayLeave world.disk image
  pub count : ℕ
  pub surely : world.streams.surely_said ≤ count
  pub is_said : said ≡ take count world.streams.said

-- the bytes heard since a world
abbrev pub heard_since : World → World → List ℕ
heard_since start world = drop (length start.streams.heard) world.streams.heard

-- the bytes said since a world
abbrev pub said_since : World → World → List ℕ
said_since start world = drop (length start.streams.said) world.streams.said

-- the turns since a world
abbrev pub turns_since : World → World → List (ℕ × ℕ)
turns_since start world = drop (length start.streams.turns) world.streams.turns

-- a list begins with another
pub record Begins {A : Type 0} (front whole : List A) : Type 0 where
  pub rest : List A
  pub is_whole : front ++ rest ≡ whole

-- An instant of `say`: a part of the bytes is said.
pub record IsSaying (bytes : List ℕ) (start world : World) : Type 0 where
  pub disk : world.disk ≡ start.disk
  pub heard : world.streams.heard ≡ start.streams.heard
  pub ended : world.streams.ended ≡ start.streams.ended
  pub turns : world.streams.turns ≡ start.streams.turns
  pub part : List ℕ
  pub is_said : world.streams.said ≡ start.streams.said ++ part
  pub is_part : Begins part bytes

-- The bytes were said.
pub record HasSaid (bytes : List ℕ) (start world : World) : Type 0 where
  pub disk : world.disk ≡ start.disk
  pub heard : world.streams.heard ≡ start.streams.heard
  pub ended : world.streams.ended ≡ start.streams.ended
  pub turns : world.streams.turns ≡ start.streams.turns
  pub said : world.streams.said ≡ start.streams.said ++ bytes

-- the bytes that a `hear` gave
abbrev pub given_bytes : Result ℕ Failed → List ℕ → List ℕ
given_bytes (Ok n) buffer = take n buffer
given_bytes (Err e) buffer = []

-- whether it told the end
abbrev pub gives_end : Result ℕ Failed → ℕ → Bool
gives_end (Ok n) room = n == 0 && nat_lt 0 room
gives_end (Err e) room = false

-- A piece was heard, in a turn.
pub record HasHeard (piece : List ℕ) (ends : Bool) (start world : World) : Type 0 where
  pub disk : world.disk ≡ start.disk
  pub heard : world.streams.heard ≡ start.streams.heard ++ piece
  pub ended : world.streams.ended ≡ start.streams.ended || ends
  pub turns : world.streams.turns ≡ start.streams.turns ++ (length start.streams.heard, length start.streams.said) ∷ []
  pub said : world.streams.said ≡ start.streams.said
