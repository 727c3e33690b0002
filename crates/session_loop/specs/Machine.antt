-- A session as a machine: what each unit changes, and what is said to it.
use Rattle.std.specs.Prelude.{ℕ, Bool, true, false, List, [], ◌∷◌, ◌++◌, ◌≡◌, ◌≢◌}
use Rattle.file_model.specs.Images.{Image}
use Rattle.file_model.specs.Disk.{Disk, MayLeave}

-- what a unit leads to: the next state, and the lines of its reply
pub record Answered (S L : Type 0) : Type 0 where
  pub next : S
  pub reply : List L

-- A kind of session, with states S and units U.
pub record Protocol (S U : Type 0) : Type 1 where
  -- its lines, and the bytes that each is said in
  pub Line : Type 0
  pub says : Line → List ℕ → Type 0
  -- the units of a stream, and the bytes behind the last of them
  pub units_of : List ℕ → List U
  pub unfinished : List ℕ → List ℕ
  -- what is said first over a state, what each unit leads to, and which unit ends the session
  pub greeting : S → Line
  pub step : S → U → Answered S Line
  pub is_last : U → Bool
  -- every crash of a disk leaves what has to survive of a state, and it stands in an image
  pub alike : S → Disk → Type 0
  pub agrees : S → Image → Type 0

-- what every crash leaves, each image has
abbrev pub IsKept : {S U : Type 0} → Protocol S U → Type 0
IsKept {S = S} p = (disk : Disk) (state : S) → p.alike state disk → (image : Image) → MayLeave disk image → p.agrees state image

-- Every reply has a line, and every line a byte; and no line is said in two ways.
pub record SaysSomething {S U : Type 0} (p : Protocol S U) : Type 0 where
  pub line : (state : S) (unit : U) → (p.step state unit).reply ≢ []
  pub byte : (line : p.Line) (bytes : List ℕ) → p.says line bytes → bytes ≢ []
  pub one : (line : p.Line) (bytes other : List ℕ) → p.says line bytes → p.says line other → bytes ≡ other

-- the lines of the replies to units in order
abbrev pub replies : {S U L : Type 0} → (S → U → Answered S L) → S → List U → List L
replies step state [] = []
replies step state (unit ∷ units) = (step state unit).reply ++ replies step (step state unit).next units

-- the state after them
abbrev pub state_after : {S U L : Type 0} → (S → U → Answered S L) → S → List U → S
state_after step state [] = state
state_after step state (unit ∷ units) = state_after step (step state unit).next units

-- the units that are answered: up to the first that ends the session, and with it
abbrev pub answered : {U : Type 0} → (U → Bool) → List U → List U
answered {U = U} is_last [] = []
answered {U = U} is_last (unit ∷ units) = unit ∷ elim (is_last unit) as (λ _. List U) [ true ↦ [] | false ↦ answered is_last units ]

-- one of the units ends the session
abbrev pub has_last : {U : Type 0} → (U → Bool) → List U → Bool
has_last is_last [] = false
has_last is_last (unit ∷ units) = elim (is_last unit) as (λ _. Bool) [ true ↦ true | false ↦ has_last is_last units ]

-- the units of these bytes that are answered
abbrev pub commands_in : {S U : Type 0} → Protocol S U → List ℕ → List U
commands_in p heard = answered p.is_last (p.units_of heard)

-- a unit of these bytes ends the session
abbrev pub is_over : {S U : Type 0} → Protocol S U → List ℕ → Bool
is_over p heard = has_last p.is_last (p.units_of heard)
