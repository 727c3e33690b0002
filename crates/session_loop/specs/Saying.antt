-- The bytes of lines.
use Rattle.std.specs.Prelude.{ℕ, List, [], ◌∷◌, ◌++◌, ◌≡◌}
use Rattle.file_model.specs.Arrived.{Begins}
use Rattle.session_loop.specs.Machine.{Protocol, replies}

-- these bytes are those of the lines, one after the other
abbrev pub AllSaid : {L : Type 0} → (L → List ℕ → Type 0) → List L → List ℕ → Type 0
AllSaid says [] bytes = bytes ≡ []
AllSaid says (line ∷ lines) bytes = (front : List ℕ) × (rest : List ℕ) × says line front × AllSaid says lines rest × (bytes ≡ front ++ rest)

-- These bytes begin those of the first of the lines; of the lines behind these there is none.
pub record FirstSaid {L : Type 0} (says : L → List ℕ → Type 0) (lines : List L) (bytes : List ℕ) : Type 0 where
  pub first : List L
  pub are_first : Begins first lines
  pub whole : List ℕ
  pub is_whole : AllSaid says first whole
  pub is_part : Begins bytes whole

-- the greeting, and the lines of the replies to units
abbrev pub lines_to : {S U : Type 0} → (p : Protocol S U) → S → List U → List p.Line
lines_to p state units = p.greeting state ∷ replies p.step state units
