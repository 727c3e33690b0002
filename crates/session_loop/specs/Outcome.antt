-- The answers of calls, and their causes.
use Rattle.std.specs.Prelude.{ℕ, List, [], ◌∷◌, Bool, true, false, ◌≡◌, ◌≤◌, ◌^◌, length, Result, Ok, Err, IsErrOf}
use Rattle.file_model.specs.Causes.{Faults, Rose}
use Rattle.session_loop.specs.declared.answers.Next.{Next}
use Rattle.session_loop.specs.declared.answers.Next.TheVariants.{Go, Bye}
use Rattle.session_loop.specs.declared.answers.Stop.{Stop}
use Rattle.session_loop.specs.declared.answers.Stop.TheVariants.{SayFault, FileFault, Memory}
use Rattle.session_loop.specs.declared.end.End.{End}
use Rattle.session_loop.specs.declared.end.End.TheVariants.{Done, Cut, Long, HearFault as End-HearFault, SayFault as End-SayFault, FileFault as End-FileFault, Memory as End-Memory}
use Rattle.session_loop.specs.declared.end.Turn.{Turn}
use Rattle.session_loop.specs.declared.end.Turn.TheVariants.{Goes, Over}

-- the session goes on unless a unit ended it
abbrev pub next_of : Bool → Next
next_of true = Bye
next_of false = Go

-- no call failed
pub record NoneFailed (old new : Faults) : Type 0 where
  pub hear : new.hear ≡ old.hear
  pub file : new.file ≡ old.file
  pub say : new.say ≡ old.say

-- whether a unit stopped at a failed call
abbrev pub has_failed : {T : Type 0} → Result T Stop → Bool
has_failed (Ok value) = false
has_failed (Err SayFault) = true
has_failed (Err FileFault) = true
has_failed (Err Memory) = false

-- whether a session ended at a failed call
abbrev pub is_failed_end : End → Bool
is_failed_end Done = false
is_failed_end Cut = false
is_failed_end Long = false
is_failed_end End-HearFault = true
is_failed_end End-SayFault = true
is_failed_end End-FileFault = true
is_failed_end End-Memory = false

abbrev pub is_failed_turn : Turn → Bool
is_failed_turn (Goes count) = false
is_failed_turn (Over end) = is_failed_end end

-- A fault is answered exactly where its count rose; nothing is heard.
pub record UnitCause {T : Type 0} (old new : Faults) (result : Result T Stop) : Type 0 where
  pub hear : new.hear ≡ old.hear
  pub file : old.file ≤ new.file
  pub say : old.say ≤ new.say
  pub say_fault : IsErrOf result SayFault → Rose old.say new.say
  pub file_fault : IsErrOf result FileFault → Rose old.file new.file
  pub regular : has_failed result ≡ false → NoneFailed old new

abbrev pub end_of_stop : Stop → End
end_of_stop SayFault = End-SayFault
end_of_stop FileFault = End-FileFault
end_of_stop Memory = End-Memory

-- How a session ends whose bytes were all answered: by a last unit, by the end of the input, or because too much was heard.
abbrev pub regular_end : (last ended : Bool) → List ℕ → End
regular_end true ended rest = Done
regular_end false false rest = Long
regular_end false true [] = Done
regular_end false true (byte ∷ rest) = Cut

-- a session ends because too much was heard only at 2^40 bytes
abbrev pub IsLong : End → List ℕ → Type 0
IsLong Done heard = Unit {0}
IsLong Cut heard = Unit {0}
IsLong Long heard = length heard ≡ 2 ^ 40
IsLong End-HearFault heard = Unit {0}
IsLong End-SayFault heard = Unit {0}
IsLong End-FileFault heard = Unit {0}
IsLong End-Memory heard = Unit {0}

-- the ends that a fault or want of memory brings
abbrev pub IsFault : End → Type 0
IsFault Done = ⊥
IsFault Cut = ⊥
IsFault Long = ⊥
IsFault End-HearFault = Unit {0}
IsFault End-SayFault = Unit {0}
IsFault End-FileFault = Unit {0}
IsFault End-Memory = Unit {0}

-- A fault ends a session exactly where its count rose.
pub record EndCause (old new : Faults) (end : End) : Type 0 where
  pub hear : old.hear ≤ new.hear
  pub file : old.file ≤ new.file
  pub say : old.say ≤ new.say
  pub hear_fault : end ≡ End-HearFault → Rose old.hear new.hear
  pub say_fault : end ≡ End-SayFault → Rose old.say new.say
  pub file_fault : end ≡ End-FileFault → Rose old.file new.file
  pub regular : is_failed_end end ≡ false → NoneFailed old new

-- the same of a turn, which may go on
pub record TurnCause (old new : Faults) (turn : Turn) : Type 0 where
  pub hear : old.hear ≤ new.hear
  pub file : old.file ≤ new.file
  pub say : old.say ≤ new.say
  pub hear_fault : turn ≡ Over End-HearFault → Rose old.hear new.hear
  pub say_fault : turn ≡ Over End-SayFault → Rose old.say new.say
  pub file_fault : turn ≡ Over End-FileFault → Rose old.file new.file
  pub regular : is_failed_turn turn ≡ false → NoneFailed old new
