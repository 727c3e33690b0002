-- The statuses of the top call.
use Rattle.std.specs.Prelude.{ℕ, Bool, true, false, List, [], ◌∷◌, ◌≡◌, ◌≤◌}
use Rattle.file_model.specs.Causes.{Faults, Rose}
use Rattle.session_loop.specs.declared.end.End.{End}
use Rattle.session_loop.specs.declared.end.End.TheVariants.{Done as End-Done, Cut as End-Cut, Long as End-Long, HearFault as End-HearFault, SayFault as End-SayFault, FileFault as End-FileFault, Memory as End-Memory}
use Rattle.session_loop.specs.Outcome.{NoneFailed}
use Rattle.imapd_core.specs.declared.opening.NoSession.{NoSession}
use Rattle.imapd_core.specs.declared.opening.NoSession.TheVariants.{Words as No-Words, FileFault as No-FileFault, Memory as No-Memory}
use Rattle.imapd_core.specs.declared.server.Status.{Status}
use Rattle.imapd_core.specs.declared.server.Status.TheVariants.{Done, Cut, Words, HearFault, SayFault, Memory, FileFault, Long}

-- the exit status of the program
abbrev pub number_of : Status → ℕ
number_of Done = 0
number_of Cut = 1
number_of Words = 2
number_of HearFault = 3
number_of SayFault = 4
number_of Memory = 5
number_of FileFault = 6
number_of Long = 7

-- the status of each end of the loop
abbrev pub status_of_end : End → Status
status_of_end End-Done = Done
status_of_end End-Cut = Cut
status_of_end End-Long = Long
status_of_end End-HearFault = HearFault
status_of_end End-SayFault = SayFault
status_of_end End-FileFault = FileFault
status_of_end End-Memory = Memory

-- the status where no session began
abbrev pub status_of_none : NoSession → Status
status_of_none No-Words = Words
status_of_none No-FileFault = FileFault
status_of_none No-Memory = Memory

-- the statuses of a session that was served: no fault, no want of memory, and a root
abbrev pub WasServed : Status → Type 0
WasServed Done = Unit {0}
WasServed Cut = Unit {0}
WasServed Long = Unit {0}
WasServed Words = ⊥
WasServed HearFault = ⊥
WasServed SayFault = ⊥
WasServed FileFault = ⊥
WasServed Memory = ⊥

-- the statuses that come only behind the test of the root
abbrev pub HasRoot : Status → Type 0
HasRoot Words = ⊥
HasRoot FileFault = ⊥
HasRoot Done = Unit {0}
HasRoot Cut = Unit {0}
HasRoot Long = Unit {0}
HasRoot HearFault = Unit {0}
HasRoot SayFault = Unit {0}
HasRoot Memory = Unit {0}

-- the status of a session that was served: whether LOGOUT came, whether the input ended, and the bytes of a line that is begun
abbrev pub regular_status : (logout ended : Bool) → List ℕ → Status
regular_status true ended rest = Done
regular_status false true [] = Done
regular_status false true (byte ∷ rest) = Cut
regular_status false false rest = Long

-- the statuses of a failed call
abbrev pub is_failed_status : Status → Bool
is_failed_status HearFault = true
is_failed_status SayFault = true
is_failed_status FileFault = true
is_failed_status Done = false
is_failed_status Cut = false
is_failed_status Words = false
is_failed_status Memory = false
is_failed_status Long = false

-- A fault is answered only where its count rose, and any other status only where none did. Where the words are refused nothing was read.
pub record StatusCause (old new : Faults) (status : Status) : Type 0 where
  pub hear : old.hear ≤ new.hear
  pub file : old.file ≤ new.file
  pub say : old.say ≤ new.say
  pub hear_fault : status ≡ HearFault → Rose old.hear new.hear
  pub say_fault : status ≡ SayFault → Rose old.say new.say
  pub file_fault : status ≡ FileFault → Rose old.file new.file
  pub regular : is_failed_status status ≡ false → NoneFailed old new
  pub words : status ≡ Words → new.read ≡ old.read
