-- Putting bytes, piece by piece.
use Rattle.std.specs.Result.{is_ok, is_err, IsErr}
use Rattle.std.proofs.Common.{ℕ, false, if◌then◌else◌, List, [], ◌++◌, ◌≡◌, refl, subst, arith, Result, Ok, Err, IfErr, append-nil}
use Rattle.file_model.specs.declared.files.Failed.{Failed}
use Rattle.file_model.specs.Histories.{History, Says, Passed}
use Rattle.file_model.specs.Causes.{Faults, SayCause}
use Rattle.file_model.specs.Arrived.{HasSaid, IsSaying}
use Rattle.file_model.proofs.Passes.{passed_none, passed_say, arrived_say, arrived_weaker}
use Rattle.session_loop.specs.declared.answers.Stop.{Stop}
use Rattle.session_loop.specs.declared.answers.Stop.TheVariants.{SayFault, FileFault, Memory}
use Rattle.session_loop.specs.Outcome.{UnitCause}
use Rattle.imap_reply.specs.BufferLaws.{all_wait, more_passed}
use Rattle.imap_reply.specs.Putting.{HasPut, Puts, PutsBut}

pub puts_failed : (whole waits : List ℕ) (failed : Failed) (stop : Stop) (old new : History) → Says whole (Err failed) old new → Puts whole waits (Err stop) old new
puts_failed whole waits failed stop old new says = record { instants = passed_say whole (Err failed) old new says; done = tt }

pub puts_said : (whole : List ℕ) (u : Unit {0}) (old new : History) → Says whole (Ok u) old new → Puts whole [] (Ok tt) old new
puts_said whole u old new says = record {
  instants = passed_say whole (Ok u) old new says;
  done = arrived_weaker (HasSaid whole) (HasPut whole [] [])
      (λ a b said. record { disk = said.disk; heard = said.heard; ended = said.ended; turns = said.turns; part = whole; is_said = said.said; is_whole = append-nil whole })
      old new (arrived_say whole u old new says);
}

-- a call that didn't fail has added the bytes
pub added_so : {E : Type 0} (result : Result (Unit {0}) E) (old bytes new : List ℕ) → new ≡ (if is_ok result then old ++ bytes else old) → is_err result ≡ false → new ≡ old ++ bytes
added_so (Ok u) old bytes new is fine = is
added_so (Err e) old bytes new is fine = absurd (cc)

-- ---- For loops that put lines

-- nothing is put yet
pub none_put : (whole waits rest : List ℕ) (h : History) → waits ++ rest ≡ whole → PutsBut whole waits rest h h
none_put whole waits rest h is = record { instants = passed_none (IsSaying whole) h; here = all_wait whole waits rest is h }

-- the next bytes couldn't be put
pub more_stopped : (whole one bytes rest before waits : List ℕ) (result : Result (Unit {0}) Stop) (old mid new : History) → IsErr result → PutsBut whole one before old mid → before ≡ bytes ++ rest
    → Passed (IsSaying (one ++ bytes)) mid new → Puts whole waits result old new
more_stopped whole one bytes rest before waits (Ok u) old mid new ends put is more = absurd (cc)
more_stopped whole one bytes rest before waits (Err stop) old mid new ends put is more =
    record { instants = more_passed whole one bytes rest old mid new (subst (λ r. PutsBut whole one r old mid) is put) more; done = tt }

-- ---- What saying leaves of the counts of faults

-- the cause of a unit that only said something
pub unit_cause : (result : Result (Unit {0}) Stop) (old new : Faults) → IfErr result (λ stop. stop ≡ SayFault) → SayCause old new result → UnitCause old new result
unit_cause (Ok u) old new fault cause = record {
  hear = cause.hear;
  file = omega (arith, file);
  say = cause.later;
  say_fault = λ fails. absurd (cc);
  file_fault = λ fails. absurd (cc);
  regular = λ fine. record { hear = cause.hear; file = cause.file; say = cause.stays refl };
}
  where
    file : new.file ≡ old.file
    file = cause.file
unit_cause (Err SayFault) old new fault cause = record {
  hear = cause.hear;
  file = omega (arith, file);
  say = cause.later;
  say_fault = λ fails. cause.failed refl;
  file_fault = λ fails. absurd (cc);
  regular = λ fine. absurd (cc);
}
  where
    file : new.file ≡ old.file
    file = cause.file
unit_cause (Err FileFault) old new fault cause = absurd (cc)
unit_cause (Err Memory) old new fault cause = absurd (cc)
