-- Calls that failed, one after the other.
use Rattle.std.proofs.Common.{◌∙◌, refl, arith, Ok}
use Rattle.file_model.specs.Causes.{Faults}
use Rattle.session_loop.specs.Outcome.{NoneFailed, UnitCause}

pub none_failed : (a b c : Faults) → NoneFailed a b → NoneFailed b c → NoneFailed a c
none_failed a b c one two = record { hear = two.hear ∙ one.hear; file = two.file ∙ one.file; say = two.say ∙ one.say }

-- nothing was called
pub none_called : (faults : Faults) → UnitCause {T = Unit {0}} faults faults (Ok tt)
none_called faults = record {
  hear = refl;
  file = omega arith;
  say = omega arith;
  say_fault = λ is. absurd (cc);
  file_fault = λ is. absurd (cc);
  regular = λ none. record { hear = refl; file = refl; say = refl };
}
