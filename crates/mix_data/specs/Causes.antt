-- Which counts a call that reads, and may want memory, lets rise.
use Rattle.std.specs.Prelude.{◌≡◌, ◌≤◌, Result, IsOk, IsErrOf}
use Rattle.file_model.specs.Causes.{Faults, Rose}
use Rattle.file_model.specs.declared.files.Fault.{Fault}
use Rattle.file_model.specs.declared.files.Fault.TheVariants.{Failed, Memory}

-- it fails only where the count of failed calls on files rose, and the number of bytes read never falls
pub record ReadFaultCause {T : Type 0} (old new : Faults) (result : Result T Fault) : Type 0 where
  pub hear : new.hear ≡ old.hear
  pub say : new.say ≡ old.say
  pub later : old.file ≤ new.file
  pub more : old.read ≤ new.read
  pub failed : IsErrOf result Failed → Rose old.file new.file
  pub stays : IsOk result → new.file ≡ old.file
  pub memory : IsErrOf result Memory → new.file ≡ old.file
