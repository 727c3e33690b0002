-- The counts of failed calls and of bytes read, and which answers let them rise.
use Rattle.std.specs.Prelude.{ℕ, ◌+◌, ◌-◌, ◌^◌, ◌≤◌, ◌≡◌, min, Result, Ok, Err, IsErr, IsOk, IsErrOf}
use Rattle.file_model.specs.declared.files.Failed.{Failed}
use Rattle.file_model.specs.declared.files.Fault.{Fault}
use Rattle.file_model.specs.declared.files.Fault.TheVariants.{Failed as FaultFailed, Memory as FaultMemory}

pub record Faults : Type 0 where
  pub file : ℕ
  pub hear : ℕ
  pub say : ℕ
  -- the number of bytes read
  pub read : ℕ

-- a count rose, or stands at its last value
abbrev pub Rose : ℕ → ℕ → Type 0
Rose old new = min (old + 1) (2 ^ 64 - 1) ≤ new

-- a call on the files fails exactly where their count rose, and leaves the others
pub record FileCause {T E : Type 0} (old new : Faults) (result : Result T E) : Type 0 where
  pub hear : new.hear ≡ old.hear
  pub say : new.say ≡ old.say
  pub read : new.read ≡ old.read
  pub later : old.file ≤ new.file
  pub failed : IsErr result → Rose old.file new.file
  pub stays : IsOk result → new.file ≡ old.file

-- the same of a run on the files that may also want memory
pub record FaultCause {T : Type 0} (old new : Faults) (result : Result T Fault) : Type 0 where
  pub hear : new.hear ≡ old.hear
  pub say : new.say ≡ old.say
  pub read : new.read ≡ old.read
  pub later : old.file ≤ new.file
  pub failed : IsErrOf result FaultFailed → Rose old.file new.file
  pub stays : IsOk result → new.file ≡ old.file
  pub memory : IsErrOf result FaultMemory → new.file ≡ old.file

-- the same of a call that reads, by which the number of bytes read never falls, and stays where it fails
pub record ReadCause (old new : Faults) (result : Result ℕ Failed) : Type 0 where
  pub hear : new.hear ≡ old.hear
  pub say : new.say ≡ old.say
  pub later : old.file ≤ new.file
  pub more : old.read ≤ new.read
  pub failed : IsErr result → Rose old.file new.file
  pub stays : IsOk result → new.file ≡ old.file
  pub unread : IsErr result → new.read ≡ old.read

-- the number of bytes read rises by the bytes that a call gives, up to its last value
abbrev pub Counts : ℕ → Result ℕ Failed → ℕ → Type 0
Counts old (Ok n) new = new ≡ min (old + n) (2 ^ 64 - 1)
Counts old (Err e) new = new ≡ old

-- a call of a crate above leaves the counts of input and output, and its other counts never fall
pub record OnlyFiles (old new : Faults) : Type 0 where
  pub hear : new.hear ≡ old.hear
  pub say : new.say ≡ old.say
  pub file : old.file ≤ new.file
  pub read : old.read ≤ new.read

-- `hear` fails exactly where its count rose, and leaves the others
pub record HearCause {T E : Type 0} (old new : Faults) (result : Result T E) : Type 0 where
  pub file : new.file ≡ old.file
  pub read : new.read ≡ old.read
  pub say : new.say ≡ old.say
  pub later : old.hear ≤ new.hear
  pub failed : IsErr result → Rose old.hear new.hear
  pub stays : IsOk result → new.hear ≡ old.hear

-- and so does `say`
pub record SayCause {T E : Type 0} (old new : Faults) (result : Result T E) : Type 0 where
  pub file : new.file ≡ old.file
  pub read : new.read ≡ old.read
  pub hear : new.hear ≡ old.hear
  pub later : old.say ≤ new.say
  pub failed : IsErr result → Rose old.say new.say
  pub stays : IsOk result → new.say ≡ old.say
