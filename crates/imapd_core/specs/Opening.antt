-- What the opening of a session does, before the greeting.
use Rattle.std.specs.Prelude.{ℕ, List, [], Bool, true, false, ◌≡◌, ◌≢◌, ◌≤◌, length, None, Result, Ok, Err, IsErrOf}
use Rattle.file_model.specs.Causes.{Faults, Rose}
use Rattle.file_model.specs.Disk.{Disk, seen}
use Rattle.file_model.specs.Images.{node_at}
use Rattle.file_model.specs.Kept.{Sees, MayMake, NonePending}
use Rattle.imap_grammar.specs.declared.unit.Unit as client
use Rattle.imap_session.specs.declared.session.Session.{Session}
use Rattle.imapd_core.specs.declared.opening.NoSession.{NoSession}
use Rattle.imapd_core.specs.declared.opening.NoSession.TheVariants.{Words, FileFault, Memory}
use Rattle.imapd_core.specs.Runs.{first_node}

-- INBOX was made where nothing stood: a crash leaves what was there, or that and an empty INBOX, and reads see it made and all else as it was.
-- Its directory is settled.
pub record IsMade (path : List ℕ) (old new : Disk) : Type 0 where
  pub left : MayMake path old new
  pub durable : NonePending old → NonePending new
  pub inbox : node_at (seen new) path ≡ first_node (node_at (seen old) path)
  pub elsewhere : Sees (λ q. q ≢ path) old new

-- A session over a root in which no command came yet.
pub record IsNew {S : Type 0} (root : List ℕ) (moment : ℕ) (session : Session S) : Type 0 where
  pub root_is : session.root ≡ root
  pub some_root : 1 ≤ length root
  pub moment_is : session.moment ≡ moment
  pub some : 1 ≤ moment
  pub few : moment ≤ 4294967295
  pub fresh_is : session.fresh ≡ moment
  pub none : session.selected ≡ None

-- no command came yet
abbrev pub NoUnits : List client.Unit
NoUnits = []

-- whether the opening stopped at a failed call
abbrev pub is_failed_opening : {T : Type 0} → Result T NoSession → Bool
is_failed_opening (Ok value) = false
is_failed_opening (Err Words) = false
is_failed_opening (Err FileFault) = true
is_failed_opening (Err Memory) = false

-- A fault is answered only where its count rose; where the words are refused nothing was read.
pub record OpeningCause {T : Type 0} (old new : Faults) (result : Result T NoSession) : Type 0 where
  pub hear : new.hear ≡ old.hear
  pub say : new.say ≡ old.say
  pub read : new.read ≡ old.read
  pub file : old.file ≤ new.file
  pub file_fault : IsErrOf result FileFault → Rose old.file new.file
  pub regular : is_failed_opening result ≡ false → new.file ≡ old.file
