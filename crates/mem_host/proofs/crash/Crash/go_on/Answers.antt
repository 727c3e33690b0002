use Rattle.std.proofs.Common.{◌≡◌, List, [], ◌∷◌, sym, subst, OnOk, string_bytes}
use Rattle.file_model.specs.Disk.{Disk, after}
use Rattle.mem_host.specs.Events.{Event}
use Rattle.mem_host.specs.Deeds.{event_of_deed, call_of_step}
use Rattle.mem_host.specs.declared.log.Deed.{Deed}
use Rattle.mem_host.specs.declared.crash.Crash.{Crash}
use Rattle.mem_host.specs.Fitted.{FitsAt}
use Rattle.mem_host.specs.Remains.{IsRemains, IsTidy, CanStep}
use Rattle.mem_host.specs.Replay.{with_directory, with_resting_file}
use Rattle.mem_host.specs.Finding.{FindsAfter, CanGoOn}
use Rattle.mem_host.proofs.Mirrored.{on_ok}
use Rattle.mem_host.proofs.Found.{can_step, finds_done, finds_directory, finds_file}
use Rattle.mem_host.proofs.crash.Crash.go_on.Goals as goal

-- the deed's event comes after some
abbrev Goes : Crash → Crash → Deed → Type 0
Goes old new deed = (earlier : List Event) → FitsAt (event_of_deed deed) earlier → FindsAfter old earlier → FindsAfter new (event_of_deed deed ∷ earlier)

pub step-requires : goal.step-requires
step-requires c =
    subst (λ call. CanStep call c.args.self.now.remains) (sym c.request.ensures)
    (can_step (call_of_step c.in-Did.step) c.args.self.now (subst (λ deed. CanGoOn (event_of_deed deed) c.args.self.now) c.in-Did.is c.requires))

pub returns-in-PutDirectory-clause-finds : goal.returns-in-PutDirectory-clause-finds
returns-in-PutDirectory-clause-finds c =
    let old = c.args.self.now in let path = string_bytes c.in-PutDirectory.path in
    subst (λ deed. OnOk c.put_directory.result (Goes old (record old { remains = c.put_directory.new.self }) deed)) (sym c.in-PutDirectory.is)
    (on_ok c.put_directory.result (λ puts earlier fit finds. finds_directory path old c.put_directory.new.self earlier
    (subst (λ p. (disk : Disk) → disk.pending ≡ [] → IsRemains old.remains disk → IsRemains c.put_directory.new.self (with_directory p disk)) c.as_str.ensures.value puts) fit finds) c.put_directory.ensures)

pub returns-in-PutFile-clause-finds : goal.returns-in-PutFile-clause-finds
returns-in-PutFile-clause-finds c =
    let old = c.args.self.now in let path = string_bytes c.in-PutFile.path in let bytes = c.in-PutFile.bytes.items in
    subst (λ deed. OnOk c.put_file.result (Goes old (record old { remains = c.put_file.new.self }) deed)) (sym c.in-PutFile.is)
    (on_ok c.put_file.result (λ puts earlier fit finds. finds_file path bytes old c.put_file.new.self earlier
    (subst (λ b. (disk : Disk) → disk.pending ≡ [] → IsRemains old.remains disk → IsRemains c.put_file.new.self (with_resting_file path b disk)) c.as_slice.ensures.value
    (subst (λ p. (disk : Disk) → disk.pending ≡ [] → IsRemains old.remains disk → IsRemains c.put_file.new.self (with_resting_file p c.as_slice.result.now disk)) c.as_str-in-PutFile.ensures.value puts)) fit finds) c.put_file.ensures)

pub returns-in-Did-clause-finds : goal.returns-in-Did-clause-finds
returns-in-Did-clause-finds c =
    let old = c.args.self.now in
    subst (λ deed. OnOk c.step.result (Goes old (record old { remains = c.step.new.self }) deed)) (sym c.in-Did.is)
    (on_ok c.step.result (λ steps earlier fit finds. finds_done (call_of_step c.in-Did.step) old c.step.new.self earlier
    (subst (λ call. (disk : Disk) → IsRemains old.remains disk → IsTidy disk → IsRemains c.step.new.self (after call disk)) c.request.ensures steps) fit finds) c.step.ensures)
