use Rattle.std.proofs.Common.{[], subst, Ok, OnOk}
use Rattle.std.proofs.lemmas.Result.{on_ok_weaker}
use Rattle.file_model.specs.Disk.{written}
use Rattle.file_model.specs.Kept.{IsWritten}
use Rattle.file_model.specs.Histories.{Now}
use Rattle.file_model.proofs.Runs.{now_both, now_weaker, ended_then, files_then}
use Rattle.file_model.proofs.Calls.{ok_write, ran_write, ran_sync, ran_keeps, sees_trans}
use Rattle.file_model.proofs.InPlace.{owns, shows_file, ok_write_shows, ok_sync_written, sees_write, sees_sync}
use Rattle.safe_file.proofs.Beside.{written_empty}
use Rattle.safe_file.proofs.OnFiles.{files_write, files_sync}
use Rattle.file_model.proofs.FileCalls.{directories_write, directories_sync, then_keeps}
use Rattle.safe_file.proofs.preparing.fill.Goals as goal

pub returns-in_err-write_at-clause-instants : goal.returns-in_err-write_at-clause-instants
returns-in_err-write_at-clause-instants g c home = ran_write _ _ _ c.args.temporary.now [] 0 c.args.bytes.now (owns c.args.temporary.now [] _ c.requires.empty home) c.write_at.ensures.goes_on

pub returns-clause-written : goal.returns-clause-written
returns-clause-written g c =
    let shows = ok_write_shows (Ok c.in_ok-write_at.field-0) _ _ c.args.temporary.now [] 0 c.args.bytes.now c.requires.empty c.in_ok-write_at.ensures.goes_on in
    subst (λ b. OnOk c.sync.result (Now (g.F.Files.history c.sync.new.self) (λ w. IsWritten c.args.temporary.now b w.disk))) (written_empty c.args.bytes.now)
    (ok_sync_written _ _ _ c.args.temporary.now (written 0 c.args.bytes.now []) shows c.sync.ensures.goes_on)

pub returns-clause-instants : goal.returns-clause-instants
returns-clause-instants g c home =
    let own = owns c.args.temporary.now [] _ c.requires.empty home in
    let after = ok_write (Ok c.in_ok-write_at.field-0) _ _ c.args.temporary.now [] 0 c.args.bytes.now own c.in_ok-write_at.ensures.goes_on in
    ran_keeps _ _ _ _ (ran_write _ _ _ c.args.temporary.now [] 0 c.args.bytes.now own c.write_at.ensures.goes_on)
    (ran_sync _ _ _ c.args.temporary.now (written 0 c.args.bytes.now []) _ (now_both _ _ _ (g.met.F.Files.sound c.write_at.new.self) after) c.sync.ensures.goes_on)

pub returns-clause-sees : goal.returns-clause-sees
returns-clause-sees g c =
    let shows = ok_write_shows (Ok c.in_ok-write_at.field-0) _ _ c.args.temporary.now [] 0 c.args.bytes.now c.requires.empty c.in_ok-write_at.ensures.goes_on in
    let first = sees_write (Ok c.in_ok-write_at.field-0) _ _ c.args.temporary.now [] 0 c.args.bytes.now (now_both _ _ _ (g.met.F.Files.sound c.args.files.now) c.requires.empty) c.in_ok-write_at.ensures.goes_on in
    on_ok_weaker c.sync.result (λ second. ended_then _ (λ x y z p q. sees_trans _ x y z p q) _ _ _ first second)
    (sees_sync _ _ _ c.args.temporary.now (written 0 c.args.bytes.now []) (now_both _ _ _ (g.met.F.Files.sound c.write_at.new.self) shows) c.sync.ensures.goes_on)

pub sync-requires : goal.sync-requires
sync-requires g c =
    let shows = ok_write_shows (Ok c.in_ok-write_at.field-0) _ _ c.args.temporary.now [] 0 c.args.bytes.now c.requires.empty c.in_ok-write_at.ensures.goes_on in
    now_weaker _ _ (λ w here. shows_file c.args.temporary.now (written 0 c.args.bytes.now []) w.disk here) _ shows

pub returns-in_err-write_at-clause-files : goal.returns-in_err-write_at-clause-files
returns-in_err-write_at-clause-files g c = files_write _ _ _ c.args.temporary.now 0 c.args.bytes.now c.write_at.ensures.goes_on

pub returns-clause-files : goal.returns-clause-files
returns-clause-files g c = files_then _ _ _ (files_write _ _ _ c.args.temporary.now 0 c.args.bytes.now c.write_at.ensures.goes_on) (files_sync _ _ _ _ c.sync.ensures.goes_on)

pub returns-in_err-write_at-clause-directories : goal.returns-in_err-write_at-clause-directories
returns-in_err-write_at-clause-directories g c = directories_write _ _ _ c.args.temporary.now 0 c.args.bytes.now (g.met.F.Files.sound c.args.files.now) c.write_at.ensures.goes_on

pub returns-clause-directories : goal.returns-clause-directories
returns-clause-directories g c = then_keeps _ _ _ (directories_write _ _ _ c.args.temporary.now 0 c.args.bytes.now (g.met.F.Files.sound c.args.files.now) c.write_at.ensures.goes_on)
    (directories_sync _ _ _ _ (g.met.F.Files.sound c.write_at.new.self) c.sync.ensures.goes_on)
