use Rattle.std.proofs.Common.{◌≢◌, List, ℕ, sym, subst, OnOk}
use Rattle.file_model.specs.Kept.{Keeps, IsOwn, Sees}
use Rattle.file_model.specs.Histories.{Now, Ran, Ended}
use Rattle.file_model.proofs.Runs.{now_both}
use Rattle.file_model.proofs.Calls.{ran_make, ran_cut, sees_ok_make}
use Rattle.file_model.proofs.InPlace.{Shows, stat_shows, stat_apart, owns_any, ok_cut_shows, ok_make_shows, ok_cut_home, ok_make_home, sees_cut}
use Rattle.safe_file.proofs.OnFiles.{files_cut, files_make}
use Rattle.file_model.specs.Kept.{KeepsDirectories}
use Rattle.file_model.proofs.FileCalls.{directories_cut, directories_make}
use Rattle.safe_file.proofs.preparing.clear.Goals as goal

pub returns-in-File-clause-empty : goal.returns-in-File-clause-empty
returns-in-File-clause-empty g c =
    let shows = stat_shows c.args.temporary.now _ _ _ c.in-File.is c.in_ok-stat.ensures.kind in
    let now = subst (λ h. Now h (λ w. (b : List ℕ) × Shows c.args.temporary.now b w.disk)) (sym c.stat.ensures.same) shows in
    ok_cut_shows _ _ _ c.args.temporary.now now c.cut.ensures.goes_on

pub returns-in-File-clause-home : goal.returns-in-File-clause-home
returns-in-File-clause-home g c home =
    let own = owns_any c.args.temporary.now _ (stat_shows c.args.temporary.now _ _ _ c.in-File.is c.in_ok-stat.ensures.kind) home in
    let now = subst (λ h. Now h (λ w. (b : List ℕ) × IsOwn c.args.temporary.now b w.disk)) (sym c.stat.ensures.same) own in
    ok_cut_home _ _ _ c.args.temporary.now now c.cut.ensures.goes_on

pub returns-in-File-clause-instants : goal.returns-in-File-clause-instants
returns-in-File-clause-instants g c home =
    let own = owns_any c.args.temporary.now _ (stat_shows c.args.temporary.now _ _ _ c.in-File.is c.in_ok-stat.ensures.kind) home in
    let now = subst (λ h. Now h (λ w. (b : List ℕ) × IsOwn c.args.temporary.now b w.disk)) (sym c.stat.ensures.same) own in
    subst (λ h. Ran (Keeps (λ q. q ≢ c.args.temporary.now)) h (g.F.Files.history c.cut.new.self)) c.stat.ensures.same (ran_cut _ _ _ c.args.temporary.now 0 now c.cut.ensures.goes_on)

pub returns-in-File-clause-sees : goal.returns-in-File-clause-sees
returns-in-File-clause-sees g c =
    let shows = stat_shows c.args.temporary.now _ _ _ c.in-File.is c.in_ok-stat.ensures.kind in
    let now = subst (λ h. Now h (λ w. (b : List ℕ) × Shows c.args.temporary.now b w.disk)) (sym c.stat.ensures.same) shows in
    subst (λ h. OnOk c.cut.result (Ended (Sees (λ q. q ≢ c.args.temporary.now)) h (g.F.Files.history c.cut.new.self))) c.stat.ensures.same
    (sees_cut _ _ _ c.args.temporary.now (now_both _ _ _ (g.met.F.Files.sound c.stat.new.self) now) c.cut.ensures.goes_on)

pub returns-in-File-clause-obstructed : goal.returns-in-File-clause-obstructed
returns-in-File-clause-obstructed g c = stat_apart _ c.args.temporary.now _ _ _ c.in-File.is c.in_ok-stat.ensures.kind

pub returns-in_default-clause-empty : goal.returns-in_default-clause-empty
returns-in_default-clause-empty g c = ok_make_shows _ _ _ c.args.temporary.now (g.met.F.Files.sound c.stat.new.self) c.make.ensures.goes_on

pub returns-in_default-clause-home : goal.returns-in_default-clause-home
returns-in_default-clause-home g c home = ok_make_home _ _ _ c.args.temporary.now (g.met.F.Files.sound c.stat.new.self) c.make.ensures.goes_on

pub returns-in_default-clause-instants : goal.returns-in_default-clause-instants
returns-in_default-clause-instants g c home =
    subst (λ h. Ran (Keeps (λ q. q ≢ c.args.temporary.now)) h (g.F.Files.history c.make.new.self)) c.stat.ensures.same
    (ran_make _ _ _ c.args.temporary.now (g.met.F.Files.sound c.stat.new.self) c.make.ensures.goes_on)

pub returns-in_default-clause-sees : goal.returns-in_default-clause-sees
returns-in_default-clause-sees g c =
    subst (λ h. OnOk c.make.result (Ended (Sees (λ q. q ≢ c.args.temporary.now)) h (g.F.Files.history c.make.new.self))) c.stat.ensures.same
    (sees_ok_make _ _ _ c.args.temporary.now (g.met.F.Files.sound c.stat.new.self) c.make.ensures.goes_on)

pub returns-in-File-clause-files : goal.returns-in-File-clause-files
returns-in-File-clause-files g c = subst (λ h. Ran (λ start instant. Unit {0}) h (g.F.Files.history c.cut.new.self)) c.stat.ensures.same (files_cut _ _ _ c.args.temporary.now 0 c.cut.ensures.goes_on)

pub returns-in_default-clause-files : goal.returns-in_default-clause-files
returns-in_default-clause-files g c = subst (λ h. Ran (λ start instant. Unit {0}) h (g.F.Files.history c.make.new.self)) c.stat.ensures.same (files_make _ _ _ _ c.make.ensures.goes_on)

pub returns-in-File-clause-directories : goal.returns-in-File-clause-directories
returns-in-File-clause-directories g c =
    subst (λ h. Ran KeepsDirectories h (g.F.Files.history c.cut.new.self)) c.stat.ensures.same (directories_cut _ _ _ c.args.temporary.now 0 (g.met.F.Files.sound c.stat.new.self) c.cut.ensures.goes_on)

pub returns-in_default-clause-directories : goal.returns-in_default-clause-directories
returns-in_default-clause-directories g c =
    subst (λ h. Ran KeepsDirectories h (g.F.Files.history c.make.new.self)) c.stat.ensures.same
    (directories_make _ _ _ c.args.temporary.now (g.met.F.Files.sound c.stat.new.self) c.make.ensures.obstructed c.make.ensures.goes_on)
