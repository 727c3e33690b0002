use Rattle.std.proofs.Common.{◌≡◌, sym, ap, subst, true, Ok}
use Rattle.file_model.specs.Disk.{seen}
use Rattle.file_model.specs.Histories.{Now}
use Rattle.file_model.specs.Images.{is_directory}
use Rattle.file_model.specs.Paths.{parent, front_of}
use Rattle.file_model.proofs.Calls.{sync_dir_at}
use Rattle.file_model.proofs.Directories.{ran_remove}
use Rattle.file_model.proofs.Runs.{ran_weaker}
use Rattle.mail_tree.proofs.LeftFiles.{room_left, removed_directory, removed_settled}
use Rattle.mail_tree.proofs.emptying.remove_empty.Goals as goal

pub returns-in_err-remove_dir-clause-files : goal.returns-in_err-remove_dir-clause-files
returns-in_err-remove_dir-clause-files g c = ran_weaker (λ a b r. tt) _ _ (ran_remove c.remove_dir.result _ _ c.args.path.now c.remove_dir.ensures.goes_on)

pub returns-in_err-remove_dir-clause-kept : goal.returns-in_err-remove_dir-clause-kept
returns-in_err-remove_dir-clause-kept g c = ran_remove c.remove_dir.result _ _ c.args.path.now c.remove_dir.ensures.goes_on

pub sync_dir-requires : goal.sync_dir-requires
sync_dir-requires g c =
    subst (λ p. Now (g.F.Files.history c.remove_dir.new.self) (λ w. is_directory (seen w.disk) p ≡ true)) (sym (ap front_of c.in-Some.ensures))
    (room_left c.args.path.now (g.F.Files.history c.args.files.now) (g.F.Files.history c.remove_dir.new.self) c.in_ok-remove_dir.ensures.goes_on c.requires.below c.requires.empty (g.met.F.Files.sound c.args.files.now))

pub returns-in_err-sync_dir-clause-files : goal.returns-in_err-sync_dir-clause-files
returns-in_err-sync_dir-clause-files g c = ran_weaker (λ a b r. tt) _ _ (removed_settled c.args.path.now c.in-Some.dir.now c.remove_dir.result c.sync_dir.result _ _ _ c.remove_dir.ensures.goes_on c.sync_dir.ensures.goes_on)

pub returns-in_err-sync_dir-clause-kept : goal.returns-in_err-sync_dir-clause-kept
returns-in_err-sync_dir-clause-kept g c = removed_settled c.args.path.now c.in-Some.dir.now c.remove_dir.result c.sync_dir.result _ _ _ c.remove_dir.ensures.goes_on c.sync_dir.ensures.goes_on

pub returns-in_ok-sync_dir-clause-removed : goal.returns-in_ok-sync_dir-clause-removed
returns-in_ok-sync_dir-clause-removed g c =
    removed_directory c.args.path.now (g.F.Files.history c.args.files.now) (g.F.Files.history c.remove_dir.new.self) c.in_ok-remove_dir.ensures.goes_on (g.F.Files.history c.sync_dir.new.self)
    (sync_dir_at (Ok tt) _ _ c.in-Some.dir.now (parent c.args.path.now) (ap front_of c.in-Some.ensures) c.in_ok-sync_dir.ensures.goes_on) (g.met.F.Files.sound c.remove_dir.new.self)

pub returns-in_ok-sync_dir-clause-files : goal.returns-in_ok-sync_dir-clause-files
returns-in_ok-sync_dir-clause-files g c = ran_weaker (λ a b r. tt) _ _ (removed_settled c.args.path.now c.in-Some.dir.now c.remove_dir.result c.sync_dir.result _ _ _ c.remove_dir.ensures.goes_on c.sync_dir.ensures.goes_on)

pub returns-in_ok-sync_dir-clause-kept : goal.returns-in_ok-sync_dir-clause-kept
returns-in_ok-sync_dir-clause-kept g c = removed_settled c.args.path.now c.in-Some.dir.now c.remove_dir.result c.sync_dir.result _ _ _ c.remove_dir.ensures.goes_on c.sync_dir.ensures.goes_on
