use Rattle.std.proofs.Common.{◌≡◌, true, sym, subst}
use Rattle.file_model.specs.Disk.{seen}
use Rattle.file_model.specs.Images.{is_directory}
use Rattle.file_model.specs.Histories.{Now}
use Rattle.file_model.proofs.Calls.{sync_dir_at}
use Rattle.imapd_core.proofs.InboxMade.{made_ran, settled_ran, settled_made, still_room}
use Rattle.imapd_core.proofs.opening.make_settled.Goals as goal

pub returns-in_err-make-clause-instants : goal.returns-in_err-make-clause-instants
returns-in_err-make-clause-instants g c = made_ran c.args.path.now c.make.result _ _ (g.met.F.Files.sound c.args.files.now) c.requires.nothing c.make.ensures.goes_on

pub returns-clause-instants : goal.returns-clause-instants
returns-clause-instants g c =
    settled_ran c.args.path.now c.in_ok-make.field-0 _ _ (g.met.F.Files.sound c.args.files.now) c.requires.nothing c.in_ok-make.ensures.goes_on
    c.sync_dir.result _ (g.met.F.Files.sound c.make.new.self) (sync_dir_at c.sync_dir.result _ _ _ _ (sym c.requires.inside) c.sync_dir.ensures.goes_on)

pub returns-clause-made : goal.returns-clause-made
returns-clause-made g c =
    settled_made c.args.path.now c.in_ok-make.field-0 _ _ (g.met.F.Files.sound c.args.files.now) c.requires.nothing c.in_ok-make.ensures.goes_on
    c.sync_dir.result _ (g.met.F.Files.sound c.make.new.self) (sync_dir_at c.sync_dir.result _ _ _ _ (sym c.requires.inside) c.sync_dir.ensures.goes_on)

pub sync_dir-requires : goal.sync_dir-requires
sync_dir-requires g c =
    subst (λ dir. Now (g.F.Files.history c.make.new.self) (λ w. is_directory (seen w.disk) dir ≡ true)) c.requires.inside
    (still_room c.args.path.now c.in_ok-make.field-0 _ _ (g.met.F.Files.sound c.args.files.now) c.requires.nothing c.in_ok-make.ensures.goes_on c.requires.can)
