use Rattle.std.proofs.Common.{Ok}
use Rattle.file_model.proofs.Renamed.{ok_renamed}
use Rattle.mail_tree.proofs.MovingWhole.{rename_kept, rename_sees, left_room, new_room, move_kept, move_sees}
use Rattle.mail_tree.proofs.renaming.move_one.Goals as goal

pub returns-in_err-rename-clause-kept : goal.returns-in_err-rename-clause-kept
returns-in_err-rename-clause-kept g c =
    rename_kept c.args.from.now c.args.to.now c.requires.below c.requires.under _ c.requires.can (g.met.F.Files.sound c.args.files.now) c.rename.result _ c.rename.ensures.goes_on

pub sync_move-requires-clause-left : goal.sync_move-requires-clause-left
sync_move-requires-clause-left g c =
    let sound = g.met.F.Files.sound c.args.files.now in
    left_room c.args.from.now c.args.to.now c.requires.below c.requires.under _ c.requires.can sound _
    (rename_sees c.args.from.now c.args.to.now c.requires.below c.requires.under _ c.requires.can sound (Ok tt) _ c.in_ok-rename.ensures.goes_on)

pub sync_move-requires-clause-room : goal.sync_move-requires-clause-room
sync_move-requires-clause-room g c =
    let sound = g.met.F.Files.sound c.args.files.now in
    new_room c.args.from.now c.args.to.now c.requires.below c.requires.under _ c.requires.can sound _
    (rename_sees c.args.from.now c.args.to.now c.requires.below c.requires.under _ c.requires.can sound (Ok tt) _ c.in_ok-rename.ensures.goes_on)

pub returns-in_err-sync_move-clause-kept : goal.returns-in_err-sync_move-clause-kept
returns-in_err-sync_move-clause-kept g c =
    let sound = g.met.F.Files.sound c.args.files.now in
    move_kept c.args.from.now c.args.to.now c.requires.below c.requires.under _ c.requires.can sound _ _
    (rename_kept c.args.from.now c.args.to.now c.requires.below c.requires.under _ c.requires.can sound (Ok tt) _ c.in_ok-rename.ensures.goes_on) c.sync_move.ensures.kept

pub returns-clause-moved : goal.returns-clause-moved
returns-clause-moved g c =
    let sound = g.met.F.Files.sound c.args.files.now in
    move_sees c.args.from.now c.args.to.now c.requires.below c.requires.under _ c.requires.can sound _ _ (g.met.F.Files.sound c.rename.new.self)
    (rename_sees c.args.from.now c.args.to.now c.requires.below c.requires.under _ c.requires.can sound (Ok tt) _ c.in_ok-rename.ensures.goes_on) c.in_ok-sync_move.ensures.sees

pub returns-clause-none_pending : goal.returns-clause-none_pending
returns-clause-none_pending g c = c.in_ok-sync_move.ensures.none_pending (ok_renamed (Ok tt) _ _ c.args.from.now c.args.to.now c.in_ok-rename.ensures.goes_on)

pub returns-clause-kept : goal.returns-clause-kept
returns-clause-kept g c =
    let sound = g.met.F.Files.sound c.args.files.now in
    move_kept c.args.from.now c.args.to.now c.requires.below c.requires.under _ c.requires.can sound _ _
    (rename_kept c.args.from.now c.args.to.now c.requires.below c.requires.under _ c.requires.can sound (Ok tt) _ c.in_ok-rename.ensures.goes_on) c.sync_move.ensures.kept
