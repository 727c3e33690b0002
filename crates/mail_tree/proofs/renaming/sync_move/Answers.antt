use Rattle.std.proofs.Common.{Ok}
use Rattle.file_model.specs.Paths.{parent}
use Rattle.mail_tree.proofs.Joined.{ok_map}
use Rattle.mail_tree.proofs.MovingWhole.{sync_kept, sync_sees, syncs_kept, syncs_see, directory_stays}
use Rattle.mail_tree.proofs.renaming.sync_move.Goals as goal

pub returns-in_err-sync_above-clause-kept : goal.returns-in_err-sync_above-clause-kept
returns-in_err-sync_above-clause-kept g c = sync_kept c.sync_above.result _ _ (parent c.args.to.now) c.sync_above.ensures.goes_on

pub returns-then-are_beside-clause-kept : goal.returns-then-are_beside-clause-kept
returns-then-are_beside-clause-kept g c = sync_kept c.sync_above.result _ _ (parent c.args.to.now) c.sync_above.ensures.goes_on

pub returns-then-are_beside-clause-sees : goal.returns-then-are_beside-clause-sees
returns-then-are_beside-clause-sees g c = sync_sees (Ok tt) _ _ (parent c.args.to.now) (g.met.F.Files.sound c.args.files.now) c.in_ok-sync_above.ensures.goes_on

pub sync_above-requires-2-clause-room : goal.sync_above-requires-2-clause-room
sync_above-requires-2-clause-room g c =
    directory_stays _ _ (parent c.args.from.now) (sync_sees (Ok tt) _ _ (parent c.args.to.now) (g.met.F.Files.sound c.args.files.now) c.in_ok-sync_above.ensures.goes_on) c.requires.left

pub returns-clause-kept : goal.returns-clause-kept
returns-clause-kept g c =
    syncs_kept _ _ _ (sync_kept c.sync_above.result _ _ (parent c.args.to.now) c.sync_above.ensures.goes_on) (sync_kept c.sync_above-2.result _ _ (parent c.args.from.now) c.sync_above-2.ensures.goes_on)

pub returns-clause-sees : goal.returns-clause-sees
returns-clause-sees g c =
    ok_map c.sync_above-2.result
    (syncs_see _ _ _ (g.met.F.Files.sound c.args.files.now) (g.met.F.Files.sound c.sync_above.new.files) (sync_sees (Ok tt) _ _ (parent c.args.to.now) (g.met.F.Files.sound c.args.files.now) c.in_ok-sync_above.ensures.goes_on))
    (sync_sees c.sync_above-2.result _ _ (parent c.args.from.now) (g.met.F.Files.sound c.sync_above.new.files) c.sync_above-2.ensures.goes_on)
