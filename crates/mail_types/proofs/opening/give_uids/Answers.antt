use Rattle.mail_types.proofs.GivingUids.{uids_on}
use Rattle.mail_types.proofs.opening.give_uids.Goals as goal

pub loop-place-preserved : goal.loop-place-preserved
loop-place-preserved c = uids_on c.args.uids.now c.args.records.now c.loop-place.records c.loop-place.place c.index-records-place.result c.loop-place-test.true c.requires c.loop-place.invariant
