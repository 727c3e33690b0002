use Rattle.mail_types.proofs.GivingUids.{give_on, room_on}
use Rattle.mail_types.proofs.uids.give_uids.Goals as goal

pub give_uid-last-requires : goal.give_uid-last-requires
give_uid-last-requires c = room_on c.args.uids.now c.loop-uid.uids c.loop-uid.uid-index c.args.highest c.loop-uid.last c.loop-uid-test.true c.loop-uid.invariant c.requires

pub loop-uid-preserved : goal.loop-uid-preserved
loop-uid-preserved c = give_on c.args.uids.now c.loop-uid.uids c.loop-uid.uid-index c.args.highest c.loop-uid.last c.loop-uid-test.true c.loop-uid.invariant
    c.give_uid-last.new.uid c.give_uid-last.result c.give_uid-last.ensures.given c.give_uid-last.ensures.last
