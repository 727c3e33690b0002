use Rattle.std.proofs.Common.{ap, ◌+◌}
use Rattle.mail_types.proofs.GivingUids.{number_on}
use Rattle.mail_types.proofs.uids.renumber.Goals as goal

pub loop-uid-preserved : goal.loop-uid-preserved
loop-uid-preserved c = (
  number_on c.args.uids.now c.loop-uid.uids c.loop-uid.uid-index c.loop-uid.last c.loop-uid-test.true c.loop-uid.invariant.0 c.loop-uid.invariant.1,
  ap (λ n. n + 1) c.loop-uid.invariant.1,
)
