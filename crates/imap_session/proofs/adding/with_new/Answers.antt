use Rattle.std.proofs.Common.{arith}
use Rattle.imap_session.proofs.Additions.{more_recent}
use Rattle.imap_session.proofs.adding.with_new.Goals as goal

pub loop-preserved : goal.loop-preserved
loop-preserved c = record {
  uid = grind (arith, c.saturating_add-uid.ensures, c.loop.invariant.uid);
  all = more_recent c.args.recent.now c.loop.all.items c.push.new.self.items c.args.last c.loop.counter c.loop.uid c.saturating_add-uid.result c.loop.invariant.all c.loop.invariant.uid c.saturating_add-uid.ensures c.in_ok-push.ensures.items;
}
