use Rattle.mbx_store.proofs.Leaving.{undropped_made, rise_made, few_made}
use Rattle.mbx_store.proofs.plan.undropped.Goals as goal

pub loop-old-preserved : goal.loop-old-preserved
loop-old-preserved c = record {
  left = undropped_made _ c.loop-old.left.items _ c.args.olds.now c.loop-old.old-index c.loop-old.number _ c.args._count _ c.loop-old.rest.now _ c.is_kept.result c.loop-old-test.true c.loop-old.invariant.rise
      c.is_kept.ensures c.in_ok-put_kept.ensures c.places_behind-rest.ensures c.number_behind-number.ensures c.loop-old.invariant.left;
  rise = rise_made c.args.olds.now c.loop-old.old-index c.loop-old.number _ c.args._count _ c.loop-old.rest.now _ c.loop-old.invariant.rise c.places_behind-rest.ensures c.number_behind-number.ensures;
  few = few_made _ c.loop-old.old-index c.loop-old.number _ c.number_behind-number.ensures c.loop-old.invariant.few;
}
