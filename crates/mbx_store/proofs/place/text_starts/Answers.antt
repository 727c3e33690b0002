use Rattle.std.proofs.Common.{refl}
use Rattle.mbx_store.proofs.ScanCode.{starts_more}
use Rattle.mbx_store.proofs.place.text_starts.Goals as goal

pub loop-place-preserved : goal.loop-place-preserved
loop-place-preserved c = starts_more _ _ _ _ c.loop-place.place-index _ _ c.loop-place-test.true refl c.in_ok-put_start.ensures c.loop-place.invariant
