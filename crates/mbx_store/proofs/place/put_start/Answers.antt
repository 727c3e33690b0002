use Rattle.mbx_store.proofs.ScanCode.{start_there, start_none}
use Rattle.mbx_store.proofs.place.put_start.Goals as goal

pub returns-in_ok-push : goal.returns-in_ok-push
returns-in_ok-push c = start_there c.args.starts.now.items _ c.args.place.now _ c.is_marked.ensures c.if-not-is_marked.true c.in_ok-push.ensures.items

pub returns-else-not-is_marked : goal.returns-else-not-is_marked
returns-else-not-is_marked c = start_none c.args.starts.now.items c.args.place.now _ c.is_marked.ensures c.if-not-is_marked.false
