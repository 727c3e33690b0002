use Rattle.std.proofs.Common.{refl}
use Rattle.mem_host.proofs.Remaining.{remove_remains}
use Rattle.mem_host.proofs.remains.Remains.remove.Goals as goal

pub returns : goal.returns
returns c disk is = remove_remains c.args.self.now _ _ c.args.path.now disk c.take_name.ensures.left refl c.in_ok-push.ensures.items refl refl is
