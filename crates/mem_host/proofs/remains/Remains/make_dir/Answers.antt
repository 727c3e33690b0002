use Rattle.std.proofs.Common.{refl}
use Rattle.mem_host.proofs.Remaining.{make_dir_remains}
use Rattle.mem_host.proofs.remains.Remains.make_dir.Goals as goal

pub returns : goal.returns
returns c disk is = make_dir_remains c.args.self.now _ _ c.args.path.now disk c.in_ok-put_name.ensures.ok refl c.in_ok-push.ensures.items refl refl is
