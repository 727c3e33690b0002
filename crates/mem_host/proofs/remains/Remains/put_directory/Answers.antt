use Rattle.std.proofs.Common.{refl}
use Rattle.mem_host.proofs.Mirrored.{on_ok}
use Rattle.mem_host.proofs.Remaining.{put_directory_remains}
use Rattle.mem_host.proofs.remains.Remains.put_directory.Goals as goal

pub returns : goal.returns
returns c = on_ok c.put_name-2.result (λ puts disk none is. put_directory_remains c.args.self.now _ c.args.path.now disk c.in_ok-put_name.ensures.ok puts refl refl none is) c.put_name-2.ensures.ok
