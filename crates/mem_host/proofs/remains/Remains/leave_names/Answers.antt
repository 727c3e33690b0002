use Rattle.mem_host.proofs.Mirrored.{on_ok}
use Rattle.mem_host.proofs.Remaining.{leaves_names}
use Rattle.mem_host.proofs.remains.Remains.leave_names.Goals as goal

pub returns-clause-names : goal.returns-clause-names
returns-clause-names c = on_ok c.operate_all.result (λ done disk is. leaves_names c.args.self.now c.operate_all.new.names c.args.count disk c.deref.result.now c.deref.ensures.value c.requires done is) c.operate_all.ensures
