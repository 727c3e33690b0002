use Rattle.std.proofs.Common.{◌∙◌, sym, subst}
use Rattle.file_model.specs.Disk.{Disk, after}
use Rattle.mem_host.specs.Deeds.{call_of_step}
use Rattle.mem_host.specs.Remains.{IsRemains, IsTidy, CanStep}
use Rattle.mem_host.proofs.Found.{can_step, finds_in_call}
use Rattle.mem_host.proofs.crash.Crash.stop_in_step.Goals as goal

pub step-requires : goal.step-requires
step-requires c = subst (λ call. CanStep call c.args.self.now.remains) (sym c.request.ensures) (can_step (call_of_step c.args.step.now) c.args.self.now c.requires)

pub returns : goal.returns
returns c earlier fit finds =
    let old = c.args.self.now in let call = call_of_step c.args.step.now in
    finds_in_call call old c.step.new.self earlier
    (subst (λ k. (disk : Disk) → IsRemains old.remains disk → IsTidy disk → IsRemains c.step.new.self (after k disk)) c.request.ensures c.in_ok-step.ensures) (sym c.is_sync.ensures ∙ c.if-is_sync.false) fit finds
