use Rattle.std.proofs.Common.{sym, subst}
use Rattle.mem_host.specs.Mirrored.{Mirrors}
use Rattle.mem_host.specs.Fitted.{AllFit}
use Rattle.mem_host.specs.Replay.{world_after}
use Rattle.mem_host.proofs.Mirrored.{mirrors_empty}
use Rattle.mem_host.proofs.mirror.Mirror.new.Goals as goal

pub invariant_of-result : goal.invariant_of-result
invariant_of-result c = record {
  mirrors = subst (λ events. Mirrors c.new.result c.new-2.result.items (world_after events).disk) (sym c.new-3.ensures) (mirrors_empty c.new.result c.new-2.result.items c.new.ensures.empty c.new-2.ensures.items);
  fit = subst AllFit (sym c.new-3.ensures) tt;
}
