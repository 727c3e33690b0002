use Rattle.mem_host.proofs.Remaining.{remains_empty}
use Rattle.mem_host.proofs.remains.Remains.new.Goals as goal

pub returns : goal.returns
returns c = remains_empty _ c.new.ensures.empty c.new-2.ensures.empty c.new-3.ensures.items c.new-4.ensures.items
