use Rattle.mem_host.proofs.Resting.{untouched}
use Rattle.mem_host.proofs.host.MemHost.set_input.Goals as goal

pub returns-clause-untouched : goal.returns-clause-untouched
returns-clause-untouched c = untouched c.copy_to.new.other c.in_ok-copy_to.ensures.puts
