use Rattle.std.proofs.Common.{◌≡◌, take}
use Rattle.mem_host.specs.Finding.{events_of, FindsAfter}
use Rattle.mem_host.proofs.crash.replay.Given as goal

abbrev pub invariant-loop-deed : goal.invariant-loop-deed
invariant-loop-deed l = record {
  finds : FindsAfter l.crash (events_of (take l.deed-index l.deeds));
  pick : l.crash.pick ≡ l.pick;
}
