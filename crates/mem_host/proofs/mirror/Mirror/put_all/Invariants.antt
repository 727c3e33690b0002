use Rattle.std.proofs.Common.{◌≡◌}
use Rattle.mem_host.specs.Replay.{said_after, AllPut}
use Rattle.mem_host.proofs.Rebuilt.{Rebuilds}
use Rattle.mem_host.proofs.mirror.Mirror.put_all.Given as goal

abbrev pub invariant-loop-path : goal.invariant-loop-path
invariant-loop-path l = record {
  puts : AllPut l.self;
  said : said_after l.self ≡ said_after l.initial.self;
  rebuilds : Rebuilds l.names l.contents l.self l.yielded;
}
