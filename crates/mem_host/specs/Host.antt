-- What a host in memory stands for, and what it keeps true.
use Rattle.std.specs.Prelude.{◌≡◌}
use Rattle.mem_host.specs.State.{State}
use Rattle.mem_host.specs.Replay.{world_after, AllPut}
use Rattle.mem_host.specs.declared.host.MemHost.TheInside.{Inside}

-- its record, its input and its counts
abbrev pub state_of : Inside → State
state_of a = record {
  events = a.mirror;
  coming = a.input;
  fails = a.fails.items;
  calls = a.calls;
  faults = record { file = a.counts.file; hear = a.counts.hear; say = a.counts.say; read = a.counts.read };
}

-- The bytes said are those of the record, and a host of which no call was made had things put alone.
pub record IsHost (a : Inside) : Type 0 where
  pub said : a.said.items ≡ (world_after a.mirror).streams.said
  pub untouched : a.calls ≡ 0 → AllPut a.mirror
