-- What a log stands for, and what it keeps true.
use Rattle.std.specs.Prelude.{List, ◌≡◌, map, reverse, false}
use Rattle.mem_host.specs.Events.{Event}
use Rattle.mem_host.specs.Deeds.{event_of_deed}
use Rattle.mem_host.specs.declared.log.Log.TheInside.{Inside}

-- the events of its record
abbrev pub logged : Inside → List Event
logged a = a.record.events

-- unless it lost one, its deeds are these events, the oldest first
pub record IsLog (a : Inside) : Type 0 where
  pub whole : a.lost ≡ false → map event_of_deed a.deeds.items ≡ reverse a.record.events
