-- What a mirror stands for, and what it keeps true.
use Rattle.std.specs.Prelude.{List}
use Rattle.mem_host.specs.Events.{Event}
use Rattle.mem_host.specs.Fitted.{AllFit}
use Rattle.mem_host.specs.Mirrored.{Mirrors}
use Rattle.mem_host.specs.Replay.{world_after}
use Rattle.mem_host.specs.declared.mirror.Mirror.TheInside.{Inside}

-- the events of its log
abbrev pub logged_events : Inside → List Event
logged_events a = a.log

-- The maps are what reads see after the events of the log, and these fit.
pub record IsMirror (a : Inside) : Type 0 where
  pub mirrors : Mirrors a.names a.contents.items (world_after a.log).disk
  pub fit : AllFit a.log
