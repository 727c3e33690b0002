use Rattle.std.proofs.Common.{◌≡◌, ◌≤◌, take}
use Rattle.mem_host.specs.Crashes.{calls_in}
use Rattle.mem_host.specs.Finding.{events_of}
use Rattle.mem_host.proofs.crash.place_of_call.Given as goal

abbrev pub invariant-loop-at : goal.invariant-loop-at
invariant-loop-at l = record {
  counted : l.calls ≡ calls_in (events_of (take l.at l.deeds));
  before : l.calls ≤ l.call;
  within : l.calls ≤ l.at;
}
