use Rattle.std.proofs.Common.{◌≡◌, ◌-◌, ◌≤◌, None, length, drop, map}
use Rattle.addr_list.specs.Scanning.{token_of}
use Rattle.addr_list.specs.Addresses.{behind}
use Rattle.addr_list.specs.Reading.{route_from}
use Rattle.addr_list.proofs.mailbox.route.Given as goal

abbrev pub invariant-loop-alloc : goal.invariant-loop-alloc
invariant-loop-alloc l = record {
  within : l.at ≤ length l.tokens;
  read : behind l.route.items (route_from None (map token_of (drop l.at l.tokens))) ≡ route_from None (map token_of l.tokens);
}

abbrev pub decreases-loop-alloc : goal.decreases-loop-alloc
decreases-loop-alloc l = length l.tokens - l.at
