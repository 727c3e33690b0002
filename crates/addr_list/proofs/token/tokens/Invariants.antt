use Rattle.std.proofs.Common.{◌-◌, ◌≤◌, length, drop, map}
use Rattle.addr_list.specs.Scanning.{token_of}
use Rattle.addr_list.proofs.TokenLists.{Continues}
use Rattle.addr_list.proofs.token.tokens.Given as goal

abbrev pub invariant-loop-at : goal.invariant-loop-at
invariant-loop-at l = record {
  within : l.at ≤ length l.value;
  read : Continues l.value (map token_of l.tokens.items) (drop l.at l.value);
}

abbrev pub decreases-loop-at : goal.decreases-loop-at
decreases-loop-at l = length l.value - l.at
