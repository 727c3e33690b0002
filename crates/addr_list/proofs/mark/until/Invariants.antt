use Rattle.std.proofs.Common.{◌≡◌, ◌+◌, ◌-◌, ◌≤◌, not, length, drop, map}
use Rattle.std.specs.List.{prefix_len}
use Rattle.addr_list.specs.Scanning.{token_of}
use Rattle.addr_list.specs.Reading.{is_this_mark}
use Rattle.addr_list.proofs.mark.until.Given as goal

abbrev pub invariant-loop-at : goal.invariant-loop-at
invariant-loop-at l = record {
  within : l.at ≤ length l.tokens;
  passed : l.at + prefix_len (λ token. not (is_this_mark l.byte token)) (map token_of (drop l.at l.tokens)) ≡ prefix_len (λ token. not (is_this_mark l.byte token)) (map token_of l.tokens);
}

abbrev pub decreases-loop-at : goal.decreases-loop-at
decreases-loop-at l = length l.tokens - l.at
