use Rattle.std.proofs.Common.{◌≡◌, ◌+◌, ◌-◌, ◌≤◌, length, drop, map}
use Rattle.std.specs.List.{prefix_len}
use Rattle.addr_list.specs.Scanning.{token_of}
use Rattle.addr_list.specs.Reading.{is_part}
use Rattle.addr_list.proofs.mark.parts_length.Given as goal

abbrev pub invariant-loop-at : goal.invariant-loop-at
invariant-loop-at l = record {
  within : l.at ≤ length l.tokens;
  passed : l.at + prefix_len is_part (map token_of (drop l.at l.tokens)) ≡ prefix_len is_part (map token_of l.tokens);
}

abbrev pub decreases-loop-at : goal.decreases-loop-at
decreases-loop-at l = length l.tokens - l.at
