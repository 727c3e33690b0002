use Rattle.std.proofs.Common.{◌-◌, ◌≤◌, length, take}
use Rattle.mime_parts.specs.Values.{IsSkipped}
use Rattle.mime_parts.proofs.skip.skip_length.Given as goal

abbrev pub invariant-loop-at : goal.invariant-loop-at
invariant-loop-at l = record {
  within : l.at ≤ length l.text;
  skipped : IsSkipped (take l.at l.text);
}

abbrev pub decreases-loop-at : goal.decreases-loop-at
decreases-loop-at l = length l.text - l.at
