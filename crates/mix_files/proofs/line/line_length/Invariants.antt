use Rattle.std.proofs.Common.{◌≡◌, ◌≤◌, ◌+◌, ◌-◌, length, drop}
use Rattle.mix_files.specs.CrlfLines.{first_line_len}
use Rattle.mix_files.proofs.line.line_length.Given as goal

abbrev pub invariant-loop-feed : goal.invariant-loop-feed
invariant-loop-feed l = record {
  within : l.from ≤ length l.text;
  value : l.from + first_line_len (drop l.from l.text) ≡ first_line_len l.text;
}

abbrev pub decreases-loop-feed : goal.decreases-loop-feed
decreases-loop-feed l = length l.text - l.from
