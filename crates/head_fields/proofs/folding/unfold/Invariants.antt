use Rattle.std.proofs.Common.{◌≡◌, ◌-◌, ◌≤◌, ◌++◌, length, drop}
use Rattle.std.specs.List.{flat_map}
use Rattle.text_lines.specs.Lines.{lines_of, line_text}
use Rattle.head_fields.specs.Blanks.{trim_start}
use Rattle.head_fields.proofs.folding.unfold.Given as goal

abbrev pub invariant-loop-at : goal.invariant-loop-at
invariant-loop-at l = record {
  within : l.at ≤ length l.bytes;
  trimmed : trim_start l.unfolded.items ≡ l.unfolded.items;
  texts : trim_start (l.unfolded.items ++ flat_map line_text (lines_of (drop l.at l.bytes))) ≡ trim_start (flat_map line_text (lines_of l.bytes));
}

abbrev pub decreases-loop-at : goal.decreases-loop-at
decreases-loop-at l = length l.bytes - l.at
