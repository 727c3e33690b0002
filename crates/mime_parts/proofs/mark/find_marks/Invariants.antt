use Rattle.std.proofs.Common.{◌≡◌, ◌-◌, ◌+◌, ◌≤◌, ◌++◌, length, drop}
use Rattle.text_lines.specs.Lines.{lines_of}
use Rattle.mime_parts.specs.Marks.{marks_from}
use Rattle.mime_parts.proofs.mark.find_marks.Given as goal

abbrev pub invariant-loop-at : goal.invariant-loop-at
invariant-loop-at l = record {
  within : l.at ≤ length l.text;
  few : l.lines ≤ l.at;
  counted : l.lines + length (lines_of (drop l.at l.text)) ≡ length (lines_of l.text);
  marks : l.items.items ++ marks_from l.at l.lines (lines_of (drop l.at l.text)) ≡ marks_from 0 0 (lines_of l.text);
}

abbrev pub decreases-loop-at : goal.decreases-loop-at
decreases-loop-at l = length l.text - l.at
