use Rattle.std.proofs.Common.{◌≡◌, ◌-◌, ◌≤◌, ◌++◌, length, drop}
use Rattle.text_lines.specs.Lines.{header_of}
use Rattle.head_fields.specs.Fields.{fields_from, fields_of}
use Rattle.head_fields.proofs.header.fields.Given as goal

abbrev pub invariant-loop-line : goal.invariant-loop-line
invariant-loop-line l = record {
  within : l.at ≤ length l.text;
  fields : l.fields.items ++ fields_from l.at (header_of (drop l.at l.text)) ≡ fields_of l.text;
}

abbrev pub decreases-loop-line : goal.decreases-loop-line
decreases-loop-line l = length l.text - l.at
