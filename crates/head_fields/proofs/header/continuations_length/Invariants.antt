use Rattle.std.proofs.Common.{◌≡◌, ◌+◌, ◌-◌, ◌≤◌, ◌++◌, ℕ, length, take, drop}
use Rattle.std.specs.List.{concat}
use Rattle.text_lines.specs.Lines.{header_of}
use Rattle.head_fields.specs.Fields.{continuations, fields_from}
use Rattle.head_fields.proofs.header.continuations_length.Given as goal

abbrev pub invariant-loop-at : goal.invariant-loop-at
invariant-loop-at l = record {
  within : l.at ≤ length l.text;
  lines : take l.at l.text ++ concat (continuations (header_of (drop l.at l.text))) ≡ concat (continuations (header_of l.text));
  later : (from : ℕ) → fields_from from (header_of l.text) ≡ fields_from (from + l.at) (header_of (drop l.at l.text));
}

abbrev pub decreases-loop-at : goal.decreases-loop-at
decreases-loop-at l = length l.text - l.at
