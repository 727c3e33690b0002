use Rattle.std.proofs.Common.{◌≡◌, ◌≤◌, ◌-◌, ◌++◌, [], false, length, drop, slice_range}
use Rattle.text_forms.proofs.Changing.{formed}
use Rattle.text_forms.proofs.line_form.changed_lines.Given as goal

abbrev pub invariant-loop-at : goal.invariant-loop-at
invariant-loop-at g l = record {
  low : l.copied ≤ l.at;
  within : l.at ≤ length l.text;
  whole : l.out.items ++ (slice_range l.text l.copied l.at ++ formed g.F.LineForm.form (drop l.at l.text)) ≡ formed g.F.LineForm.form l.text;
  none : l.is_changed ≡ false → (l.out.items ≡ []) × (l.copied ≡ 0);
}

abbrev pub decreases-loop-at : goal.decreases-loop-at
decreases-loop-at g l = length l.text - l.at
