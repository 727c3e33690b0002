use Rattle.std.proofs.Common.{◌≡◌, ◌++◌, length}
use Rattle.std.specs.List.{concat}
use Rattle.text_lines.specs.Lines.{lines_of}
use Rattle.text_forms.specs.Forms.{unreserved_lines, drop_reserved}
use Rattle.text_forms.proofs.reserved.drop_reserved.Given as goal

abbrev pub invariant-loop-line : goal.invariant-loop-line
invariant-loop-line l = l.out.items ++ concat (unreserved_lines l.dropping (lines_of l.rest)) ≡ drop_reserved l.text

abbrev pub decreases-loop-line : goal.decreases-loop-line
decreases-loop-line l = length l.rest
