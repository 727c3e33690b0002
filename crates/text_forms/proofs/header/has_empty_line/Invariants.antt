use Rattle.std.proofs.Common.{◌≡◌, length}
use Rattle.text_forms.specs.Forms.{has_empty_line}
use Rattle.text_forms.proofs.header.has_empty_line.Given as goal

abbrev pub invariant-loop-rest : goal.invariant-loop-rest
invariant-loop-rest l = has_empty_line l.rest ≡ has_empty_line l.text

abbrev pub decreases-loop-rest : goal.decreases-loop-rest
decreases-loop-rest l = length l.rest
