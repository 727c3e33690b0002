use Rattle.std.proofs.Common.{◌≡◌, length}
use Rattle.mix_files.specs.Metadata.{kept_lines}
use Rattle.mix_files.proofs.line.next_line.Given as goal

abbrev pub invariant-loop-rest : goal.invariant-loop-rest
invariant-loop-rest l = kept_lines l.rest ≡ kept_lines l.text

abbrev pub decreases-loop-rest : goal.decreases-loop-rest
decreases-loop-rest l = length l.rest
