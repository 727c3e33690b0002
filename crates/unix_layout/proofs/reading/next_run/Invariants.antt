use Rattle.std.proofs.Common.{◌-◌, length}
use Rattle.unix_layout.proofs.Runs.{IsPassed}
use Rattle.unix_layout.proofs.reading.next_run.Given as goal

abbrev pub invariant-loop-whole : goal.invariant-loop-whole
invariant-loop-whole l = IsPassed l.text l.whole l.kept

abbrev pub decreases-loop-whole : goal.decreases-loop-whole
decreases-loop-whole l = length l.text - l.whole
