use Rattle.std.proofs.Common.{◌≡◌, ◌++◌, length}
use Rattle.status_heads.specs.Names.{names_of}
use Rattle.status_heads.proofs.names.read_names.Given as goal

abbrev pub invariant-loop-word : goal.invariant-loop-word
invariant-loop-word l = l.names.items ++ names_of l.rest ≡ names_of l.value

abbrev pub decreases-loop-word : goal.decreases-loop-word
decreases-loop-word l = length l.rest
