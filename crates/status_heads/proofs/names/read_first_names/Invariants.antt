use Rattle.std.proofs.Common.{◌≡◌, [], length}
use Rattle.status_heads.specs.Names.{words_of, with_names}
use Rattle.status_heads.proofs.names.read_first_names.Given as goal

abbrev pub invariant-loop-word : goal.invariant-loop-word
invariant-loop-word l = with_names l.names.items (words_of l.rest) ≡ with_names [] (words_of l.value)

abbrev pub decreases-loop-word : goal.decreases-loop-word
decreases-loop-word l = length l.rest
