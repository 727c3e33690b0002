use Rattle.std.proofs.Common.{◌≡◌, ◌≤◌, length}
use Rattle.status_heads.specs.Names.{words_of}
use Rattle.status_heads.proofs.names.next_word.Given as goal

abbrev pub invariant-loop-rest : goal.invariant-loop-rest
invariant-loop-rest l = record {
  words : words_of l.rest ≡ words_of l.value;
  within : length l.rest ≤ length l.value;
}

abbrev pub decreases-loop-rest : goal.decreases-loop-rest
decreases-loop-rest l = length l.rest
