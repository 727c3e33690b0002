use Rattle.std.proofs.Common.{◌≡◌, ◌≤◌, length}
use Rattle.status_heads.specs.Names.{names_of, with_names}
use Rattle.status_heads.specs.Numbered.{marks_of}
use Rattle.status_heads.proofs.Marks.{joined}
use Rattle.status_heads.proofs.numbered.read_numbers.Given as goal

abbrev pub invariant-loop-word : goal.invariant-loop-word
invariant-loop-word l = record {
  same : length l.marks.items ≡ length l.names.items;
  few : length l.names.items ≤ 30;
  names : with_names l.names.items (names_of l.rest) ≡ with_names l.fn.known.items (names_of l.value);
  marks : joined l.marks.items (with_names l.names.items (names_of l.rest)) (names_of l.rest) ≡ marks_of (with_names l.names.items (names_of l.rest)) (names_of l.value);
}

abbrev pub decreases-loop-word : goal.decreases-loop-word
decreases-loop-word l = length l.rest
