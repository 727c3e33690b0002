use Rattle.std.proofs.Common.{◌≡◌, ◌++◌, take, drop}
use Rattle.status_heads.specs.Numbered.{mark_same}
use Rattle.status_heads.proofs.numbered.mark_same.Given as goal

abbrev pub invariant-loop-at : goal.invariant-loop-at
invariant-loop-at l = take l.at l.marks ++ mark_same (drop l.at l.names) (drop l.at l.marks) l.word ≡ mark_same l.names l.fn.marks l.word
