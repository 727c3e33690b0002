use Rattle.std.proofs.Common.{◌≡◌, ◌++◌, take, drop, length, false, ◌+◌}
use Rattle.mail_tree.specs.Matching.{any_row, goes_on}
use Rattle.mail_tree.proofs.matching.after_any.Given as goal

abbrev pub invariant-loop-place : goal.invariant-loop-place
invariant-loop-place l = record {
  same : length l.row ≡ length l.name + 1;
  done : take l.place l.row ++ any_row (goes_on l.slash) l.carry (drop l.place l.row) (drop l.place l.name) ≡ any_row (goes_on l.slash) false l.fn.row l.name;
}
