use Rattle.std.proofs.Common.{◌≡◌, ◌++◌, take, drop, length, false, ◌+◌}
use Rattle.mail_tree.specs.Matching.{byte_row}
use Rattle.mail_tree.proofs.matching.after_byte.Given as goal

abbrev pub invariant-loop-place : goal.invariant-loop-place
invariant-loop-place l = record {
  same : length l.row ≡ length l.name + 1;
  done : take l.place l.row ++ byte_row l.wanted l.carry (drop l.place l.row) (drop l.place l.name) ≡ byte_row l.wanted false l.fn.row l.name;
}
