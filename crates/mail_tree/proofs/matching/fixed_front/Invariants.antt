use Rattle.std.proofs.Common.{◌≡◌, ◌<◌, take, drop, length}
use Rattle.std.specs.Prelude.{IfSome, option_map}
use Rattle.mail_tree.specs.Walks.{fixed_front}
use Rattle.mail_tree.proofs.Leading.{joined}
use Rattle.mail_tree.proofs.matching.fixed_front.Given as goal

abbrev pub invariant-loop-place : goal.invariant-loop-place
invariant-loop-place l = record {
  within : IfSome l.found (λ place. place < length l.pattern);
  front : joined (take l.place l.pattern) (option_map (λ place. take place l.pattern) l.found) (fixed_front (drop l.place l.pattern)) ≡ fixed_front l.pattern;
}
