use Rattle.std.proofs.Common.{◌≡◌, ◌-◌, ◌+◌, ◌≤◌, length, drop, nat_lt}
use Rattle.std.specs.List.{prefix_len}
use Rattle.mime_parts.proofs.mark.marks_before.Given as goal

abbrev pub invariant-loop-count : goal.invariant-loop-count
invariant-loop-count l = (l.count ≤ length l.marks) × (l.count + prefix_len (λ mark. nat_lt mark.at l.at) (drop l.count l.marks) ≡ prefix_len (λ mark. nat_lt mark.at l.at) l.marks)

abbrev pub decreases-loop-count : goal.decreases-loop-count
decreases-loop-count l = length l.marks - l.count
