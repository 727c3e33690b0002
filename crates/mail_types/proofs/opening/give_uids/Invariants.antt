use Rattle.std.proofs.Common.{◌≡◌, ◌++◌, take, drop}
use Rattle.mail_types.specs.Opening.{with_uids}
use Rattle.mail_types.proofs.opening.give_uids.Given as goal

abbrev pub invariant-loop-place : goal.invariant-loop-place
invariant-loop-place l = l.records ≡ with_uids (take l.place l.uids) (take l.place l.fn.records) ++ drop l.place l.fn.records
