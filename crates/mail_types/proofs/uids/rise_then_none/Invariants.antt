use Rattle.std.proofs.Common.{◌≡◌, drop}
use Rattle.mail_types.specs.Opening.{rise_then_none}
use Rattle.mail_types.proofs.uids.rise_then_none.Given as goal

abbrev pub invariant-loop-place : goal.invariant-loop-place
invariant-loop-place l = rise_then_none l.above (drop l.place l.uids) ≡ rise_then_none 0 l.uids
