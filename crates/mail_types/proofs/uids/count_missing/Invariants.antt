use Rattle.std.proofs.Common.{◌≡◌, ◌≤◌, ◌+◌, drop}
use Rattle.mail_types.specs.Opening.{missing}
use Rattle.mail_types.proofs.uids.count_missing.Given as goal

abbrev pub invariant-loop-uid : goal.invariant-loop-uid
invariant-loop-uid l = (l.count + missing (drop l.uid-index l.uids) ≡ missing l.uids) × (l.count ≤ l.uid-index)
