use Rattle.std.proofs.Common.{◌≡◌, max, drop}
use Rattle.mail_types.specs.Opening.{greatest}
use Rattle.mail_types.proofs.uids.greatest.Given as goal

abbrev pub invariant-loop-uid : goal.invariant-loop-uid
invariant-loop-uid l = max l.found (greatest (drop l.uid-index l.uids)) ≡ greatest l.uids
