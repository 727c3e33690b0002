use Rattle.std.proofs.Common.{◌≡◌, ◌++◌, drop}
use Rattle.mail_types.specs.Opening.{numbers_from}
use Rattle.mail_types.proofs.uids.renumber.Given as goal

abbrev pub invariant-loop-uid : goal.invariant-loop-uid
invariant-loop-uid l = (l.uids ≡ numbers_from 1 l.uid-index ++ drop l.uid-index l.fn.uids) × (l.last ≡ l.uid-index)
