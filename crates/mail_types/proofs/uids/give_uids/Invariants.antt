use Rattle.std.proofs.Common.{◌≡◌, ◌+◌, ◌++◌, take, drop}
use Rattle.mail_types.specs.Opening.{given_uids, missing}
use Rattle.mail_types.proofs.uids.give_uids.Given as goal

abbrev pub invariant-loop-uid : goal.invariant-loop-uid
invariant-loop-uid l = (l.uids ≡ given_uids (l.highest + 1) (take l.uid-index l.fn.uids) ++ drop l.uid-index l.fn.uids)
    × (l.last ≡ l.highest + missing (take l.uid-index l.fn.uids))
