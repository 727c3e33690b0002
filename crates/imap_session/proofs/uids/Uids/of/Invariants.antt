use Rattle.std.proofs.Common.{◌≡◌, ℕ, nat_eq, take}
use Rattle.std.specs.List.{list_any}
use Rattle.imap_session.proofs.uids.Uids.of.Given as goal

abbrev pub invariant-loop-uid : goal.invariant-loop-uid
invariant-loop-uid l = (other : ℕ) → list_any (nat_eq other) l.set.keys ≡ list_any (nat_eq other) (take l.uid-index l.list)
