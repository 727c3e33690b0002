use Rattle.std.proofs.Common.{◌≡◌, ◌++◌, drop, not, nat_eq}
use Rattle.std.specs.List.{filter, list_any}
use Rattle.imap_session.proofs.commands.expunge.without.Given as goal

abbrev pub invariant-loop-uid : goal.invariant-loop-uid
invariant-loop-uid l = l.left.items ++ filter (λ uid. not (list_any (nat_eq uid) l.dropped)) (drop l.uid-index l.uids) ≡ filter (λ uid. not (list_any (nat_eq uid) l.dropped)) l.uids
