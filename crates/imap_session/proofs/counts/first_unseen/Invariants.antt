use Rattle.std.proofs.Common.{◌≡◌, ◌+◌, drop}
use Rattle.imap_session.specs.Select.{first_unseen}
use Rattle.imap_session.proofs.counts.first_unseen.Given as goal

-- the first of the rest is the first of all
abbrev pub invariant-loop-place : goal.invariant-loop-place
invariant-loop-place g l = first_unseen (l.place + 1) (drop l.place (g.S.Store.view l.store).summary.infos) ≡ first_unseen 1 (g.S.Store.view l.store).summary.infos
