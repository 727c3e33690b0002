use Rattle.std.proofs.Common.{◌≡◌, ◌≤◌, ◌+◌, drop}
use Rattle.imap_session.specs.Select.{count_unseen}
use Rattle.imap_session.proofs.counts.count_unseen.Given as goal

-- those so far, and those of the rest
abbrev pub invariant-loop-place : goal.invariant-loop-place
invariant-loop-place g l = record {
  all : l.count + count_unseen (drop l.place (g.S.Store.view l.store).summary.infos) ≡ count_unseen (g.S.Store.view l.store).summary.infos;
  few : l.count ≤ l.place;
}
