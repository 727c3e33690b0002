use Rattle.std.proofs.Common.{◌≡◌, take}
use Rattle.imap_session.proofs.infos.infos_of.Given as goal

abbrev pub invariant-loop-place : goal.invariant-loop-place
invariant-loop-place g l = l.infos.items ≡ take l.place (g.S.Store.view l.store).summary.infos
