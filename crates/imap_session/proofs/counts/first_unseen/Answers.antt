use Rattle.std.proofs.Common.{◌+◌, sym, ◌∙◌}
use Rattle.imap_session.proofs.Unseen.{seen_next, unseen_here}
use Rattle.imap_session.proofs.counts.first_unseen.Goals as goal

pub returns-then-not-info : goal.returns-then-not-info
returns-then-not-info g c = sym c.loop-place.invariant ∙ unseen_here (g.S.Store.view c.args.store.now).summary.infos c.loop-place.place c.info.result c.info.ensures (c.loop-place.place + 1) c.if-not-info.true

pub loop-place-preserved : goal.loop-place-preserved
loop-place-preserved g c = sym (seen_next (g.S.Store.view c.args.store.now).summary.infos c.loop-place.place c.info.result c.info.ensures (c.loop-place.place + 1) c.if-not-info.false) ∙ c.loop-place.invariant
