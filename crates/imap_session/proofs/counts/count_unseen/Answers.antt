use Rattle.std.proofs.Common.{arith}
use Rattle.imap_session.proofs.Unseen.{seen_counts, unseen_counts}
use Rattle.imap_session.proofs.counts.count_unseen.Goals.{then-not-info, else-not-info}
use Rattle.imap_session.proofs.counts.count_unseen.Goals as goal

pub loop-place-preserved : goal.loop-place-preserved
loop-place-preserved g c =
    let infos = (g.S.Store.view c.args.store.now).summary.infos in
    elim c.if-not-info.branch [
      | then-not-info w ↦ (let next = unseen_counts infos c.loop-place.place c.info.result c.info.ensures w.if-not-info.true in record {
        all = omega (arith, next, w.count-is, c.loop-place.invariant.all);
        few = omega (arith, w.count-is, c.loop-place.invariant.few);
      })
      | else-not-info w ↦ (let next = seen_counts infos c.loop-place.place c.info.result c.info.ensures w.if-not-info.false in record {
        all = omega (arith, next, w.count-is, c.loop-place.invariant.all);
        few = omega (arith, w.count-is, c.loop-place.invariant.few);
      })
    ]
