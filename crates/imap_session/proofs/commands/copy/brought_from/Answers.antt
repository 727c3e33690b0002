use Rattle.std.proofs.Common.{refl, false, arith}
use Rattle.std.proofs.lemmas.List.{drop_all}
use Rattle.imap_reply.proofs.Steps.{next_at}
use Rattle.imap_session.proofs.Causes.{none_failed}
use Rattle.imap_session.proofs.Copying.{reading_on, read_all}
use Rattle.imap_session.proofs.commands.copy.brought_from.Goals as goal

pub loop-place-preserved : goal.loop-place-preserved
loop-place-preserved g c = record {
  reading = reading_on _ _ _ _ _ c.in_ok-message.message _ _ _ _ _ _ _ (next_at c.args.places.now c.loop-place.place-index 0 c.loop-place-test.true) c.in-Ok.ensures c.loop-place.invariant.reading
      c.in_ok-message.ensures.gives c.in_ok-message.ensures.clean c.in_ok-message.ensures.reads_on c.in_ok-message.ensures.standing c.in_ok-message.ensures.history;
  faults = none_failed _ _ _ c.loop-place.invariant.faults (c.in_ok-message.ensures.cause.regular (refl {a = false}));
}

pub returns-clause-gives : goal.returns-clause-gives
returns-clause-gives g c = read_all (g.S.Store.view c.args.store.now) c.loop-place.brought.items _ c.args.places.now _ (drop_all c.loop-place.place-index c.args.places.now (omega (arith, c.loop-place-test.false))) c.loop-place.invariant.reading.gives
