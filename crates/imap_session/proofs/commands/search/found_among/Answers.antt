use Rattle.std.proofs.Common.{refl, false, arith}
use Rattle.std.proofs.lemmas.List.{drop_all}
use Rattle.imap_session.proofs.Causes.{none_failed}
use Rattle.imap_session.proofs.Searches.{item_got, searched_on, found_all}
use Rattle.imap_session.proofs.commands.search.found_among.Goals as goal

pub loop-place-preserved : goal.loop-place-preserved
loop-place-preserved g c =
    let s = c.args.searching.now in
    record {
      searched = searched_on c.args.uid s.key.now s.largest s.recent s.words.items g.S.Store.forms (g.S.Store.view c.args.store.now) (g.S.Store.view c.loop-place.store) _ _ _ c.loop-place.place c.index-infos-place.result c.args.infos.now
          c.in_ok-is.is' _ _ _ _ (g.met.S.Store.is_view c.args.store.now) c.requires.infos
          (item_got c.args.infos.now c.loop-place.place c.index-infos-place.result c.loop-place-test.true c.index-infos-place.is) c.loop-place.invariant.searched c.in_ok-is.ensures.is c.number_at.ensures c.in-Ok.ensures
          c.in_ok-is.ensures.reads_on c.in_ok-is.ensures.history;
      faults = none_failed _ _ _ c.loop-place.invariant.faults (c.in_ok-is.ensures.cause.regular (refl {a = false}));
    }

pub returns-clause-found : goal.returns-clause-found
returns-clause-found g c =
    let s = c.args.searching.now in
    found_all c.args.uid s.key.now s.largest s.recent s.words.items g.S.Store.forms (g.S.Store.view c.args.store.now) c.of.result c.loop-place.numbers.items c.loop-place.place c.args.infos.now _ (g.met.S.Store.is_view c.args.store.now) c.requires.infos
    (drop_all c.loop-place.place c.args.infos.now (omega (arith, c.loop-place-test.false))) c.of.ensures c.loop-place.invariant.searched.found c.requires.stands
