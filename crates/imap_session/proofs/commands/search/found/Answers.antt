use Rattle.std.proofs.Common.{◌∙◌}
use Rattle.imap_session.proofs.Searches.{found_ok}
use Rattle.imap_session.proofs.commands.search.found.Goals as goal

pub returns-clause-found : goal.returns-clause-found
returns-clause-found g c =
    let told = c.in-Ok-search_for.ensures in
    let s = c.in-Ok-search_for.searching in
    found_ok g.S.Store.forms (g.S.Store.view c.args.store.now) c.args.uid c.args.key.now s.key.now s.largest s.recent c.args.recent.now s.words.items c.as_slice.result.now c.found_among.result _
    (g.met.S.Store.is_view c.args.store.now) c.requires.stands (c.as_slice.ensures.value ∙ c.in-Ok.ensures.are) (told.words ∙ c.words-words.ensures.are) told.key told.largest told.recent c.found_among.ensures.found
