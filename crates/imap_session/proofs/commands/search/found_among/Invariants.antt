use Rattle.session_loop.specs.Outcome.{NoneFailed}
use Rattle.imap_session.proofs.Searches.{Searched}
use Rattle.imap_session.proofs.commands.search.found_among.Given as goal

abbrev pub invariant-loop-place : goal.invariant-loop-place
invariant-loop-place g l = record {
  searched : Searched l.uid l.searching.key.now l.searching.largest l.searching.recent l.searching.words.items (g.S.Store.view l.fn.store) (g.S.Store.view l.store) l.numbers.items l.place
      (g.F.Files.history l.fn.files) (g.F.Files.history l.files);
  faults : NoneFailed (g.F.Files.faults l.fn.files) (g.F.Files.faults l.files);
}
