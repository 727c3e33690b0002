use Rattle.std.proofs.Common.{drop}
use Rattle.session_loop.specs.Outcome.{NoneFailed}
use Rattle.imap_session.proofs.Copying.{Reading}
use Rattle.imap_session.proofs.commands.copy.brought_from.Given as goal

abbrev pub invariant-loop-place : goal.invariant-loop-place
invariant-loop-place g l = record {
  reading : Reading (g.S.Store.view l.fn.store) (g.S.Store.view l.store) l.brought.items (drop l.place-index l.places) l.places (g.F.Files.history l.fn.files) (g.F.Files.history l.files);
  faults : NoneFailed (g.F.Files.faults l.fn.files) (g.F.Files.faults l.files);
}
