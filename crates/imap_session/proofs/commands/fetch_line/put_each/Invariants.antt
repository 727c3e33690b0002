use Rattle.std.proofs.Common.{ℕ, List, drop}
use Rattle.session_loop.specs.Outcome.{NoneFailed}
use Rattle.imap_session.specs.Told.{told_lines}
use Rattle.imap_session.proofs.ManyLines.{PutsBut}
use Rattle.imap_session.proofs.commands.fetch_line.put_each.Given as goal

abbrev pub invariant-loop-place : goal.invariant-loop-place
invariant-loop-place g l = record {
  puts : (texts : ℕ → List ℕ) → PutsBut (told_lines texts l.looking.items.now l.looking.words.now l.looking.recent.now l.looking.infos.now l.places)
      (told_lines texts l.looking.items.now l.looking.words.now l.looking.recent.now l.looking.infos.now (drop l.place-index l.places)) l.fn.out l.out (g.H.Files.history l.fn.host) (g.H.Files.history l.host);
  faults : NoneFailed (g.H.Files.faults l.fn.host) (g.H.Files.faults l.host);
}
