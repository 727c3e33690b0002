use Rattle.std.proofs.Common.{◌≤◌, ◌+◌, drop}
use Rattle.session_loop.specs.Outcome.{NoneFailed}
use Rattle.imap_session.specs.Expunge.{expunge_lines}
use Rattle.imap_session.specs.Lines.{reply_lines}
use Rattle.imap_session.proofs.ManyLines.{PutsBut}
use Rattle.imap_session.proofs.commands.expunge.put_lines.Given as goal

abbrev pub invariant-loop-info : goal.invariant-loop-info
invariant-loop-info g l = record {
  puts : PutsBut (reply_lines (expunge_lines 1 l.infos)) (reply_lines (expunge_lines l.number (drop l.info-index l.infos))) l.fn.out l.out (g.H.Files.history l.fn.host) (g.H.Files.history l.host);
  few : l.number ≤ l.info-index + 1;
  faults : NoneFailed (g.H.Files.faults l.fn.host) (g.H.Files.faults l.host);
}
