use Rattle.std.proofs.Common.{take, Ok}
use Rattle.session_loop.specs.Outcome.{NoneFailed}
use Rattle.imap_session.specs.Lines.{reply_lines}
use Rattle.imap_session.specs.Putting.{PutsLines}
use Rattle.imap_session.proofs.lines.put_replies.Given as goal

abbrev pub invariant-loop-line : goal.invariant-loop-line
invariant-loop-line g l = record {
  puts : PutsLines (reply_lines (take l.line-index l.lines)) l.fn.out l.out (Ok tt) (g.H.Files.history l.fn.host) (g.H.Files.history l.host);
  faults : NoneFailed (g.H.Files.faults l.fn.host) (g.H.Files.faults l.host);
}
