use Rattle.std.proofs.Common.{refl}
use Rattle.std.proofs.lemmas.Option.{slice_get_read}
use Rattle.imap_session.specs.Lines.{reply_lines}
use Rattle.imap_session.specs.Putting.{PutsLines}
use Rattle.imap_session.proofs.Causes.{none_failed}
use Rattle.imap_session.proofs.Saying.{put_one, put_none, none_said, stops_so}
use Rattle.imap_session.proofs.lines.put_replies.Goals as goal

pub returns-in_err-put-clause-puts : goal.returns-in_err-put-clause-puts
returns-in_err-put-clause-puts g c =
    stops_so (λ result. PutsLines (reply_lines c.args.lines.now) c.args.out.now c.put.new.self result (g.H.Files.history c.args.host.now) (g.H.Files.history c.put.new.host)) c.from_residual.result c.in_err-put.field-0.0 c.from_residual.ensures.1
    (put_none c.args.lines.now c.loop-line.line-index c.line-item.result (slice_get_read c.args.lines.now _ c.loop-line.line-index c.line-item.result refl c.loop-line-test.true c.line-item.is) c.args.out.now c.loop-line.out c.put.new.self _ _ _ _ c.loop-line.invariant.puts c.in_err-put.ensures.puts)

pub loop-line-preserved : goal.loop-line-preserved
loop-line-preserved g c = record {
  puts = put_one c.args.lines.now c.loop-line.line-index c.line-item.result (slice_get_read c.args.lines.now _ c.loop-line.line-index c.line-item.result refl c.loop-line-test.true c.line-item.is) c.args.out.now c.loop-line.out c.put.new.self _ _ _ c.loop-line.invariant.puts c.in_ok-put.ensures.puts;
  faults = none_failed _ _ _ c.loop-line.invariant.faults (none_said _ _ _ c.in_ok-put.ensures.cause);
}
