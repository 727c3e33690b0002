use Rattle.std.proofs.Common.{◌+◌, ◌∙◌, refl, ap, drop, false}
use Rattle.imap_session.specs.Expunge.{expunge_lines}
use Rattle.imap_session.specs.Lines.{reply_lines}
use Rattle.imap_session.proofs.Causes.{none_failed}
use Rattle.imap_session.proofs.Expunging.{one_line, few_after}
use Rattle.imap_reply.proofs.Steps.{next_item}
use Rattle.imap_session.proofs.ManyLines.{more_put, more_stopped}
use Rattle.imap_session.proofs.commands.expunge.put_lines.Goals as goal

pub returns-in_err-put_line-clause-puts : goal.returns-in_err-put_line-clause-puts
returns-in_err-put_line-clause-puts g c =
    more_stopped _ _ _ _ _ _ _ _ _ _ _ _ c.from_residual.ensures.0
    (ap (λ l. reply_lines (expunge_lines c.loop-info.number l)) (next_item c.args.infos.now c.loop-info.info-index c.info-item.result c.loop-info-test.true c.info-item.is)
    ∙ one_line c.loop-info.number _ c.info-item.result (drop (c.loop-info.info-index + 1) c.args.infos.now) refl) c.loop-info.invariant.puts c.in_err-put_line.ensures.puts

pub loop-info-preserved : goal.loop-info-preserved
loop-info-preserved g c =
    let rest = drop (c.loop-info.info-index + 1) c.args.infos.now in
    record {
      puts = more_put _ _ _ _ _ _ _ _ _ _
          (ap (λ l. reply_lines (expunge_lines c.loop-info.number l)) (next_item c.args.infos.now c.loop-info.info-index c.info-item.result c.loop-info-test.true c.info-item.is)
          ∙ one_line c.loop-info.number _ c.info-item.result rest c.after_line-number.ensures)
          c.loop-info.invariant.puts c.in_ok-put_line.ensures.puts;
      few = few_after c.info-item.result.flags.deleted c.loop-info.number _ c.loop-info.info-index c.loop-info.invariant.few c.after_line-number.ensures;
      faults = none_failed _ _ _ c.loop-info.invariant.faults (c.in_ok-put_line.ensures.cause.regular (refl {a = false}));
    }
