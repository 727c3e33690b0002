use Rattle.std.proofs.Common.{false, refl, ap}
use Rattle.imap_session.specs.Told.{told_lines}
use Rattle.imap_session.proofs.Causes.{none_failed}
use Rattle.imap_reply.proofs.Steps.{next_at}
use Rattle.imap_session.proofs.ManyLines.{more_put, more_stopped}
use Rattle.imap_session.proofs.commands.fetch_line.put_each.Goals as goal

pub returns-in_err-put_line-clause-puts : goal.returns-in_err-put_line-clause-puts
returns-in_err-put_line-clause-puts g c texts =
    let l = c.args.looking.now in
    more_stopped _ _ _ _ _ _ _ _ _ _ _ _ c.from_residual.ensures.0
    (ap (λ p. told_lines texts l.items.now l.words.now l.recent.now l.infos.now p) (next_at c.args.places.now c.loop-place.place-index 0 c.loop-place-test.true))
    (c.loop-place.invariant.puts texts) (c.in_err-put_line.ensures.puts texts)

pub loop-place-preserved : goal.loop-place-preserved
loop-place-preserved g c =
    let l = c.args.looking.now in
    record {
      puts = λ texts. more_put _ _ _ _ _ _ _ _ _ _
          (ap (λ p. told_lines texts l.items.now l.words.now l.recent.now l.infos.now p) (next_at c.args.places.now c.loop-place.place-index 0 c.loop-place-test.true))
          (c.loop-place.invariant.puts texts) (c.in_ok-put_line.ensures.puts texts);
      faults = none_failed _ _ _ c.loop-place.invariant.faults (c.in_ok-put_line.ensures.cause.regular (refl {a = false}));
    }
