use Rattle.std.proofs.Common.{ap, ◌∙◌, ◌+◌, ◌*◌}
use Rattle.imap_arguments.proofs.Digits.{capped_step}
use Rattle.imap_arguments.proofs.number.capped_value.Goals as goal

pub loop-digit-preserved : goal.loop-digit-preserved
loop-digit-preserved c =
    c.min-value.ensures
    ∙ capped_step c.args.digits.now c.loop-digit.digit-index c.loop-digit.value _ c.loop-digit-test.true c.loop-digit.invariant
    (ap (λ d. 10 * c.loop-digit.value + d) (c.from.ensures ∙ c.saturating_sub.ensures))
