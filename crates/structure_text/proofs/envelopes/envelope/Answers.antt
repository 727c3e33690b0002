use Rattle.std.proofs.Common.{◌∙◌, ◌++◌, ap, sym, subst, slice_range}
use Rattle.structure_text.specs.Envelopes.{IsEnvelope}
use Rattle.structure_text.proofs.Only.{envelope-only}
use Rattle.structure_text.proofs.envelopes.envelope.Goals as goal

pub returns-clause-only : goal.returns-clause-only
returns-clause-only c other is =
    let own = c.in_ok-put_header_envelope.ensures in
    let first = subst (λ h. IsEnvelope h own.bytes) c.slice_of.ensures own.is in
    envelope-only (slice_range c.args.text.now c.args.head.from c.args.head.to) own.bytes other first is ∙ sym (own.behind ∙ ap (λ t. t ++ own.bytes) c.new-out.ensures.items)
