use Rattle.std.proofs.Common.{sym, subst}
use Rattle.mime_parts.specs.Values.{HasParameters}
use Rattle.mime_parts.proofs.Choices.{none-left, some-left}
use Rattle.mime_parts.proofs.Readings.{Leaves, leaves-next, leaves-ends}
use Rattle.mime_parts.proofs.value.parameters.Goals as goal

pub loop-params-preserved : goal.loop-params-preserved
loop-params-preserved c =
    let text = c.args.text.now in
    let left = c.loop-params.left.now in
    let found = c.in-Some.field-0 in
    let is = some-left _ c.in_ok-name.field-0 found c.in_ok-name.ensures.some c.in-Some.is in
    subst (λ done. Leaves text done found.rest.now) (sym c.in_ok-push.ensures.items) (leaves-next text left found.name found.value found.rest.now c.loop-params.params.items c.loop-params.invariant is)

pub returns : goal.returns
returns c =
    subst (λ params. HasParameters c.args.text.now params) (sym c.of.ensures)
    (leaves-ends c.args.text.now c.loop-params.left.now c.loop-params.params.items c.loop-params.invariant (none-left _ c.in_ok-name.field-0 c.in_ok-name.ensures.none c.in_default.is))
