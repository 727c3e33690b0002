use Rattle.std.proofs.Common.{◌∙◌, ◌++◌, ap, sym}
use Rattle.structure_text.proofs.Only.{body-only}
use Rattle.structure_text.proofs.bodies.body.Goals as goal

pub returns-clause-only : goal.returns-clause-only
returns-clause-only c other is =
    let own = c.in_ok-put_part.ensures in
    body-only c.args.text.now c.args.extended c.args.part.now own.bytes other own.is is ∙ sym (own.behind ∙ ap (λ t. t ++ own.bytes) c.new-out.ensures.items)
