use Rattle.std.proofs.Common.{◌∙◌, ◌++◌, ap, sym}
use Rattle.looked_message.specs.Messages.{looked_at}
use Rattle.body_sections.proofs.Only.{item-only}
use Rattle.body_sections.proofs.items.item.Goals as goal

pub returns-clause-only : goal.returns-clause-only
returns-clause-only c other is =
    let own = c.in_ok-put_item.ensures in
    item-only c.args.item.now (looked_at c.args.message.now) own.bytes other own.is is ∙ sym (own.behind ∙ ap (λ t. t ++ own.bytes) c.new-out.ensures.items)
