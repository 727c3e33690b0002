use Rattle.std.proofs.Common.{◌≤◌, ◌++◌, length, min, append-nil, ap, sym, ◌∙◌, arith}
use Rattle.unix_layout.proofs.Messages.{messages_end}
use Rattle.unix_layout.proofs.writing.put_messages.Goals as goal

pub returns : goal.returns
returns c =
    let out = c.loop-place.out.items in
    let infos = c.args.infos.now in
    let texts = c.args.texts.now in
    let past : min (length infos) (length texts) ≤ c.loop-place.place = omega (arith, c.min-count.ensures, c.loop-place-test.false) in
    sym (ap (λ t. out ++ t) (messages_end c.args.names.now c.loop-place.place infos texts past) ∙ append-nil out) ∙ c.loop-place.invariant
