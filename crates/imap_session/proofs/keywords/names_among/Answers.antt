use Rattle.std.proofs.Common.{ap, sym, ◌∷◌, ◌∙◌, ◌+◌, drop}
use Rattle.imap_reply.proofs.Steps.{next_at}
use Rattle.imap_session.proofs.Copying.{kept_next}
use Rattle.imap_session.proofs.keywords.names_among.Goals as goal

pub loop-name-preserved : goal.loop-name-preserved
loop-name-preserved c =
    kept_next _ _ _ _ _ _ c.name-item.result
    (next_at c.args.names.now c.loop-name.name-index c.name-item.result c.loop-name-test.true ∙ ap (λ n. n ∷ drop (c.loop-name.name-index + 1) c.args.names.now) (sym c.name-item.is))
    c.in_ok-add_if_had.ensures c.loop-name.invariant
