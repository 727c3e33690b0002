use Rattle.std.proofs.Common.{ap, sym, ◌∙◌, ◌++◌, ◌∷◌, []}
use Rattle.imap_session.proofs.Places.{one_more}
use Rattle.imap_session.proofs.infos.infos_of.Goals as goal

pub loop-place-preserved : goal.loop-place-preserved
loop-place-preserved g c =
    c.in_ok-push.ensures.items ∙ ap (λ l. l ++ c.info.result ∷ []) c.loop-place.invariant ∙ sym (one_more _ c.loop-place.place c.info.result c.info.ensures)
