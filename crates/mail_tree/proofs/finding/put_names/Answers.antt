use Rattle.std.proofs.Common.{◌∙◌, ap, sym, subst, false, ◌+◌, ◌∷◌, [], drop}
use Rattle.std.proofs.lemmas.List.{drop_more}
use Rattle.mail_tree.proofs.Found.{Reaches, reaches_next}
use Rattle.mail_tree.proofs.finding.put_names.Goals as goal

pub loop-name-preserved : goal.loop-name-preserved
loop-name-preserved c =
    let names = c.args.names.now in
    let i = c.loop-name.name-index in
    reaches_next false c.args.pattern.now (c.as_slice.result.now ∷ []) (drop (i + 1) names) names c.args.found.now.entries c.loop-name.found.entries c.put_if_fits.new.found.entries
    (λ m same. c.in_ok-put_if_fits.ensures m same)
    (subst (λ l. Reaches false c.args.pattern.now l names c.args.found.now.entries c.loop-name.found.entries)
    (drop_more names i c.name-item.result c.loop-name-test.true ∙ ap (λ name. name ∷ drop (i + 1) names) (sym c.name-item.is) ∙ ap (λ name. name ∷ drop (i + 1) names) (sym c.as_slice.ensures.bytes)) c.loop-name.invariant)
