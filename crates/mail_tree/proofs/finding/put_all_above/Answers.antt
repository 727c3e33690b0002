use Rattle.std.proofs.Common.{◌∙◌, ap, sym, subst, true, ◌+◌, ◌∷◌, drop}
use Rattle.std.specs.List.{flat_map}
use Rattle.std.proofs.lemmas.List.{drop_more}
use Rattle.mail_tree.specs.Names.{prefixes}
use Rattle.mail_tree.proofs.Found.{Reaches, reaches_next}
use Rattle.mail_tree.proofs.finding.put_all_above.Goals as goal

pub loop-name-preserved : goal.loop-name-preserved
loop-name-preserved c =
    let names = c.args.names.now in
    let i = c.loop-name.name-index in
    reaches_next true c.args.pattern.now (prefixes c.name-item.result) (flat_map prefixes (drop (i + 1) names)) (flat_map prefixes names) c.args.found.now.entries c.loop-name.found.entries c.put_above.new.found.entries
    (λ m same. c.in_ok-put_above.ensures m same)
    (subst (λ l. Reaches true c.args.pattern.now (flat_map prefixes l) (flat_map prefixes names) c.args.found.now.entries c.loop-name.found.entries)
    (drop_more names i c.name-item.result c.loop-name-test.true ∙ ap (λ name. name ∷ drop (i + 1) names) (sym c.name-item.is)) c.loop-name.invariant)
