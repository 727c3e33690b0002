use Rattle.std.proofs.Common.{sym, ◌∙◌, ap, subst, ◌++◌, ◌∷◌, []}
use Rattle.mail_tree.specs.Names.{IsName}
use Rattle.mail_tree.specs.Walks.{leads}
use Rattle.mail_tree.specs.Listing.{fits_name}
use Rattle.mail_tree.proofs.Walking.{path_named, path_unnamed, name_same, unnamed_now, unfit_now, put_now, unnamed_lead, unled_lead, other_lead, plain_lead}
use Rattle.mail_tree.proofs.listing.look_for.Goals as goal

pub returns-in_default-clause-found : goal.returns-in_default-clause-found
returns-in_default-clause-found g c =
    let w = c.requires.below in
    unnamed_now c.args.root.now c.args.pattern.now c.args.path.now w.name w.whole _ c.args.found.now.entries
    (path_unnamed c.args.root.now c.args.path.now c.behind.result.now w c.behind.ensures (sym c.in_ok-name.ensures ∙ c.in_default.is))

pub returns-then-not-fits-clause-found : goal.returns-then-not-fits-clause-found
returns-then-not-fits-clause-found g c =
    let one = path_named c.args.root.now c.args.path.now c.behind.result.now c.in-Some.name c.requires.below c.behind.ensures (sym c.in_ok-name.ensures ∙ c.in-Some.is) in
    unfit_now c.args.root.now c.args.pattern.now c.args.path.now c.in-Some.name one.0 _
    (ap (fits_name c.args.pattern.now) (sym c.as_slice.ensures.bytes) ∙ sym c.fits.ensures ∙ c.if-not-fits.true) c.args.found.now.entries

pub returns-then-not-is_plain-clause-found : goal.returns-then-not-is_plain-clause-found
returns-then-not-is_plain-clause-found g c =
    let one = path_named c.args.root.now c.args.path.now c.behind.result.now c.in-Some.name c.requires.below c.behind.ensures (sym c.in_ok-name.ensures ∙ c.in-Some.is) in
    put_now c.args.root.now c.args.pattern.now c.args.path.now c.in-Some.name one.0 _ c.in_ok-sight.sight one.1 c.args.found.now.entries c.put_seen.new.found.entries
    c.in_ok-sight.ensures.value (c.requires.seen c.in-Some.name one.0) (λ m same. c.in_ok-put_seen.ensures m same)

pub returns-clause-found : goal.returns-clause-found
returns-clause-found g c =
    let one = path_named c.args.root.now c.args.path.now c.behind.result.now c.in-Some.name c.requires.below c.behind.ensures (sym c.in_ok-name.ensures ∙ c.in-Some.is) in
    put_now c.args.root.now c.args.pattern.now c.args.path.now c.in-Some.name one.0 _ c.in_ok-sight.sight one.1 c.args.found.now.entries c.put_seen.new.found.entries
    c.in_ok-sight.ensures.value (c.requires.seen c.in-Some.name one.0) (λ m same. c.in_ok-put_seen.ensures m same)

pub returns-in_default-clause-enters : goal.returns-in_default-clause-enters
returns-in_default-clause-enters g c = λ name whole.
    unnamed_lead c.args.root.now c.args.pattern.now c.args.path.now name whole _
    (path_unnamed c.args.root.now c.args.path.now c.behind.result.now (record { name = name; whole = whole }) c.behind.ensures (sym c.in_ok-name.ensures ∙ c.in_default.is))

pub returns-then-not-fits-clause-enters : goal.returns-then-not-fits-clause-enters
returns-then-not-fits-clause-enters g c = λ name whole.
    let same = name_same c.args.root.now c.args.path.now c.behind.result.now c.in-Some.name c.behind.ensures (sym c.in_ok-name.ensures ∙ c.in-Some.is) name whole in
    unled_lead c.args.root.now c.args.pattern.now c.args.path.now name whole _ (ap (λ n. leads c.args.pattern.now (n ++ 47 ∷ [])) (sym same) ∙ sym c.in_ok-leads.ensures ∙ c.if-not-leads.true)

pub returns-then-not-is_plain-clause-enters : goal.returns-then-not-is_plain-clause-enters
returns-then-not-is_plain-clause-enters g c = λ name whole.
    other_lead c.args.root.now c.args.pattern.now c.args.path.now name whole _ c.in_ok-sight.sight c.in_ok-sight.ensures.value (sym c.is_plain.ensures ∙ c.if-not-is_plain.true)

pub returns-clause-enters : goal.returns-clause-enters
returns-clause-enters g c = λ name whole.
    let one = path_named c.args.root.now c.args.path.now c.behind.result.now c.in-Some.name c.requires.below c.behind.ensures (sym c.in_ok-name.ensures ∙ c.in-Some.is) in
    let same = name_same c.args.root.now c.args.path.now c.behind.result.now c.in-Some.name c.behind.ensures (sym c.in_ok-name.ensures ∙ c.in-Some.is) name whole in
    plain_lead c.args.root.now c.args.pattern.now c.args.path.now name whole _ c.in_ok-leads.leads (c.in_ok-leads.ensures ∙ ap (λ n. leads c.args.pattern.now (n ++ 47 ∷ [])) same) (subst IsName same one.1)
    c.in_ok-sight.sight c.in_ok-sight.ensures.value (sym c.is_plain.ensures ∙ c.if-not-is_plain.false)
