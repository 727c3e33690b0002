use Rattle.std.proofs.Common.{sym, ◌∙◌, ap}
use Rattle.any_store.specs.Choice.{formats_of, chosen}
use Rattle.imap_session.specs.Asking.{is_named}
use Rattle.imap_session.proofs.Askings.{says_selected, says_opened}
use Rattle.imap_session.proofs.commands.status.asked_line.Goals as goal

pub returns-in_ok-line_of-in-Some-clause-says : goal.returns-in_ok-line_of-in-Some-clause-says
returns-in_ok-line_of-in-Some-clause-says g c =
    says_selected (formats_of g.S.Store.forms chosen) g.S.Store.view c.args.session.now c.args.name c.args.items.now c.in-Some.open.now (g.met.S.Store.is_view c.in-Some.open.now.store)
    c.in_ok-line_of-in-Some.field-0 c.in_ok-line_of-in-Some.ensures c.in-Some.ensures.selected (sym (c.in-Some.ensures.named ∙ ap (λ s. is_named s c.args.name) c.in-Some.ensures.selected)) _

pub returns-in_ok-line_of-in-None-clause-says : goal.returns-in_ok-line_of-in-None-clause-says
returns-in_ok-line_of-in-None-clause-says g c =
    says_opened (formats_of g.S.Store.forms chosen) g.S.Store.view c.args.session.now c.args.name c.args.items.now c.in_ok-open-in-None.open (g.met.S.Store.is_view c.in_ok-open-in-None.open.store)
    c.in_ok-line_of-in-None.field-0 c.in_ok-line_of-in-None.ensures (sym c.in-None.ensures.named) _ c.in_ok-open-in-None.ensures.opened
