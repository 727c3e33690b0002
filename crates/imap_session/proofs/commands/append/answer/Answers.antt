use Rattle.std.proofs.Common.{sym, ◌∙◌}
use Rattle.any_store.specs.Choice.{formats_of, chosen}
use Rattle.imap_reply.specs.declared.text.Words.TheVariants as words
use Rattle.imap_session.specs.Adding.{append, add}
use Rattle.imap_session.specs.Standing.{StandsFor}
use Rattle.imap_session.specs.State.{or_leaves}
use Rattle.imap_session.proofs.AddedHere.{leads_to_add}
use Rattle.imap_session.proofs.Doing.{does_as}
use Rattle.imap_session.proofs.Stopping.{stops_at}
use Rattle.imap_session.proofs.commands.append.answer.Goals as goal

pub returns-in_err-brought-clause-does : goal.returns-in_err-brought-clause-does
returns-in_err-brought-clause-does g c = stops_at _ _ _ _ _ _ _ _ c.from_residual-in_err-brought.ensures.1

pub returns-clause-does : goal.returns-clause-does
returns-clause-does g c =
    let formats = formats_of g.S.Store.forms chosen in
    let view = g.S.Store.view in
    let session = c.args.session.now in
    does_as formats (StandsFor formats view session) (StandsFor formats view c.add.new.session)
    (λ state. or_leaves state (add formats c.args.tag words.Append state c.in-Some.name c.in_ok-brought.brought.items c.as_slice.result.now))
    (append formats c.args.tag c.args.name.now c.args.flags.now c.args.stamp c.args.text.now) c.add.result c.add.new.out _ _
    (leads_to_add formats view session c.args.tag c.args.name.now c.in-Some.name c.args.flags.now c.args.stamp c.args.text.now c.in_ok-brought.brought.items c.as_slice.result.now
    (sym c.in_ok-name.ensures ∙ c.in-Some.is) c.in_ok-brought.ensures c.as_slice.ensures)
    c.add.ensures.does
