use Rattle.std.proofs.Common.{refl, sym, ◌∙◌, ap}
use Rattle.any_store.specs.Choice.{formats_of, chosen}
use Rattle.imap_reply.specs.declared.reply.Reply.TheVariants as reply
use Rattle.imap_reply.specs.declared.text.NoText.TheVariants as no
use Rattle.session_loop.specs.declared.answers.Stop.TheVariants.{Memory}
use Rattle.imap_session.specs.Adding.{copy, names_among}
use Rattle.imap_session.proofs.ByName.{none_read, ended_does}
use Rattle.imap_session.proofs.Copying.{none_there, no_name, named_below, copy_does}
use Rattle.imap_session.proofs.Readings.{some_behind}
use Rattle.imap_session.proofs.StoreSaid.{refused_back}
use Rattle.imap_session.proofs.Stopping.{stops_at}
use Rattle.imap_session.proofs.commands.copy.answer.Goals as goal

pub returns-in_err-told-clause-does : goal.returns-in_err-told-clause-does
returns-in_err-told-clause-does g c = stops_at _ _ _ _ _ _ _ _ c.from_residual.ensures.1

pub returns-then-names_missing-clause-does : goal.returns-then-names_missing-clause-does
returns-then-names_missing-clause-does g c =
    let formats = formats_of g.S.Store.forms chosen in
    let taken = sym c.take.ensures.value ∙ c.in-Some.is in
    refused_back formats g.S.Store.view c.args.session.now _ (copy formats c.args.tag c.args.uid c.args.set.now c.args.name.now) (reply.NoMessage c.args.tag) c.args.out.now _
    (record { root = refl; moment = refl; fresh = refl }) (sym taken) c.requires.empty
    (none_there formats g.S.Store.view c.args.session.now c.in-Some.mailbox taken c.args.tag c.args.uid c.args.set.now c.args.name.now c.as_slice-infos.result.now
    (g.met.S.Store.is_view c.in-Some.mailbox.store) (c.as_slice-infos.ensures.value ∙ c.in_ok-told.ensures.are) (sym c.names_missing.ensures ∙ c.if-names_missing.true))

pub returns-in_err-name-clause-does : goal.returns-in_err-name-clause-does
returns-in_err-name-clause-does g c = stops_at _ _ _ _ _ _ _ _ c.from_residual-in_err-name.ensures.1

pub returns-in_default-2-clause-does : goal.returns-in_default-2-clause-does
returns-in_default-2-clause-does g c =
    let formats = formats_of g.S.Store.forms chosen in
    let taken = sym c.take.ensures.value ∙ c.in-Some.is in
    refused_back formats g.S.Store.view c.args.session.now _ (copy formats c.args.tag c.args.uid c.args.set.now c.args.name.now) (reply.Refused c.args.tag no.BadName) c.args.out.now _
    (record { root = refl; moment = refl; fresh = refl }) (sym taken) c.requires.empty
    (no_name formats g.S.Store.view c.args.session.now c.in-Some.mailbox taken c.args.tag c.args.uid c.args.set.now c.args.name.now c.as_slice-infos.result.now
    (g.met.S.Store.is_view c.in-Some.mailbox.store) (c.as_slice-infos.ensures.value ∙ c.in_ok-told.ensures.are) (sym c.names_missing.ensures ∙ c.if-names_missing.false)
    (none_read _ _ c.in_ok-name.ensures c.in_default-2.not-Some))

pub returns-in_err-places-clause-does : goal.returns-in_err-places-clause-does
returns-in_err-places-clause-does g c = stops_at _ _ _ _ _ _ _ _ c.from_residual-in_err-places.ensures.1

pub brought_from-requires-clause-places : goal.brought_from-requires-clause-places
brought_from-requires-clause-places g c =
    named_below c.args.uid c.args.set.now c.as_slice-infos.result.now _ _ (c.as_slice-infos.ensures.value ∙ c.in_ok-told.ensures.are) (c.as_slice.ensures.value ∙ c.in_ok-places.ensures)

pub returns-in_err-brought-clause-does : goal.returns-in_err-brought-clause-does
returns-in_err-brought-clause-does g c =
    ended_does (formats_of g.S.Store.forms chosen) _ _ _ _ c.in_err-brought.field-0.0 _ _ _ c.from_residual-in_err-brought.ensures.1 c.brought_from.ensures.history

pub returns-in_err-names-clause-does : goal.returns-in_err-names-clause-does
returns-in_err-names-clause-does g c = ended_does (formats_of g.S.Store.forms chosen) _ _ _ _ Memory _ _ _ c.from_residual-in_err-names.ensures.1 c.brought_from.ensures.history

pub add-requires-clause-stands : goal.add-requires-clause-stands
add-requires-clause-stands g c =
    some_behind (formats_of g.S.Store.forms chosen) g.S.Store.view c.args.session.now c.in-Some.mailbox c.brought_from.new.store _ _ (sym c.take.ensures.value ∙ c.in-Some.is) c.brought_from.ensures.history
    c.in_ok-brought.ensures.reads_on c.requires.stands

pub returns-clause-does : goal.returns-clause-does
returns-clause-does g c =
    let taken = sym c.take.ensures.value ∙ c.in-Some.is in
    copy_does (formats_of g.S.Store.forms chosen) g.S.Store.view c.args.session.now c.in-Some.mailbox taken c.args.tag c.args.uid c.args.set.now c.args.name.now c.as_slice-infos.result.now
    (g.met.S.Store.is_view c.in-Some.mailbox.store) (c.as_slice-infos.ensures.value ∙ c.in_ok-told.ensures.are) (sym c.names_missing.ensures ∙ c.if-names_missing.false)
    c.in-Some-2.name c.brought_from.new.store c.as_slice.result.now c.in_ok-brought.brought.items c.words.result.now c.as_slice-3.result.now _ _ _ c.add.new.session c.add.result c.add.new.out c.copied.result
    (sym c.in_ok-name.ensures ∙ c.in-Some-2.is) (c.as_slice.ensures.value ∙ c.in_ok-places.ensures) c.in_ok-brought.ensures.reads_on c.in_ok-brought.ensures.gives c.words.ensures.are
    (c.as_slice-3.ensures.value ∙ c.in_ok-names.ensures ∙ ap (λ b. names_among b c.words.result.now) c.as_slice-2.ensures.value) c.copied.ensures c.brought_from.ensures.history c.add.ensures.does
