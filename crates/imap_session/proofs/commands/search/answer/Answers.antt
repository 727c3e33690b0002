use Rattle.std.proofs.Common.{refl, sym, ◌∙◌}
use Rattle.any_store.specs.Choice.{formats_of, chosen}
use Rattle.imap_reply.specs.declared.reply.Reply.TheVariants as reply
use Rattle.imap_session.specs.Search.{search}
use Rattle.imap_session.proofs.ByName.{ended_does}
use Rattle.imap_session.proofs.SearchSaid.{store_stands, unknown_refused, search_does}
use Rattle.imap_session.proofs.StoreSaid.{refused_back}
use Rattle.imap_session.proofs.commands.search.answer.Goals as goal

pub returns-then-not-is_known-clause-does : goal.returns-then-not-is_known-clause-does
returns-then-not-is_known-clause-does g c =
    let formats = formats_of g.S.Store.forms chosen in
    let taken = sym c.take.ensures.value ∙ c.in-Some.is in
    refused_back formats g.S.Store.view c.args.session.now _ (search c.args.tag c.args.uid c.args.charset.now c.args.key.now) (reply.Charset c.args.tag) c.args.out.now _
    (record { root = refl; moment = refl; fresh = refl }) (sym taken) c.requires.empty
    (unknown_refused formats g.S.Store.view c.args.session.now c.in-Some.open taken c.args.tag c.args.uid c.args.charset.now c.args.key.now (sym c.is_known.ensures ∙ c.if-not-is_known.true))

pub found-requires-clause-stands : goal.found-requires-clause-stands
found-requires-clause-stands g c =
    store_stands (formats_of g.S.Store.forms chosen) g.S.Store.view c.args.session.now c.in-Some.open (sym c.take.ensures.value ∙ c.in-Some.is) _ c.requires.stands

pub returns-in_err-numbers-clause-does : goal.returns-in_err-numbers-clause-does
returns-in_err-numbers-clause-does g c =
    ended_does (formats_of g.S.Store.forms chosen) _ _ _ _ c.in_err-numbers.field-0.0 _ _ _ c.from_residual.ensures.1 c.found.ensures.history

pub returns-clause-does : goal.returns-clause-does
returns-clause-does g c =
    let taken = sym c.take.ensures.value ∙ c.in-Some.is in
    search_does (formats_of g.S.Store.forms chosen) g.S.Store.view c.args.session.now c.in-Some.open taken c.args.tag c.args.uid c.args.charset.now c.args.key.now
    (record { choice = g.met.S.AnyMailbox.is_choice; reads = g.met.S.AnyMailbox.all_read })
    c.found.new.store c.as_slice-recent.result.now c.in_ok-numbers.numbers c.searched.result c.args.out.now c.put.new.self c.put.result c.ends_with.result _ _ _
    (sym c.is_known.ensures ∙ c.if-not-is_known.false) c.in_ok-numbers.ensures.reads_on c.as_slice-recent.ensures c.in_ok-numbers.ensures.found c.found.ensures.history c.requires.empty c.put.ensures.puts c.searched.ensures c.ends_with.ensures
