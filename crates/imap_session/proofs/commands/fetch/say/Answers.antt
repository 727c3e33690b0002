use Rattle.std.proofs.Common.{sym, ◌∙◌, ap, subst, Err}
use Rattle.any_store.specs.Choice.{formats_of, chosen}
use Rattle.imap_reply.specs.declared.reply.Reply.TheVariants as reply
use Rattle.imap_session.specs.declared.refusal.Refusal.TheVariants.{Line}
use Rattle.imap_session.specs.Doing.{Does}
use Rattle.imap_session.specs.Endings.{ends_with}
use Rattle.imap_session.specs.Fetch.{fetch}
use Rattle.imap_session.specs.Standing.{StandsFor}
use Rattle.imap_session.proofs.Exits.{refuses_at}
use Rattle.imap_session.proofs.FetchSaid.{fetch_refused, fetch_does}
use Rattle.imap_session.proofs.commands.fetch.say.Goals as goal

pub returns-then-names_missing-clause-does : goal.returns-then-names_missing-clause-does
returns-then-names_missing-clause-does g c =
    let formats = formats_of g.S.Store.forms chosen in
    let stands = StandsFor formats g.S.Store.view c.args.session.now in
    subst (λ waits. Does formats stands stands (fetch c.args.tag c.args.uid c.args.set.now c.args.items.now)
    (Err (Line (reply.NoMessage c.args.tag))) waits (g.H.Files.history c.args.host.now) (g.H.Files.history c.args.host.now)) (sym c.requires.empty)
    (refuses_at formats g.S.Store.view c.args.session.now (fetch c.args.tag c.args.uid c.args.set.now c.args.items.now) (reply.NoMessage c.args.tag) _
    (fetch_refused formats g.S.Store.view c.args.session.now c.in-Some.open c.in-Some.is c.args.tag c.args.uid c.args.set.now c.args.items.now c.as_slice-infos.result.now
    (g.met.S.Store.is_view c.in-Some.open.store) (c.as_slice-infos.ensures.value ∙ c.in_ok-told.ensures.are) (sym c.names_missing.ensures ∙ c.if-names_missing.true)))

pub returns-clause-does : goal.returns-clause-does
returns-clause-does g c =
    let formats = formats_of g.S.Store.forms chosen in
    fetch_does formats g.S.Store.view c.args.session.now c.in-Some.open c.in-Some.is c.args.tag c.args.uid c.args.set.now c.args.items.now c.as_slice-infos.result.now
    (g.met.S.Store.is_view c.in-Some.open.store) (c.as_slice-infos.ensures.value ∙ c.in_ok-told.ensures.are)
    (record { choice = g.met.S.AnyMailbox.is_choice; reads = g.met.S.AnyMailbox.all_read })
    c.as_slice-2.result.now c.words.result.now c.as_slice.result.now c.as_slice-3.result.now c.args.out.now c.put_lines.new.out c.put_lines.result c.ends_with.result _ _
    (sym c.names_missing.ensures ∙ c.if-names_missing.false) (c.as_slice-2.ensures.value ∙ c.in_ok-said.ensures.are) c.words.ensures.are c.as_slice.ensures (c.as_slice-3.ensures.value ∙ c.in_ok-places.ensures)
    c.requires.empty c.put_lines.ensures.puts (c.ends_with.ensures ∙ ap (λ w. ends_with c.put_lines.result (reply.Done c.args.tag w)) c.fetched.ensures)
