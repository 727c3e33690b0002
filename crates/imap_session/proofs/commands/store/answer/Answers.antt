use Rattle.std.proofs.Common.{refl, sym, ◌∙◌, ap, subst, length}
use Rattle.any_store.specs.Choice.{formats_of, chosen}
use Rattle.imap_reply.specs.declared.reply.Reply.TheVariants as reply
use Rattle.mail_types.specs.Lists.{RiseBelow}
use Rattle.imap_session.specs.Committed.{Commits}
use Rattle.imap_session.specs.Endings.{ends_with}
use Rattle.imap_session.specs.Sets.{named_places}
use Rattle.imap_session.specs.Store.{store}
use Rattle.imap_session.specs.Told.{told_change}
use Rattle.imap_session.proofs.StoreSaid.{refused_back, past_refused, unwritable_refused, store_next, store_does}
use Rattle.imap_session.proofs.Stopping.{stops_at, stops_in_change}
use Rattle.imap_session.proofs.Storing.{places_rise}
use Rattle.imap_session.proofs.commands.store.answer.Goals as goal

pub returns-in_err-told-clause-does : goal.returns-in_err-told-clause-does
returns-in_err-told-clause-does g c = stops_at _ _ _ _ _ _ _ _ c.from_residual.ensures.1

pub returns-then-names_missing-clause-does : goal.returns-then-names_missing-clause-does
returns-then-names_missing-clause-does g c =
    let formats = formats_of g.S.Store.forms chosen in
    let taken = sym c.take.ensures.value ∙ c.in-Some.is in
    refused_back formats g.S.Store.view c.args.session.now _ (store formats c.args.tag c.args.uid c.args.set.now c.args.mode c.args.silent c.args.given.now) (reply.NoMessage c.args.tag) c.args.out.now _
    (record { root = refl; moment = refl; fresh = refl }) (sym taken) c.requires.empty
    (past_refused formats g.S.Store.view c.args.session.now c.in-Some.open taken c.args.tag c.args.uid c.args.set.now c.args.mode c.args.silent c.args.given.now c.as_slice-infos.result.now
    (g.met.S.Store.is_view c.in-Some.open.store) (c.as_slice-infos.ensures.value ∙ c.in_ok-told.ensures.are) (sym c.names_missing.ensures ∙ c.if-names_missing.true))

pub returns-then-open-clause-does : goal.returns-then-open-clause-does
returns-then-open-clause-does g c =
    let formats = formats_of g.S.Store.forms chosen in
    let taken = sym c.take.ensures.value ∙ c.in-Some.is in
    refused_back formats g.S.Store.view c.args.session.now _ (store formats c.args.tag c.args.uid c.args.set.now c.args.mode c.args.silent c.args.given.now) (reply.ReadOnly c.args.tag) c.args.out.now _
    (record { root = refl; moment = refl; fresh = refl }) (sym taken) c.requires.empty
    (unwritable_refused formats g.S.Store.view c.args.session.now c.in-Some.open taken c.args.tag c.args.uid c.args.set.now c.args.mode c.args.silent c.args.given.now c.as_slice-infos.result.now
    (g.met.S.Store.is_view c.in-Some.open.store) (c.as_slice-infos.ensures.value ∙ c.in_ok-told.ensures.are) (sym c.names_missing.ensures ∙ c.if-names_missing.false) c.if-open.true)

pub returns-in_err-named-clause-does : goal.returns-in_err-named-clause-does
returns-in_err-named-clause-does g c = stops_at _ _ _ _ _ _ _ _ c.from_residual-in_err-named.ensures.1

pub set_flags-requires-clause-rise : goal.set_flags-requires-clause-rise
set_flags-requires-clause-rise g c =
    subst (λ places. RiseBelow 0 (length c.as_slice-infos.result.now) places) (sym (c.as_slice-places.ensures.value ∙ c.in_ok-named.ensures)) (places_rise c.args.uid c.args.set.now c.as_slice-infos.result.now)

pub returns-in_err-set_flags-clause-does : goal.returns-in_err-set_flags-clause-does
returns-in_err-set_flags-clause-does g c =
    let formats = formats_of g.S.Store.forms chosen in
    let taken = sym c.take.ensures.value ∙ c.in-Some.is in
    let v = g.S.Store.view c.in-Some.open.store in
    let infos = c.as_slice-infos.result.now in
    let next = store_next formats g.S.Store.view c.args.session.now c.in-Some.open taken c.args.tag c.args.uid c.args.set.now c.args.mode c.args.silent c.args.given.now infos
    (g.met.S.Store.is_view c.in-Some.open.store) (c.as_slice-infos.ensures.value ∙ c.in_ok-told.ensures.are) (sym c.names_missing.ensures ∙ c.if-names_missing.false) c.if-open.false in
    stops_in_change formats g.S.Store.view c.args.session.now c.in-Some.open c.set_flags.new.open c.in-Some.open.recent
    (told_change c.args.mode c.args.given.now v.driver v.summary.words infos (named_places c.args.uid c.args.set.now infos))
    (store formats c.args.tag c.args.uid c.args.set.now c.args.mode c.args.silent c.args.given.now) _ _ _ c.set_flags.result _ _ _
    c.from_residual-in_err-set_flags.ensures.1 taken c.set_flags.ensures.files next
    (λ state s recent here. subst (λ l. Commits formats state s recent (told_change c.args.mode c.args.given.now v.driver v.summary.words infos l) (g.S.Store.view c.set_flags.new.open.store) c.set_flags.result
    (g.H.Files.history c.args.host.now) (g.H.Files.history c.set_flags.new.files)) (c.as_slice-places.ensures.value ∙ c.in_ok-named.ensures) (c.set_flags.ensures.commits state s recent here))

pub returns-clause-does : goal.returns-clause-does
returns-clause-does g c =
    let formats = formats_of g.S.Store.forms chosen in
    store_does formats g.S.Store.view c.args.session.now c.in-Some.open (sym c.take.ensures.value ∙ c.in-Some.is) c.args.tag c.args.uid c.args.set.now c.args.mode c.args.silent c.args.given.now c.as_slice-infos.result.now
    (g.met.S.Store.is_view c.in-Some.open.store) (c.as_slice-infos.ensures.value ∙ c.in_ok-told.ensures.are) (sym c.names_missing.ensures ∙ c.if-names_missing.false) c.if-open.false
    c.set_flags.new.open (g.met.S.Store.is_view c.set_flags.new.open.store)
    (record { choice = g.met.S.AnyMailbox.is_choice; reads = g.met.S.AnyMailbox.all_read }) _ c.as_slice-places.result.now _ c.args.out.now c.put_changed-lines.new.out c.put_changed-lines.result c.ends_with.result
    _ (g.H.Files.history c.set_flags.new.files) _ (c.as_slice-places.ensures.value ∙ c.in_ok-named.ensures) (ap (λ l. length l) c.words-names.ensures.are)
    (record { root = refl; moment = refl; fresh = refl }) refl (record { name = c.set_flags.ensures.name; read_only = c.set_flags.ensures.read_only; recent_is = c.set_flags.ensures.recent })
    c.set_flags.ensures.files c.in_ok-set_flags.ensures.commits c.requires.empty c.put_changed-lines.ensures.puts
    (c.ends_with.ensures ∙ ap (λ w. ends_with c.put_changed-lines.result (reply.Done c.args.tag w)) c.stored.ensures)
