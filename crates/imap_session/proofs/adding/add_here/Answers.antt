use Rattle.std.proofs.Common.{◌≡◌, ◌<◌, ◌+◌, ◌^◌, ◌++◌, refl, sym, ◌∙◌, subst, length, not, Some, Ok, Err}
use Rattle.any_store.specs.Choice.{formats_of, chosen}
use Rattle.file_model.proofs.Runs.{now_all}
use Rattle.imap_reply.specs.declared.reply.Reply.TheVariants as reply
use Rattle.mail_types.specs.Drivers.{keeps_of}
use Rattle.mail_types.specs.Opening.{numbers_from}
use Rattle.store_trait.specs.Changes.{CanChange, IsSized}
use Rattle.imap_session.specs.Putting.{PutsLines}
use Rattle.imap_session.specs.Standing.{StandsFor}
use Rattle.imap_session.specs.State.{State}
use Rattle.imap_session.proofs.AddedHere.{lead, change, lines, aims_here, aims_to_here, recent_so, refused_stands}
use Rattle.imap_session.proofs.Additions.{addition_can}
use Rattle.imap_session.proofs.Changing.{GoesOn}
use Rattle.imap_session.proofs.Stopping.{stops_at}
use Rattle.imap_session.proofs.Undue.{Aims, AimsTo, CommitsSo, refused_undue, undue_does}
use Rattle.imap_session.proofs.adding.add_here.Goals as goal

pub returns-in_err-recent-clause-does : goal.returns-in_err-recent-clause-does
returns-in_err-recent-clause-does g c = stops_at _ _ _ _ _ _ _ _ c.from_residual.ensures.1

pub returns-in_err-change-clause-does : goal.returns-in_err-change-clause-does
returns-in_err-change-clause-does g c = stops_at _ _ _ _ _ _ _ _ c.from_residual-in_err-change.ensures.1

pub commit_undue-requires-clause-can : goal.commit_undue-requires-clause-can
commit_undue-requires-clause-can g c =
    let v = g.S.Store.view c.args.mailbox.store in
    subst (λ change. CanChange (keeps_of v.driver) v.summary.words (length v.summary.infos) change) (sym c.in_ok-change.ensures.is)
    (addition_can (not c.args.mailbox.read_only) v.driver v.summary.words c.args.brought.items c.args.names.now (length v.summary.infos) c.addition.ensures.few c.requires.clean)

pub returns-in-Err-clause-does : goal.returns-in-Err-clause-does
returns-in-Err-clause-does g c =
    let formats = formats_of g.S.Store.forms chosen in
    let view = g.S.Store.view in
    let o = c.args.mailbox in
    let p = record o { store = c.commit_undue.new.store } in
    let session = record c.args.session.now { selected = Some o } in
    let after = record c.args.session.now { selected = Some p } in
    let law = g.met.S.Store.is_view o.store in
    let leads = lead formats view session o refl c.args.tag c.args.word c.args.brought.items c.args.names.now law in
    let made = change formats view session o refl c.args.tag c.args.word c.args.brought.items c.args.names.now law in
    let old = g.H.Files.history c.args.host.now in
    let new = g.H.Files.history c.commit_undue.new.files in
    refused_undue formats view session leads c.args.tag made (view o.store) after (view p.store) c.in-Err.refusal c.args.out.now old new c.requires.empty
    (λ was disk state stands. refused_stands formats view session o refl after p old new (record { root = refl; moment = refl; fresh = refl }) refl (record { name = refl; read_only = refl; recent_is = refl }) c.commit_undue.ensures.same was disk state stands)
    (now_all (λ w. (state : State) → StandsFor formats view session w.disk state → Aims formats view session leads c.args.tag made (view o.store) w.disk state)
    (λ w state stands. aims_here formats view session o refl c.args.tag c.args.word c.args.brought.items c.args.names.now law w.disk state stands) old)
    c.commit_undue.ensures.files c.in-Err.ensures.stays
    (subst (λ made. CommitsSo formats view session leads c.args.tag made (view o.store) (view p.store) (Err c.in-Err.refusal) old new) c.in_ok-change.ensures.is c.in-Err.ensures.commits)

pub returns-clause-does : goal.returns-clause-does
returns-clause-does g c =
    let formats = formats_of g.S.Store.forms chosen in
    let view = g.S.Store.view in
    let o = c.args.mailbox in
    let p = record o { recent = c.of.result; store = c.commit_undue.new.store } in
    let session = record c.args.session.now { selected = Some o } in
    let after = record c.args.session.now { selected = Some p } in
    let law = g.met.S.Store.is_view o.store in
    let leads = lead formats view session o refl c.args.tag c.args.word c.args.brought.items c.args.names.now law in
    let made = change formats view session o refl c.args.tag c.args.word c.args.brought.items c.args.names.now law in
    let old = g.H.Files.history c.args.host.now in
    let mid = g.H.Files.history c.commit_undue.new.files in
    let said = c.put_counts-lines in
    let recent : (0 < length c.args.brought.items → (view o.store).summary.last + length c.args.brought.items < 2 ^ 32)
    → p.recent ≡ o.recent ++ numbers_from ((view o.store).summary.last + 1) (length c.args.brought.items) =
    λ fits. c.of.ensures ∙ recent_so _ _ _ _ _ _ _ c.as_slice.ensures c.last-last.ensures (c.len.ensures ∙ c.args.brought.ok.0) c.in_ok-recent.ensures fits in
    let sized = subst (λ made. IsSized (view o.store).summary made (view p.store).summary) c.in_ok-change.ensures.is c.in_default.ensures.sized in
    let goes_on : GoesOn session after = record { root = refl; moment = refl; fresh = refl } in
    let told = lines formats view session o refl c.args.tag c.args.word c.args.brought.items c.args.names.now law after p goes_on refl refl refl recent sized in
    undue_does formats view session leads c.args.tag made (view o.store) after (view p.store) told (reply.Done c.args.tag c.args.word)
    (record { choice = g.met.S.AnyMailbox.is_choice; reads = g.met.S.AnyMailbox.all_read }) said.new.out said.result c.ends_with.result old mid (g.H.Files.history said.new.host)
    (now_all (λ w. (state : State) → StandsFor formats view session w.disk state → AimsTo formats view session leads c.args.tag made (view o.store) after (view p.store) told (reply.Done c.args.tag c.args.word) w.disk state)
    (λ w state stands. aims_to_here formats view session o refl c.args.tag c.args.word c.args.brought.items c.args.names.now law after p goes_on refl refl refl recent sized w.disk state stands) old)
    c.commit_undue.ensures.files c.in_default.ensures.sees
    (subst (λ made. CommitsSo formats view session leads c.args.tag made (view o.store) (view p.store) (Ok tt) old mid) c.in_ok-change.ensures.is c.in_default.ensures.commits)
    (subst (λ w. PutsLines told w said.new.out said.result mid (g.H.Files.history said.new.host)) c.requires.empty said.ensures.puts) c.ends_with.ensures
