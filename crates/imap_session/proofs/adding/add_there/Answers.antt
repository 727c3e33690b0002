use Rattle.std.proofs.Common.{[], true, false, refl, sym, subst, length, Ok, Err}
use Rattle.file_model.specs.Disk.{seen}
use Rattle.file_model.specs.Histories.{Now}
use Rattle.any_store.specs.Choice.{formats_of, chosen}
use Rattle.imap_reply.specs.declared.reply.Reply.TheVariants as reply
use Rattle.mail_types.specs.Drivers.{keeps_of}
use Rattle.store_trait.specs.Changes.{CanChange}
use Rattle.imap_session.specs.Doing.{Does}
use Rattle.imap_session.specs.Opening.{OpensSelected}
use Rattle.imap_session.specs.Standing.{StandsFor}
use Rattle.imap_session.specs.State.{State}
use Rattle.imap_session.proofs.Additions.{addition_can}
use Rattle.imap_session.proofs.ByName.{none_happened}
use Rattle.imap_session.proofs.Exits.{refused_so}
use Rattle.imap_session.proofs.Elsewhere.{lead, change, target_due, aims_now, aims_to_now}
use Rattle.imap_session.proofs.Putting.{puts_none}
use Rattle.imap_session.proofs.TreeStays.{AreStores}
use Rattle.imap_session.proofs.Undue.{CommitsSo, refused_undue, undue_does}
use Rattle.imap_session.proofs.adding.add_there.Goals as goal

pub returns-in-Err-clause-does : goal.returns-in-Err-clause-does
returns-in-Err-clause-does g c =
    none_happened (formats_of g.S.Store.forms chosen) _ _ _ _ _ _ _ refl c.open_named.ensures.history
    (target_due (formats_of g.S.Store.forms chosen) g.S.Store.view c.args.session.now c.args.tag c.args.word c.args.name c.args.brought.items c.args.names.now c.in-Err.fault _ _ c.target_refused.ensures c.in-Err.ensures.refused)

pub commit_undue-requires-clause-can : goal.commit_undue-requires-clause-can
commit_undue-requires-clause-can g c =
    let v = g.S.Store.view c.in-Ok.mailbox.store in
    subst (λ change. CanChange (keeps_of v.driver) v.summary.words (length v.summary.infos) change) (sym c.in_ok-change.ensures.is)
    (addition_can false v.driver v.summary.words c.args.brought.items c.args.names.now (length v.summary.infos) c.addition.ensures.few c.requires.clean)

pub returns-in_err-commit_undue-clause-does : goal.returns-in_err-commit_undue-clause-does
returns-in_err-commit_undue-clause-does g c =
    let formats = formats_of g.S.Store.forms chosen in
    let view = g.S.Store.view in
    let session = c.args.session.now in
    let o = c.in-Ok.mailbox in
    let is = view c.commit_undue.new.store in
    let law = g.met.S.Store.is_view o.store in
    let leads = lead formats view session c.args.tag c.args.word c.args.name c.args.brought.items c.args.names.now in
    let made = change formats view session c.args.tag c.args.word c.args.name c.args.brought.items c.args.names.now o law in
    let refusal = c.in_err-commit_undue.field-0.0 in
    let opened = g.F.Files.history c.open_named.new.files in
    let new = g.F.Files.history c.commit_undue.new.files in
    let seen_now = subst (λ h. Now h (λ w. (state : State) → StandsFor formats view session w.disk state → OpensSelected formats view state c.args.name true o (seen w.disk))) (sym c.open_named.ensures.history) c.in-Ok.ensures.opened in
    subst (λ r. Does formats (StandsFor formats view session) (StandsFor formats view session) leads r [] (g.F.Files.history c.args.files.now) new) (sym (refused_so c.from_residual-in_err-commit_undue.result refusal c.from_residual-in_err-commit_undue.ensures.1))
    (subst (λ h. Does formats (StandsFor formats view session) (StandsFor formats view session) leads (Err refusal) [] h new) c.open_named.ensures.history
    (refused_undue formats view session leads c.args.tag made (view o.store) session is refusal [] opened new refl (λ was disk state stands. stands)
    (aims_now formats view session c.args.tag c.args.word c.args.name c.args.brought.items c.args.names.now o law opened seen_now)
    c.commit_undue.ensures.files c.in_err-commit_undue.ensures.stays
    (subst (λ made. CommitsSo formats view session leads c.args.tag made (view o.store) is (Err refusal) opened new) c.in_ok-change.ensures.is c.in_err-commit_undue.ensures.commits)))

pub returns-clause-does : goal.returns-clause-does
returns-clause-does g c =
    let formats = formats_of g.S.Store.forms chosen in
    let view = g.S.Store.view in
    let session = c.args.session.now in
    let o = c.in-Ok.mailbox in
    let is = view c.commit_undue.new.store in
    let law = g.met.S.Store.is_view o.store in
    let leads = lead formats view session c.args.tag c.args.word c.args.name c.args.brought.items c.args.names.now in
    let made = change formats view session c.args.tag c.args.word c.args.name c.args.brought.items c.args.names.now o law in
    let last = reply.Done c.args.tag c.args.word in
    let opened = g.F.Files.history c.open_named.new.files in
    let new = g.F.Files.history c.commit_undue.new.files in
    let seen_now = subst (λ h. Now h (λ w. (state : State) → StandsFor formats view session w.disk state → OpensSelected formats view state c.args.name true o (seen w.disk))) (sym c.open_named.ensures.history) c.in-Ok.ensures.opened in
    let stores : AreStores formats view = record {
      reads = λ d. g.met.S.AnyMailbox.all_read d;
      is_view = λ store. g.met.S.Store.is_view store;
      of_files = λ store. g.met.S.AnyMailbox.of_files (g.S.Store.view store).driver (g.met.S.Store.is_view store).known;
    } in
    subst (λ h. Does formats (StandsFor formats view session) (StandsFor formats view session) leads (Ok last) [] h new) c.open_named.ensures.history
    (undue_does formats view session leads c.args.tag made (view o.store) session is [] last (record { choice = g.met.S.AnyMailbox.is_choice; reads = g.met.S.AnyMailbox.all_read }) [] (Ok tt) (Ok last) opened new new
    (aims_to_now formats view session c.args.tag c.args.word c.args.name c.args.brought.items c.args.names.now o law stores c.requires.other is opened seen_now)
    c.commit_undue.ensures.files c.in_ok-commit_undue.ensures.sees
    (subst (λ made. CommitsSo formats view session leads c.args.tag made (view o.store) is (Ok tt) opened new) c.in_ok-change.ensures.is c.in_ok-commit_undue.ensures.commits)
    (puts_none [] new) refl)
