use Rattle.std.proofs.Common.{refl, sym, ◌∙◌, ap, not}
use Rattle.std.specs.List.{filter}
use Rattle.imap_reply.specs.declared.reply.Reply.TheVariants as reply
use Rattle.imap_reply.specs.declared.text.Words.TheVariants as words
use Rattle.any_store.specs.Choice.{formats_of, chosen}
use Rattle.store_trait.specs.declared.change.Change.TheVariants.{Expunge}
use Rattle.imap_session.specs.Endings.{is_read_only}
use Rattle.imap_session.specs.Expunge.{expunge, deleted_from, is_deleted, expunge_lines}
use Rattle.imap_session.specs.Lines.{reply_lines}
use Rattle.imap_session.proofs.Changing.{changes_does}
use Rattle.imap_session.proofs.Expunging.{expunge_tells}
use Rattle.imap_session.proofs.Stopping.{stops_at, stops_in_change}
use Rattle.imap_session.proofs.commands.expunge.answer.Goals as goal

pub returns-in_err-told-clause-does : goal.returns-in_err-told-clause-does
returns-in_err-told-clause-does g c = stops_at _ _ _ _ _ _ _ _ c.from_residual.ensures.1

pub returns-in_err-drop_deleted-clause-does : goal.returns-in_err-drop_deleted-clause-does
returns-in_err-drop_deleted-clause-does g c =
    let formats = formats_of g.S.Store.forms chosen in
    let infos = c.as_slice-infos.result.now in
    let recent = filter (λ uid. not (is_deleted infos uid)) c.in-Some.open.recent in
    stops_in_change formats g.S.Store.view c.args.session.now c.in-Some.open c.drop_deleted.new.open recent (Expunge (deleted_from 0 infos)) (expunge formats c.args.tag) _ _ _ c.drop_deleted.result _ _ _
    c.from_residual-in_err-drop_deleted.ensures.1 (sym c.take.ensures.value ∙ c.in-Some.is) c.drop_deleted.ensures.files
    (λ disk state s stands selected is. (expunge_tells formats g.S.Store.view c.args.session.now c.in-Some.open c.args.session.now c.in-Some.open c.args.tag infos recent (g.met.S.Store.is_view c.in-Some.open.store)
    (c.as_slice-infos.ensures.value ∙ c.in_ok-told.ensures.are) (sym (c.is_read_only.ensures ∙ ap is_read_only (sym c.take.ensures.value ∙ c.in-Some.is)) ∙ c.if-is_read_only.false) refl disk state s stands selected is).next)
    c.drop_deleted.ensures.commits

pub returns-clause-does : goal.returns-clause-does
returns-clause-does g c =
    let formats = formats_of g.S.Store.forms chosen in
    let infos = c.as_slice-infos.result.now in
    let left = c.drop_deleted.new.open in
    changes_does formats g.S.Store.view c.args.session.now c.in-Some.open _ left left.recent (Expunge (deleted_from 0 infos)) (expunge formats c.args.tag)
    (reply_lines (expunge_lines 1 infos)) (reply.Done c.args.tag words.Expunge) (sym c.take.ensures.value ∙ c.in-Some.is)
    (expunge_tells formats g.S.Store.view c.args.session.now c.in-Some.open _ left c.args.tag infos left.recent (g.met.S.Store.is_view c.in-Some.open.store)
    (c.as_slice-infos.ensures.value ∙ c.in_ok-told.ensures.are) (sym (c.is_read_only.ensures ∙ ap is_read_only (sym c.take.ensures.value ∙ c.in-Some.is)) ∙ c.if-is_read_only.false) c.in_ok-drop_deleted.ensures.recent)
    (record { choice = g.met.S.AnyMailbox.is_choice; reads = g.met.S.AnyMailbox.all_read }) c.args.out.now c.put_lines.new.out c.put_lines.result _ _ (g.H.Files.history c.drop_deleted.new.files) _
    (record { root = refl; moment = refl; fresh = refl }) refl (record { name = c.drop_deleted.ensures.name; read_only = c.drop_deleted.ensures.read_only; recent_is = refl })
    c.drop_deleted.ensures.files c.in_ok-drop_deleted.ensures.commits c.requires.empty c.put_lines.ensures.puts c.ends_with.ensures
