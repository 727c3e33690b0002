use Rattle.std.proofs.Common.{refl, sym, ◌∙◌}
use Rattle.any_store.specs.Choice.{formats_of, chosen}
use Rattle.imap_session.proofs.Closing.{closes_read_only, closes_does, close_ends}
use Rattle.imap_session.proofs.Exits.{says_at}
use Rattle.imap_session.proofs.Stopping.{stops_at}
use Rattle.imap_session.proofs.commands.close.answer.Goals as goal

pub returns-then-open-clause-does : goal.returns-then-open-clause-does
returns-then-open-clause-does g c =
    let formats = formats_of g.S.Store.forms chosen in
    says_at formats g.S.Store.view c.args.session.now _ _ _ _
    (closes_read_only formats g.S.Store.view c.args.session.now c.in-Some.open c.args.tag (sym c.take.ensures.value ∙ c.in-Some.is) _ (record { root = refl; moment = refl; fresh = refl }) c.take.ensures.after c.if-open.true)

pub returns-in_err-infos-clause-does : goal.returns-in_err-infos-clause-does
returns-in_err-infos-clause-does g c = stops_at _ _ _ _ _ _ _ _ c.from_residual.ensures.1

pub returns-in_err-drop_deleted-clause-does : goal.returns-in_err-drop_deleted-clause-does
returns-in_err-drop_deleted-clause-does g c =
    let formats = formats_of g.S.Store.forms chosen in
    close_ends formats g.S.Store.view c.args.session.now c.in-Some.open c.args.tag (sym c.take.ensures.value ∙ c.in-Some.is) c.drop_deleted.new.open c.as_slice.result.now
    (g.met.S.Store.is_view c.in-Some.open.store) (c.as_slice.ensures.value ∙ c.in_ok-infos.ensures.are) c.if-open.false _ _ _ c.drop_deleted.result _ _
    c.from_residual-in_err-drop_deleted.ensures.1 c.drop_deleted.ensures.files c.drop_deleted.ensures.commits

pub returns-clause-does : goal.returns-clause-does
returns-clause-does g c =
    let formats = formats_of g.S.Store.forms chosen in
    closes_does formats g.S.Store.view c.args.session.now c.in-Some.open c.args.tag (sym c.take.ensures.value ∙ c.in-Some.is) c.drop_deleted.new.open c.as_slice.result.now
    (g.met.S.Store.is_view c.in-Some.open.store) (c.as_slice.ensures.value ∙ c.in_ok-infos.ensures.are) c.if-open.false
    (record { choice = g.met.S.AnyMailbox.is_choice; reads = g.met.S.AnyMailbox.all_read }) _ _ _ (record { root = refl; moment = refl; fresh = refl }) c.take.ensures.after
    c.drop_deleted.ensures.files c.in_ok-drop_deleted.ensures.commits
