use Rattle.std.proofs.Common.{refl, sym, ◌∙◌, subst}
use Rattle.any_store.specs.Choice.{formats_of, chosen}
use Rattle.session_loop.specs.declared.answers.Stop.TheVariants.{Memory}
use Rattle.store_trait.specs.Promises.{CanAsk}
use Rattle.imap_session.proofs.ByName.{none_happened, none_read, ended_does}
use Rattle.imap_session.proofs.Selecting.{bad_name_does, due_does, can_ask_opened, select_ends, selects_does}
use Rattle.imap_session.proofs.commands.select.answer.Goals as goal

pub returns-in_default-clause-does : goal.returns-in_default-clause-does
returns-in_default-clause-does g c =
    let formats = formats_of g.S.Store.forms chosen in
    none_happened formats _ _ _ _ _ _ _ c.requires.empty refl
    (bad_name_does formats g.S.Store.view c.args.session.now c.args.read_only c.args.tag c.args.name.now _ (none_read _ _ c.in_ok-name.ensures c.in_default.not-Some))

pub returns-in-Err-clause-does : goal.returns-in-Err-clause-does
returns-in-Err-clause-does g c =
    let formats = formats_of g.S.Store.forms chosen in
    none_happened formats _ _ _ _ _ _ _ c.requires.empty c.open_named.ensures.history
    (due_does formats g.S.Store.view c.args.session.now c.args.read_only c.args.tag c.args.name.now _ c.in-Some.name c.in-Err.fault _ (sym c.in_ok-name.ensures ∙ c.in-Some.is) c.refused_by.ensures c.in-Err.ensures.refused)

pub returns-in_err-lines-clause-does : goal.returns-in_err-lines-clause-does
returns-in_err-lines-clause-does g c = ended_does (formats_of g.S.Store.forms chosen) _ _ _ _ Memory _ _ _ c.from_residual-in_err-lines.ensures.1 c.open_named.ensures.history

pub make_old-requires : goal.make_old-requires
make_old-requires g c = record {
  standing = subst (CanAsk (g.S.Store.view c.in-Ok.open.store)) (sym c.open_named.ensures.history)
      (can_ask_opened (formats_of g.S.Store.forms chosen) g.S.Store.view c.args.session.now c.args.read_only c.args.tag c.args.name.now c.in-Some.name c.in-Ok.open c.in-Ok.open _
      (sym c.in_ok-name.ensures ∙ c.in-Some.is) c.in-Ok.ensures.opened c.requires.stands);
}

pub returns-in_err-make_old-clause-does : goal.returns-in_err-make_old-clause-does
returns-in_err-make_old-clause-does g c =
    let formats = formats_of g.S.Store.forms chosen in
    select_ends formats g.S.Store.view c.args.session.now c.args.read_only c.args.tag c.args.name.now c.in-Some.name c.in-Ok.open c.make_old.new.open _
    (sym c.in_ok-name.ensures ∙ c.in-Some.is) c.in-Ok.ensures.opened _ c.in_err-make_old.field-0.0 _ c.make_old.result _ _ _ c.from_residual-in_err-make_old.ensures.1 c.open_named.ensures.history c.make_old.ensures.files c.make_old.ensures.tells

pub returns-clause-does : goal.returns-clause-does
returns-clause-does g c =
    let formats = formats_of g.S.Store.forms chosen in
    selects_does formats g.S.Store.view c.args.session.now c.args.read_only c.args.tag c.args.name.now c.in-Some.name c.in-Ok.open c.make_old.new.open _
    (sym c.in_ok-name.ensures ∙ c.in-Some.is) c.in-Ok.ensures.opened (record { name = c.make_old.ensures.name; read_only = c.make_old.ensures.read_only; recent = c.make_old.ensures.recent })
    (record { choice = g.met.S.AnyMailbox.is_choice; reads = g.met.S.AnyMailbox.all_read }) (g.met.S.Store.is_view c.in-Ok.open.store)
    c.as_slice.result.now (c.as_slice.ensures.value ∙ c.in_ok-lines.ensures) _ c.last_line.ensures c.args.out.now c.put_replies.new.out c.put_replies.result _ _ _ _
    c.open_named.ensures.history c.make_old.ensures.files c.in_ok-make_old.ensures.tells c.requires.empty c.put_replies.ensures.puts c.ends_with.ensures
