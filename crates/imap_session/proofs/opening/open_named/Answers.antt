use Rattle.std.proofs.Common.{refl, ◌∙◌, ap, subst, map, Ok}
use Rattle.any_store.specs.Choice.{formats_of, chosen}
use Rattle.file_model.specs.Disk.{seen}
use Rattle.file_model.specs.Histories.{Now}
use Rattle.mail_tree.specs.Changing.{OpensFound}
use Rattle.mail_tree.specs.Trees.{Tree, HasTree}
use Rattle.mail_tree.specs.Changes.{due_open}
use Rattle.mail_tree.specs.Promises.{AnswersBy}
use Rattle.store_trait.specs.declared.store.Info.{Info}
use Rattle.imap_session.specs.Select.{unseen_before}
use Rattle.imap_session.proofs.Opens.{opens_selected, none_due}
use Rattle.imap_session.proofs.opening.open_named.Goals as goal

pub returns-clause-opened : goal.returns-clause-opened
returns-clause-opened g c =
    let formats = formats_of g.S.Store.forms chosen in
    opens_selected formats g.S.Store.view c.args.session.now c.args.name c.args.read_only _ _ (record {
      law = g.met.S.Store.is_view c.in_ok-store.store;
      found = subst (λ r. Now (g.F.Files.history c.args.files.now) (λ w. (tree : Tree) → HasTree formats r (seen w.disk) tree → OpensFound formats r tree c.args.name (g.S.Store.view c.in_ok-store.store) c.args.session.now.fresh (seen w.disk))) c.as_str.ensures.value
          (subst (λ f. Now (g.F.Files.history c.args.files.now) (λ w. (tree : Tree) → HasTree formats c.as_str.result.now (seen w.disk) tree → OpensFound formats c.as_str.result.now tree c.args.name (g.S.Store.view c.in_ok-store.store) f (seen w.disk))) c.number.ensures.value c.in_ok-store.ensures.found);
      due = none_due formats c.args.session.now.root c.args.name c.in_ok-store.store _ (subst (λ r. AnswersBy formats r (λ tree. due_open tree c.args.name) (Ok c.in_ok-store.store) (g.F.Files.history c.args.files.now)) c.as_str.ensures.value c.in_ok-store.ensures.answer);
      name_is = refl;
      read_only_is = refl;
      recent_is = c.of.ensures ∙ c.in_ok-recent.ensures ∙ ap (λ infos. map (λ (i : Info). i.uid) (unseen_before infos)) (c.as_slice.ensures.value ∙ c.in_ok-told.ensures.are);
    })
