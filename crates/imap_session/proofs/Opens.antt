-- A mailbox that is opened by its name is what the name sees.
use Rattle.std.proofs.Common.{ℕ, Bool, List, [], ◌∷◌, ◌≡◌, refl, sym, ◌∙◌, ap, subst, map, None, Ok}
use Rattle.file_model.specs.Disk.{seen}
use Rattle.file_model.specs.Histories.{World, History, Now}
use Rattle.any_store.specs.Choice.{Formats}
use Rattle.mail_tree.specs.Changes.{due_open}
use Rattle.mail_tree.specs.Changing.{OpensFound}
use Rattle.mail_tree.specs.Promises.{AnswersBy}
use Rattle.mail_tree.specs.Trees.{Tree, HasTree}
use Rattle.store_trait.specs.declared.store.Info.{Info}
use Rattle.store_trait.specs.Laws.{IsView}
use Rattle.store_trait.specs.Views.{View, summary_of}
use Rattle.imap_session.specs.declared.session.Open.{Open}
use Rattle.imap_session.specs.declared.session.Session.{Session}
use Rattle.imap_session.specs.Opening.{OpensSelected}
use Rattle.imap_session.specs.Select.{unseen_before}
use Rattle.imap_session.specs.Standing.{StandsFor}
use Rattle.imap_session.specs.State.{State, fresh}

-- what the calls told of the store that was opened
pub record WasOpened {S : Type 0} (formats : Formats) (view : S → View) (session : Session S) (name : List ℕ) (read_only : Bool) (o : Open S) (old : History) : Type 0 where
  pub law : IsView formats.forms (view o.store)
  pub found : Now old (λ w. (tree : Tree) → HasTree formats session.root (seen w.disk) tree → OpensFound formats session.root tree name (view o.store) session.fresh (seen w.disk))
  pub due : Now old (λ w. (tree : Tree) → HasTree formats session.root (seen w.disk) tree → due_open tree name ≡ None)
  pub name_is : o.name ≡ name
  pub read_only_is : o.read_only ≡ read_only
  pub recent_is : o.recent ≡ map (λ (i : Info). i.uid) (unseen_before (view o.store).summary.infos)

module _ {S : Type 0} (formats : Formats) (view : S → View) (session : Session S) (name : List ℕ) (read_only : Bool) (o : Open S) where
  here : (old : History) → WasOpened formats view session name read_only o old → (w : World) (past : History) → old ≡ w ∷ past → (state : State) → StandsFor formats view session w.disk state
      → OpensSelected formats view state name read_only o (seen w.disk)
  here [] was w past is state stands = absurd (cc)
  here (v ∷ rest) was w past is state stands =
      let same : v ≡ w = first v w rest past is in
      let has = subst (λ r. HasTree formats r (seen w.disk) state.tree) (sym stands.root) stands.tree in
      let found = subst (λ x. (tree : Tree) → HasTree formats session.root (seen x.disk) tree → OpensFound formats session.root tree name (view o.store) session.fresh (seen x.disk)) same was.found state.tree has in
      let none = subst (λ x. (tree : Tree) → HasTree formats session.root (seen x.disk) tree → due_open tree name ≡ None) same was.due state.tree has in
      let at : OpensFound formats state.root state.tree name (view o.store) (fresh state) (seen w.disk) =
      subst (λ f. OpensFound formats state.root state.tree name (view o.store) f (seen w.disk)) stands.fresh_is (subst (λ r. OpensFound formats r state.tree name (view o.store) session.fresh (seen w.disk)) stands.root found) in
      record {
        found = at.found;
        none_due = none;
        sees_it = at.sees_it;
        open_is = record {
          name = was.name_is;
          read_only = was.read_only_is;
          recent = was.recent_is ∙ ap (λ s. map (λ (i : Info). i.uid) (unseen_before s.infos)) (sym (was.law.summarized (seen w.disk) at.mailbox.store.stands))
              ∙ ap (λ m. map (λ (i : Info). i.uid) (unseen_before (summary_of m).infos)) at.mailbox.store.mailbox;
          store = at.mailbox.store;
          in_tree = at.mailbox.in_tree;
        };
      }
    where
      first : (v w : World) (rest past : History) → v ∷ rest ≡ w ∷ past → v ≡ w
      first v w rest past is = cc

  pub opens_selected : (old : History) → WasOpened formats view session name read_only o old
      → Now old (λ w. (state : State) → StandsFor formats view session w.disk state → OpensSelected formats view state name read_only o (seen w.disk))
  opens_selected [] was = tt
  opens_selected (w ∷ past) was = λ state stands. here (w ∷ past) was w past refl state stands

-- a call that opened refused nothing
pub none_due : {T : Type 0} (formats : Formats) (root name : List ℕ) (value : T) (old : History) → AnswersBy formats root (λ tree. due_open tree name) (Ok value) old
    → Now old (λ w. (tree : Tree) → HasTree formats root (seen w.disk) tree → due_open tree name ≡ None)
none_due formats root name value [] answers = tt
none_due formats root name value (w ∷ past) answers = answers
