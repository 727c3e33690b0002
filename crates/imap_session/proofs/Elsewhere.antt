-- Messages that are added to a mailbox that isn't selected.
use Rattle.std.proofs.Common.{ℕ, true, false, List, [], ◌∷◌, ◌≡◌, ◌≢◌, inl, inr, refl, sym, ◌∙◌, ap, subst, bytes_eq, rules, Some, None, Ok, Err}
use Rattle.file_model.specs.Disk.{Disk, seen}
use Rattle.file_model.specs.Histories.{World, History, Now}
use Rattle.file_model.specs.Paths.{child}
use Rattle.any_store.specs.Choice.{Formats}
use Rattle.imap_reply.specs.declared.reply.Reply.TheVariants as reply
use Rattle.imap_reply.specs.declared.text.Words.{Words}
use Rattle.mail_tree.specs.Changes.{due_open}
use Rattle.mail_tree.specs.Changing.{tree_after}
use Rattle.mail_tree.specs.Mailboxes.{found_at}
use Rattle.mail_tree.specs.declared.fault.TreeFault.{TreeFault}
use Rattle.mail_tree.specs.declared.fault.TreeFault.TheVariants as faults
use Rattle.mail_tree.proofs.StandsOn.{through_change}
use Rattle.session_loop.specs.declared.answers.Stop.TheVariants.{FileFault, Memory}
use Rattle.store_trait.specs.declared.change.Change.{Change}
use Rattle.store_trait.specs.declared.faults.StoreFault.{StoreFault}
use Rattle.store_trait.specs.Laws.{IsView}
use Rattle.store_trait.specs.OwnPaths.{is_directory_driver, IsNoPath, MayChange}
use Rattle.store_trait.specs.Promises.{CanAsk}
use Rattle.store_trait.specs.Touching.{SeesBut}
use Rattle.store_trait.specs.Views.{View}
use Rattle.imap_session.specs.declared.adding.Brought.{Brought}
use Rattle.imap_session.specs.declared.refusal.Refusal.{Refusal}
use Rattle.imap_session.specs.declared.session.Open.{Open}
use Rattle.imap_session.specs.declared.session.Session.{Session}
use Rattle.imap_session.specs.Adding.{addition, addition_to, added_there, add_change_there, add_there, target_refusal, target_refused}
use Rattle.imap_session.specs.Asking.{is_named}
use Rattle.imap_session.specs.Committed.{HasChanged}
use Rattle.imap_session.specs.Doing.{Does}
use Rattle.imap_session.specs.Opening.{OpensSelected}
use Rattle.imap_session.specs.Refusals.{store_refusal, unless_store, due_of}
use Rattle.imap_session.specs.Select.{opened}
use Rattle.imap_session.specs.Standing.{IsOpen, StandsFor}
use Rattle.imap_session.specs.State.{Selected, State, Outcome, Unless, ◌>>=◌, fresh, only, or_leaves, with_tree}
use Rattle.imap_session.proofs.Askings.{by_found}
use Rattle.imap_session.proofs.ByName.{IsDue, IsRefusal, refused_by_tree}
use Rattle.imap_session.proofs.FetchSaid.{told_words}
use Rattle.imap_session.proofs.TreeChanges.{selection_on}
use Rattle.imap_session.proofs.TreeStays.{AreStores}
use Rattle.imap_session.proofs.Undue.{Aims, AimsTo}

-- ---- A target that can't be opened

is_target_refusal : (tag : List ℕ) (fault : TreeFault) → IsRefusal (target_refusal tag) fault (target_refused tag fault)
is_target_refusal tag faults.BadName = inr (refl, refl)
is_target_refusal tag faults.There = inr (refl, refl)
is_target_refusal tag faults.Absent = inr (refl, refl)
is_target_refusal tag faults.NotStore = inr (refl, refl)
is_target_refusal tag faults.HasChildren = inr (refl, refl)
is_target_refusal tag faults.Reserved = inr (refl, refl)
is_target_refusal tag faults.Selected = inr (refl, refl)
is_target_refusal tag (faults.Open fault) = inr (refl, refl)
is_target_refusal tag (faults.Store fault) = inr (refl, refl)
is_target_refusal tag faults.Failed = inl (FileFault, refl)
is_target_refusal tag faults.Memory = inl (Memory, refl)

module _ {S : Type 0} (formats : Formats) (view : S → View) (session : Session S) (tag : List ℕ) (word : Words) (name : List ℕ) (brought : List Brought) (names : List (List ℕ)) where
  abbrev pub lead : State → Outcome
  lead state = or_leaves state (add_there formats tag word state name brought names)

  -- it goes on with the mailbox that the name sees
  abbrev by_target : State → Unless Selected → Outcome
  by_target state target = or_leaves state (target >>= λ target. add_change_there formats tag word state target (addition_to false target brought names))

  pub target_due : (fault : TreeFault) (is : Refusal) (h : History) → is ≡ target_refused tag fault
      → Now h (λ w. (state : State) → StandsFor formats view session w.disk state → IsDue name fault state)
      → Does formats (StandsFor formats view session) (StandsFor formats view session) lead (Err is) [] h h
  target_due fault is h refused due =
      refused_by_tree formats view session session (λ state. state) (λ disk state stands. stands) (λ disk state alike. alike) lead (target_refusal tag)
      (λ state. due_open state.tree name ≡ Some fault) fault is h
      (subst (IsRefusal (target_refusal tag) fault) (sym refused) (is_target_refusal tag fault)) due
      (λ disk state stands due. ap (λ d. by_target state (by_found (target_refusal tag) tag state name d (found_at state.tree name))) due)

  -- ---- The mailbox that was opened

  module _ (o : Open S) (law : IsView formats.forms (view o.store)) where
    abbrev pub change : Change
    change = addition false (view o.store).driver (view o.store).summary.words brought names

    -- it is opened as the name sees it
    abbrev target : (state : State) (disk : Disk) → OpensSelected formats view state name true o (seen disk) → Selected
    target state disk it = opened true (fresh state) name it.found

    change_is : (disk : Disk) (state : State) (s : Selected) → IsOpen formats view state o (seen disk) s → addition_to false s brought names ≡ change
    change_is disk state s is =
        ap (λ w. addition false s.placed.driver w brought names) (sym (told_words formats view state o disk s law is))
        ∙ ap (λ d. addition false d (view o.store).summary.words brought names) (sym is.store.driver)

    leads_on : (disk : Disk) (state : State) (it : OpensSelected formats view state name true o (seen disk))
        → lead state ≡ or_leaves state (add_change_there formats tag word state (target state disk it) change)
    leads_on disk state it =
        ap (λ d. by_target state (by_found (target_refusal tag) tag state name d (found_at state.tree name))) it.none_due
        ∙ ap (λ f. by_target state (by_found (target_refusal tag) tag state name None f)) it.sees_it
        ∙ ap (λ c. or_leaves state (add_change_there formats tag word state (target state disk it) c)) (change_is disk state (target state disk it) it.open_is)

    done_there : (disk : Disk) (state : State) (it : OpensSelected formats view state name true o (seen disk)) → due_of formats (target state disk it).placed change ≡ None
        → lead state ≡ added_there formats tag word state (target state disk it) change
    done_there disk state it none =
        leads_on disk state it ∙ ap (λ d. or_leaves state (unless_store tag d >>= λ fits. Ok (added_there formats tag word state (target state disk it) change))) none

    refused_there : (disk : Disk) (state : State) (it : OpensSelected formats view state name true o (seen disk)) (fault : StoreFault) → due_of formats (target state disk it).placed change ≡ Some fault
        → lead state ≡ only state (store_refusal tag fault)
    refused_there disk state it fault due =
        leads_on disk state it ∙ ap (λ d. or_leaves state (unless_store tag d >>= λ fits. Ok (added_there formats tag word state (target state disk it) change))) due

    aims_there : (disk : Disk) (state : State) → StandsFor formats view session disk state → OpensSelected formats view state name true o (seen disk)
        → Aims formats view session lead tag change (view o.store) disk state
    aims_there disk state stands it = record {
      s = target state disk it;
      recent = [];
      here = record { some = stands.some_root; stands = stands.stands; mailbox = record { tree_seen = stands.tree; store = it.open_is.store; in_tree = it.open_is.in_tree } };
      root = λ none. ap (λ x. x.next.root) (done_there disk state it none);
      tree = λ none. ap (λ x. x.next.tree) (done_there disk state it none);
      refused = refused_there disk state it;
    }

    -- by what is seen now
    pub aims_now : (h : History) → Now h (λ w. (state : State) → StandsFor formats view session w.disk state → OpensSelected formats view state name true o (seen w.disk))
        → Now h (λ w. (state : State) → StandsFor formats view session w.disk state → Aims formats view session lead tag change (view o.store) w.disk state)
    aims_now [] opens = tt
    aims_now (w ∷ past) opens = λ state stands. aims_there w.disk state stands (opens state stands)

    -- its store can be asked
    pub can_ask_there : (h : History) → Now h (λ w. (state : State) × StandsFor formats view session w.disk state)
        → Now h (λ w. (state : State) → StandsFor formats view session w.disk state → OpensSelected formats view state name true o (seen w.disk)) → CanAsk (view o.store) h
    can_ask_there [] now opens = inr tt
    can_ask_there (w ∷ past) now opens = inr (opens now.0 now.1).open_is.store.stands

    -- ---- What is selected stands on behind the change

    module _ (stores : AreStores formats view) (other : is_named session.selected name ≡ false) (is : View) where
      apart : (p : Open S) (s : Selected) (state : State) (disk : Disk) → session.selected ≡ Some p → IsOpen formats view state p (seen disk) s → s.placed.name ≢ name
      apart p s state disk at open_is same =
          clash (sym (sym (ap (λ q. is_named q name) at) ∙ other) ∙ ap (λ n. bytes_eq n name) (open_is.name ∙ same) ∙ self name)
        where
          self : (bytes : List ℕ) → bytes_eq bytes bytes ≡ true
          self bytes = search rules

          clash : false ≡ true → ⊥
          clash e = absurd (cc)

      stands_there : (disk : Disk) (state : State) → StandsFor formats view session disk state → (it : OpensSelected formats view state name true o (seen disk)) (a b : World) → a.disk ≡ disk
          → SeesBut (MayChange (view o.store).driver (view o.store).path) IsNoPath a.disk b.disk → HasChanged formats state (target state disk it) [] change is a b
          → StandsFor formats view session b.disk (with_tree state (tree_after formats state.tree (target state disk it).placed change))
      stands_there disk state stands it a b same sees changed = record {
        root = stands.root;
        moment = stands.moment;
        some = stands.some;
        fresh_is = stands.fresh_is;
        some_root = stands.some_root;
        stands = changed.stands;
        tree = changed.mailbox.tree_seen;
        selected = selection_on formats view state (tree_after formats state.tree (target state disk it).placed change) (seen disk) (seen b.disk) session.selected state.selected stands.tree
            (λ p s here open_is at. through_change formats stores.reads state.root (view p.store) (stores.is_view p.store) (stores.of_files p.store) disk b.disk state.tree s.placed at
            (target state disk it).placed change (apart p s state disk here open_is) (subst (λ d. is_directory_driver d ≡ false) it.open_is.store.driver (stores.of_files o.store)) it.open_is.in_tree
            (touched (subst (λ d. SeesBut (MayChange (view o.store).driver (view o.store).path) IsNoPath d b.disk) same sees)) changed.mailbox.tree_seen)
            stands.selected;
      }
        where
          touched : SeesBut (MayChange (view o.store).driver (view o.store).path) IsNoPath disk b.disk → SeesBut (MayChange (target state disk it).placed.driver (child state.root name)) IsNoPath disk b.disk
          touched sees =
              subst (λ p. SeesBut (MayChange (target state disk it).placed.driver p) IsNoPath disk b.disk) it.open_is.store.path
              (subst (λ d. SeesBut (MayChange d (view o.store).path) IsNoPath disk b.disk) it.open_is.store.driver sees)

      aims_to_there : (disk : Disk) (state : State) → StandsFor formats view session disk state → OpensSelected formats view state name true o (seen disk)
          → AimsTo formats view session lead tag change (view o.store) session is [] (reply.Done tag word) disk state
      unfolding aims_there
      aims_to_there disk state stands it = record {
        aims = aims_there disk state stands it;
        untagged = λ none. ap (λ x. x.untagged) (done_there disk state it none);
        ends = λ none. sym (ap (λ x. x.last) (done_there disk state it none));
        stands = λ none a b same sees changed. subst (λ x. StandsFor formats view session b.disk x.next) (sym (done_there disk state it none)) (stands_there disk state stands it a b same sees changed);
      }

      pub aims_to_now : (h : History) → Now h (λ w. (state : State) → StandsFor formats view session w.disk state → OpensSelected formats view state name true o (seen w.disk))
          → Now h (λ w. (state : State) → StandsFor formats view session w.disk state → AimsTo formats view session lead tag change (view o.store) session is [] (reply.Done tag word) w.disk state)
      aims_to_now [] opens = tt
      aims_to_now (w ∷ past) opens = λ state stands. aims_to_there w.disk state stands (opens state stands)
