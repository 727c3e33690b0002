-- SELECT and EXAMINE: from what the calls do to what the command leads to.
use Rattle.std.proofs.Common.{ℕ, List, [], ◌∷◌, ◌≡◌, ◌≤◌, refl, sym, ◌∙◌, ap, subst, length, if◌then◌else◌, Bool, true, false, Option, Some, None, Result, Ok, Err, OnOk}
use Rattle.std.proofs.lemmas.List.{append-nil}
use Rattle.file_model.specs.Arrived.{Arrived}
use Rattle.file_model.specs.Disk.{Disk, seen}
use Rattle.file_model.specs.Histories.{World, History, Now, Passed}
use Rattle.file_model.specs.Images.{is_directory}
use Rattle.file_model.proofs.Passes.{passed_none, passed_weaker, arrived_none, arrived_weaker}
use Rattle.file_model.proofs.Runs.{now_weaker}
use Rattle.any_store.specs.Choice.{Formats}
use Rattle.imap_reply.specs.declared.reply.Reply.{Reply}
use Rattle.imap_reply.specs.declared.reply.Reply.TheVariants as reply
use Rattle.imap_reply.specs.declared.text.NoText.TheVariants as no
use Rattle.mail_tree.proofs.Nodes.{AreFormats}
use Rattle.mail_tree.specs.Changes.{due_open}
use Rattle.mail_tree.specs.Changing.{IsMailboxAt, IsStoreOf}
use Rattle.mail_tree.specs.Trees.{HasTree}
use Rattle.mail_tree.specs.Mailboxes.{Found, found_at}
use Rattle.mail_tree.specs.Names.{read_name}
use Rattle.mail_tree.specs.declared.fault.TreeFault.{TreeFault}
use Rattle.mail_types.specs.declared.driver.Keeps.{Keeps}
use Rattle.session_loop.specs.declared.answers.Stop.{Stop}
use Rattle.store_trait.specs.declared.change.Change.{Change}
use Rattle.store_trait.specs.Changes.{IsNextWords}
use Rattle.store_trait.specs.Laws.{IsView}
use Rattle.store_trait.specs.Promises.{CanAsk, RanOnFiles}
use Rattle.store_trait.specs.Views.{View, summary_of}
use Rattle.std.proofs.Common.{inr}
use Rattle.imap_session.specs.declared.refusal.Refusal.{Refusal}
use Rattle.imap_session.specs.declared.refusal.Refusal.TheVariants.{Line as Refused, Ends}
use Rattle.imap_session.specs.declared.session.Open.{Open}
use Rattle.imap_session.specs.declared.session.Session.{Session}
use Rattle.imap_session.specs.Committed.{IsHere, HasChanged, Commits}
use Rattle.imap_session.specs.Doing.{Alike, Committing, HasCommitted, Does}
use Rattle.imap_session.specs.Endings.{ends_with}
use Rattle.imap_session.specs.Laws.{kept}
use Rattle.imap_session.specs.Lines.{reply_lines}
use Rattle.imap_session.specs.Opening.{OpensSelected}
use Rattle.imap_session.specs.Putting.{PutsLines}
use Rattle.imap_session.specs.Refusals.{or_refused, unless_due, tree_refusal, refused_by}
use Rattle.imap_session.specs.Select.{opened, opening, told, select, select_opened, selected_lines, last_line}
use Rattle.imap_session.specs.Selecting.{told_lines, old_change, told_selected, HasTold, TellsAll}
use Rattle.imap_session.specs.Standing.{IsOpen, IsSelection, StandsFor}
use Rattle.imap_session.specs.State.{Selected, State, Outcome, ◌>>=◌, fresh, unselected, changed_selected, changed_state, or_leaves, only}
use Rattle.std.specs.Result.{IsErrAnd}
use Rattle.imap_session.proofs.Exits.{ended_so}
use Rattle.imap_session.proofs.Changing.{none_ran}
use Rattle.imap_session.proofs.Doing.{Led, led_does, ends_in_files}
use Rattle.imap_session.proofs.ByName.{IsRefusal, IsDue, is_refusal, leaves_at, refused_by_tree}

-- the keyword list as it is can be the next one
pub next_same : (keeps : Keeps) (words : List (List ℕ)) → length words ≤ keeps.words → IsNextWords keeps words words
next_same keeps words few = record { more = []; begins = sym (append-nil words); adds = tt; few = few }

-- what both branches of a test have
if_both : {A B : Type 0} (f : A → B) (b : Bool) (x y : A) (v : B) → f x ≡ v → f y ≡ v → f (if b then x else y) ≡ v
if_both f true x y v one two = one
if_both f false x y v one two = two

if_same : {A B C : Type 0} (f : A → C) (g : B → C) (b : Bool) (x y : A) (v w : B) → f x ≡ g v → f y ≡ g w → f (if b then x else y) ≡ g (if b then v else w)
if_same f g true x y v w one two = one
if_same f g false x y v w one two = two

-- ---- Each message is old from now on

module _ (formats : Formats) (state : State) (s : Selected) where
  abbrev old_of : Change
  old_of = old_change (summary_of s.placed.mailbox)

  changes_told : s.read_only ≡ false → told formats state s ≡ changed_state formats state s s.recent old_of
  changes_told writable = ap (λ b. if b then record state { selected = Some s } else changed_state formats state s s.recent old_of) writable

  changes_selected : s.read_only ≡ false → told_selected s ≡ changed_selected s s.recent old_of
  changes_selected writable = ap (λ b. if b then s else changed_selected s s.recent old_of) writable

  leaves_told : s.read_only ≡ true → told formats state s ≡ record state { selected = Some s }
  leaves_told read_only = ap (λ b. if b then record state { selected = Some s } else changed_state formats state s s.recent old_of) read_only

  leaves_selected : s.read_only ≡ true → told_selected s ≡ s
  leaves_selected read_only = ap (λ b. if b then s else changed_selected s s.recent old_of) read_only

  module _ (was is : View) where
    has_told : s.read_only ≡ false → (a b : World) → HasChanged formats state s s.recent old_of is a b → HasTold formats state s is a b
    has_told writable a b changed = record {
      streams = changed.streams;
      stands = changed.stands;
      mailbox = subst (λ p. IsMailboxAt formats state.root is (seen b.disk) (told formats state s).tree p.placed) (sym (changes_selected writable))
          (subst (λ n. IsMailboxAt formats state.root is (seen b.disk) n.tree (changed_selected s s.recent old_of).placed) (sym (changes_told writable)) changed.mailbox);
      still_alike = subst (λ n. Alike formats state a.disk → Alike formats n b.disk) (sym (changes_told writable)) changed.still_alike;
    }

    commits_told : s.read_only ≡ false → (change : Change) → change ≡ old_of → (result : Result (Unit {0}) Stop) (old new : History)
        → Commits formats state s s.recent change is result old new → TellsAll formats state s is result old new
    commits_told writable change same result old new commits =
        let it = subst (λ c. Commits formats state s s.recent c is result old new) same commits in
        record { instants = subst (λ n. Passed (Committing formats state n) old new) (sym (changes_told writable)) it.instants; done = by_end result it.done }
      where
        by_end : (result : Result (Unit {0}) Stop) → OnOk result (Arrived (HasChanged formats state s s.recent old_of is) old new) → OnOk result (Arrived (HasTold formats state s is) old new)
        by_end (Ok u) done = arrived_weaker (HasChanged formats state s s.recent old_of is) (HasTold formats state s is) (has_told writable) old new done
        by_end (Err stop) done = tt

    -- a store's mailbox is the one that is selected
    old_is : {forms : _} → IsView forms was → (a : World) → IsHere formats state s was (seen a.disk) → old_change was.summary ≡ old_of
    old_is law a here = ap old_change (sym (law.summarized (seen a.disk) here.mailbox.store.stands) ∙ ap summary_of here.mailbox.store.mailbox)

    untold_end : (result : Result (Unit {0}) Stop) (new : History) → RanOnFiles [] new → OnOk result (Arrived (HasTold formats state s is) [] new)
    untold_end (Ok u) new run = none_ran new run
    untold_end (Err stop) new run = tt

    -- the change by which each message is old
    pub tells_change : IsView formats.forms was → s.read_only ≡ false → (change : Change) → change ≡ old_change was.summary → (result : Result (Unit {0}) Stop) (old new : History)
        → Now old (λ w. IsHere formats state s was (seen w.disk)) → RanOnFiles old new
        → ((recent : List ℕ) → Commits formats state s recent change is result old new) → TellsAll formats state s is result old new
    tells_change law writable change same result [] new here run commits = record {
      instants = record { added = run.added; whole = run.whole; each = run.each };
      done = untold_end result new run;
    }
    tells_change law writable change same result (a ∷ past) new here run commits =
        commits_told writable change (same ∙ old_is law a here) result (a ∷ past) new (commits s.recent)

  -- EXAMINE changes nothing
  has_told_none : (is : View) → s.read_only ≡ true → (w : World) → IsHere formats state s is (seen w.disk) → HasTold formats state s is w w
  has_told_none is read_only w here = record {
    streams = refl;
    stands = here.stands;
    mailbox = subst (λ p. IsMailboxAt formats state.root is (seen w.disk) (told formats state s).tree p.placed) (sym (leaves_selected read_only))
        (subst (λ n. IsMailboxAt formats state.root is (seen w.disk) n.tree s.placed) (sym (leaves_told read_only)) here.mailbox);
    still_alike = subst (λ n. Alike formats state w.disk → Alike formats n w.disk) (sym (leaves_told read_only)) (λ same. same);
  }

  pub tells_none : (is : View) → s.read_only ≡ true → (h : History) → Now h (λ w. IsHere formats state s is (seen w.disk)) → TellsAll formats state s is (Ok tt) h h
  tells_none is read_only h here = record {
    instants = passed_none (Committing formats state (told formats state s)) h;
    done = arrived_none (HasTold formats state s is) h
        (now_weaker (λ w. IsHere formats state s is (seen w.disk)) (λ w. HasTold formats state s is w w) (λ w here. has_told_none is read_only w here) h here);
  }

  pub tells_stop : (is : View) (stop : Stop) (h : History) → TellsAll formats state s is (Err stop) h h
  tells_stop is stop h = record { instants = passed_none (Committing formats state (told formats state s)) h; done = tt }

-- ---- The mailbox that was selected is left

pub unselected_stands : {S : Type 0} (formats : Formats) (view : S → View) (session : Session S) (disk : Disk) (state : State)
    → StandsFor formats view session disk state → StandsFor formats view (record session { selected = None }) disk (unselected state)
unselected_stands formats view session disk state stands = record {
  root = stands.root;
  moment = stands.moment;
  some = stands.some;
  fresh_is = stands.fresh_is;
  some_root = stands.some_root;
  stands = stands.stands;
  tree = stands.tree;
  selected = tt;
}

-- ---- What the command leads to

-- it goes on with the name
abbrev by_name : Formats → List ℕ → Bool → State → Option (List ℕ) → Outcome
by_name formats tag read_only state read = or_leaves (unselected state) (or_refused (reply.Refused tag no.BadName) read
    >>= λ name. opening (tree_refusal tag) tag read_only state name >>= λ s. Ok (select_opened formats tag (unselected state) s))

-- and with what the name sees
abbrev by_due : Formats → List ℕ → Bool → State → List ℕ → Option TreeFault → Option Found → Outcome
by_due formats tag read_only state name due found = or_leaves (unselected state)
    ((unless_due (tree_refusal tag) due >>= λ stands. or_refused (reply.Refused tag no.NotStore) found >>= λ found. Ok (opened read_only (fresh state) name found))
    >>= λ s. Ok (select_opened formats tag (unselected state) s))

module _ (formats : Formats) (read_only : Bool) (tag bytes : List ℕ) (state : State) where
  pub bad_name : read_name bytes ≡ None → select formats read_only tag bytes state ≡ only (unselected state) (reply.Refused tag no.BadName)
  bad_name none = ap (by_name formats tag read_only state) none

  pub due_refused : (name : List ℕ) (fault : TreeFault) → read_name bytes ≡ Some name → due_open state.tree name ≡ Some fault
      → select formats read_only tag bytes state ≡ only (unselected state) (tree_refusal tag fault)
  due_refused name fault read due = ap (by_name formats tag read_only state) read
      ∙ ap (λ d. by_due formats tag read_only state name d (found_at state.tree name)) due

  pub selects_found : (name : List ℕ) (found : Found) → read_name bytes ≡ Some name → due_open state.tree name ≡ None → found_at state.tree name ≡ Some found
      → select formats read_only tag bytes state ≡ select_opened formats tag (unselected state) (opened read_only (fresh state) name found)
  selects_found name found read none sees_it = ap (by_name formats tag read_only state) read
      ∙ ap (λ d. by_due formats tag read_only state name d (found_at state.tree name)) none
      ∙ ap (by_due formats tag read_only state name None) sees_it

-- it is refused by the name, and by the tree
module _ {S : Type 0} (formats : Formats) (view : S → View) (session : Session S) (read_only : Bool) (tag bytes : List ℕ) (h : History) where
  pub bad_name_does : read_name bytes ≡ None
      → Does formats (StandsFor formats view session) (StandsFor formats view (record session { selected = None })) (select formats read_only tag bytes) (Err (Refused (reply.Refused tag no.BadName))) [] h h
  bad_name_does none = leaves_at formats view session (record session { selected = None }) unselected (unselected_stands formats view session) (λ disk state alike. alike)
      (select formats read_only tag bytes) (reply.Refused tag no.BadName) h (λ disk state stands. bad_name formats read_only tag bytes state none)

  pub due_does : (name : List ℕ) (fault : TreeFault) (is : Refusal) → read_name bytes ≡ Some name → is ≡ refused_by tag fault
      → Now h (λ w. (state : State) → StandsFor formats view (record session { selected = None }) w.disk state → IsDue name fault state)
      → Does formats (StandsFor formats view session) (StandsFor formats view (record session { selected = None })) (select formats read_only tag bytes) (Err is) [] h h
  due_does name fault is read refused due = refused_by_tree formats view session (record session { selected = None }) unselected (unselected_stands formats view session) (λ disk state alike. alike)
      (select formats read_only tag bytes) (tree_refusal tag) (λ state. due_open state.tree name ≡ Some fault) fault is h (subst (IsRefusal (tree_refusal tag) fault) (sym refused) (is_refusal tag fault))
      (now_weaker (λ w. (state : State) → StandsFor formats view (record session { selected = None }) w.disk state → IsDue name fault state) (λ w. (state : State) → StandsFor formats view session w.disk state → IsDue name fault state)
      (λ w due state stands. due (unselected state) (unselected_stands formats view session w.disk state stands)) h due)
      (λ disk state stands due. due_refused formats read_only tag bytes state name fault read due)

-- ---- Its end

-- an opened mailbox goes on with another store
pub record SameNamed {S : Type 0} (o p : Open S) : Type 0 where
  pub name : p.name ≡ o.name
  pub read_only : p.read_only ≡ o.read_only
  pub recent : p.recent ≡ o.recent

module _ {S : Type 0} (formats : Formats) (view : S → View) (session : Session S) (read_only : Bool) (tag bytes name : List ℕ) (o p : Open S) (old : History)
    (read : read_name bytes ≡ Some name)
    (opens : Now old (λ w. (state : State) → StandsFor formats view (record session { selected = None }) w.disk state → OpensSelected formats view state name read_only o (seen w.disk))) where
  abbrev left : Session S
  left = record session { selected = None }

  abbrev after : Session S
  after = record session { selected = Some p }

  -- what is known where the files are told
  record Opened (state : State) (a : World) : Type 0 where
    pub s : Selected
    pub here : IsHere formats (unselected state) s (view o.store) (seen a.disk)
    pub open_is : IsOpen formats view (unselected state) o (seen a.disk) s
    pub read_only_is : s.read_only ≡ read_only
    pub leads : select formats read_only tag bytes state ≡ select_opened formats tag (unselected state) s

  opened_here : (a : World) (state : State) → StandsFor formats view session a.disk state
      → ((state : State) → StandsFor formats view left a.disk state → OpensSelected formats view state name read_only o (seen a.disk)) → Opened state a
  opened_here a state stands opens =
      let stands_left = unselected_stands formats view session a.disk state stands in
      let it = opens (unselected state) stands_left in
      record {
        s = opened read_only (fresh state) name it.found;
        here = record { some = stands.some_root; stands = stands.stands; mailbox = record { tree_seen = stands.tree; store = it.open_is.store; in_tree = it.open_is.in_tree } };
        open_is = it.open_is;
        read_only_is = refl;
        leads = selects_found formats read_only tag bytes state name it.found read it.none_due it.sees_it;
      }

  -- an opened store can be asked
  pub can_ask_opened : Now old (λ w. (state : State) × StandsFor formats view session w.disk state) → CanAsk (view o.store) old
  can_ask_opened now = inr (each old opens now)
    where
      each : (h : History) → Now h (λ w. (state : State) → StandsFor formats view left w.disk state → OpensSelected formats view state name read_only o (seen w.disk))
          → Now h (λ w. (state : State) × StandsFor formats view session w.disk state) → Now h (λ w. (view o.store).stands (seen w.disk))
      each [] opens now = tt
      each (a ∷ past) opens now = (opened_here a now.0 now.1 opens).open_is.store.stands

  -- what a command makes of the files, where the tree stays so far
  committing : (state n : State) (h new : History) → Passed (Committing formats (unselected state) n) h new → Passed (Committing formats state n) h new
  committing state n h new run = passed_weaker (Committing formats (unselected state) n) (Committing formats state n) (λ a b is. record { streams = is.streams; crash = is.crash }) h new run

  -- how a mailbox is told, wherever it is the opened one
  abbrev TellsFrom : Result (Unit {0}) Stop → (h new : History) → Type 0
  TellsFrom result h new = (state : State) (s : Selected) → s.read_only ≡ o.read_only → Now h (λ w. IsHere formats state s (view o.store) (seen w.disk)) → TellsAll formats state s (view p.store) result h new

  abbrev OpensFrom : History → Type 0
  OpensFrom h = Now h (λ w. (state : State) → StandsFor formats view left w.disk state → OpensSelected formats view state name read_only o (seen w.disk))

  passes : (result : Result (Unit {0}) Stop) (h new : History) → OpensFrom h → RanOnFiles h new → TellsFrom result h new
      → (state : State) → Now h (λ w. StandsFor formats view session w.disk state) → Passed (Committing formats state (select formats read_only tag bytes state).next) h new
  passes result [] new opens run tells state now = record { added = run.added; whole = run.whole; each = run.each }
  passes result (a ∷ past) new opens run tells state now =
      let it = opened_here a state now opens in
      subst (λ outcome. Passed (Committing formats state outcome.next) (a ∷ past) new) (sym it.leads)
      (committing state (told formats (unselected state) it.s) (a ∷ past) new (tells (unselected state) it.s (sym it.open_is.read_only) it.here).instants)

  -- the session ends as the mailbox is told
  pub select_ends : (later : Disk → State → Type 0) (stop : Stop) (waits : List ℕ) (result : Result (Unit {0}) Stop) (ended : Result Reply Refusal) (start new : History) → IsErrAnd ended (λ e. e ≡ Ends stop) → start ≡ old → RanOnFiles start new → TellsFrom result start new
      → Does formats (StandsFor formats view session) later (select formats read_only tag bytes) ended waits old new
  select_ends later stop waits result ended start new ends same run tells =
      subst (λ r. Does formats (StandsFor formats view session) later (select formats read_only tag bytes) r waits old new) (sym (ended_so ended stop ends)) (ends_in_files formats (StandsFor formats view session) later (select formats read_only tag bytes) stop waits old new
      (passes result old new opens (subst (λ h. RanOnFiles h new) same run) (subst (λ h. TellsFrom result h new) same tells)))

  module _ (same : SameNamed o p) where
    selected_stands : (a : World) (state : State) → StandsFor formats view session a.disk state → (it : Opened state a) → (x y : World) → HasTold formats (unselected state) it.s (view p.store) x y
        → StandsFor formats view after y.disk (told formats (unselected state) it.s)
    selected_stands a state stands it x y told_it =
        let st = unselected state in
        let s = it.s in
        let one = record st { selected = Some s } in
        let other = changed_state formats st s s.recent (old_change (summary_of s.placed.mailbox)) in
        record {
          root = stands.root ∙ sym (if_both (λ (n : State). n.root) s.read_only one other state.root refl refl);
          moment = stands.moment ∙ sym (if_both (λ (n : State). n.moment) s.read_only one other state.moment refl refl);
          some = subst (λ m. 1 ≤ m) (sym (if_both (λ (n : State). n.moment) s.read_only one other state.moment refl refl)) stands.some;
          fresh_is = stands.fresh_is ∙ sym (if_both fresh s.read_only one other (fresh state) refl refl);
          some_root = subst (λ r. 1 ≤ length r) (sym (if_both (λ (n : State). n.root) s.read_only one other state.root refl refl)) stands.some_root;
          stands = subst (λ r. is_directory (seen y.disk) r ≡ true) (sym (if_both (λ (n : State). n.root) s.read_only one other state.root refl refl)) told_it.stands;
          tree = subst (λ r. HasTree formats r (seen y.disk) (told formats st s).tree) (sym (if_both (λ (n : State). n.root) s.read_only one other state.root refl refl)) told_it.mailbox.tree_seen;
          selected = subst (λ sel. IsSelection formats view (told formats st s) (Some p) (seen y.disk) sel)
              (sym (if_same (λ (n : State). n.selected) (λ (t : Selected). Some t) s.read_only one other s (changed_selected s s.recent (old_change (summary_of s.placed.mailbox))) refl refl))
              (record {
                name = same.name ∙ it.open_is.name ∙ sym (if_both (λ (t : Selected). t.placed.name) s.read_only s (changed_selected s s.recent (old_change (summary_of s.placed.mailbox))) s.placed.name refl refl);
                read_only = same.read_only ∙ it.open_is.read_only ∙ sym (if_both (λ (t : Selected). t.read_only) s.read_only s (changed_selected s s.recent (old_change (summary_of s.placed.mailbox))) s.read_only refl refl);
                recent = same.recent ∙ it.open_is.recent ∙ sym (if_both (λ (t : Selected). t.recent) s.read_only s (changed_selected s s.recent (old_change (summary_of s.placed.mailbox))) s.recent refl refl);
                store = subst (λ r. IsStoreOf formats r (view p.store) (seen y.disk) (told_selected s).placed) (sym (if_both (λ (n : State). n.root) s.read_only one other state.root refl refl)) told_it.mailbox.store;
                in_tree = told_it.mailbox.in_tree;
              });
        }

    -- what is said of it
    lines_are : (law : IsView formats.forms (view o.store)) (a : World) (state : State) (it : Opened state a)
        → selected_lines it.s ≡ told_lines (view o.store).driver o.read_only o.recent (view o.store).summary
    lines_are law a state it =
        let s = it.s in
        ap (λ d. told_lines d s.read_only s.recent (summary_of s.placed.mailbox)) (sym it.open_is.store.driver)
        ∙ ap (λ b. told_lines (view o.store).driver b s.recent (summary_of s.placed.mailbox)) (sym it.open_is.read_only)
        ∙ ap (λ r. told_lines (view o.store).driver o.read_only r (summary_of s.placed.mailbox)) (sym it.open_is.recent)
        ∙ ap (told_lines (view o.store).driver o.read_only o.recent) (ap summary_of (sym it.open_is.store.mailbox) ∙ law.summarized (seen a.disk) it.open_is.store.stands)

    module _ (laws : AreFormats formats) (law : IsView formats.forms (view o.store)) (lines : List Reply) (are : lines ≡ told_lines (view o.store).driver o.read_only o.recent (view o.store).summary)
        (last : Reply) (ends_so : last ≡ last_line tag read_only) where
      led : (h new : History) → OpensFrom h → RanOnFiles h new → TellsFrom (Ok tt) h new → (state : State) → Now h (λ w. StandsFor formats view session w.disk state)
          → Led formats (kept formats laws) (StandsFor formats view after) (select formats read_only tag bytes state) (reply_lines lines) last state h new
      led [] new opens run tells state now = record {
        run = record { added = run.added; whole = run.whole; each = run.each };
        made = none_ran new run;
        facts = tt;
      }
      led (a ∷ past) new opens run tells state now =
          let it = opened_here a state now opens in
          let all = tells (unselected state) it.s (sym it.open_is.read_only) it.here in
          record {
            run = passes (Ok tt) (a ∷ past) new opens run tells state now;
            made = subst (λ outcome. Arrived (HasCommitted formats (StandsFor formats view after) state outcome.next) (a ∷ past) new) (sym it.leads)
                (arrived_weaker (HasTold formats (unselected state) it.s (view p.store)) (HasCommitted formats (StandsFor formats view after) state (told formats (unselected state) it.s))
                (λ x y told_it. record { streams = told_it.streams; is_state = selected_stands a state now it x y told_it; still_alike = told_it.still_alike }) (a ∷ past) new all.done);
            facts = (
              ap (λ outcome. outcome.untagged) it.leads ∙ ap reply_lines (lines_are law a state it ∙ sym are),
              ends_so ∙ ap (last_line tag) (sym it.read_only_is) ∙ sym (ap (λ outcome. outcome.last) it.leads),
            );
          }

      -- the mailbox is selected and told, its lines are put and the last one is left
      pub selects_does : (was waits : List ℕ) (put : Result (Unit {0}) Stop) (result : Result Reply Refusal) (start mid new : History) → start ≡ old → RanOnFiles start mid → TellsFrom (Ok tt) start mid
          → was ≡ [] → PutsLines (reply_lines lines) was waits put mid new → result ≡ ends_with put last
          → Does formats (StandsFor formats view session) (StandsFor formats view after) (select formats read_only tag bytes) result waits old new
      selects_does was waits put result start mid new begins run tells none puts ends =
          led_does formats (kept formats laws) (StandsFor formats view after) (StandsFor formats view session) (select formats read_only tag bytes) (reply_lines lines) last waits put result old mid new
          (led old mid opens (subst (λ h. RanOnFiles h mid) begins run) (subst (λ h. TellsFrom (Ok tt) h mid) begins tells)) (subst (λ w. PutsLines (reply_lines lines) w waits put mid new) none puts) ends
