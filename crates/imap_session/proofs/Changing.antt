-- The exit of a command behind a change of the selected mailbox.
use Rattle.std.proofs.Common.{ℕ, List, [], ◌∷◌, ◌++◌, ◌≡◌, sym, ◌∙◌, ap, subst, Some, Result, Ok, Err}
use Rattle.file_model.specs.Disk.{Disk, seen}
use Rattle.file_model.specs.Histories.{World, History, Now, Passed}
use Rattle.file_model.specs.Arrived.{Arrived}
use Rattle.file_model.proofs.Passes.{arrived_weaker}
use Rattle.any_store.specs.Choice.{Formats}
use Rattle.imap_reply.specs.declared.reply.Reply.{Reply}
use Rattle.mail_tree.proofs.Nodes.{AreFormats}
use Rattle.session_loop.specs.declared.answers.Stop.{Stop}
use Rattle.store_trait.specs.declared.change.Change.{Change}
use Rattle.store_trait.specs.Promises.{CanAsk, RanOnFiles}
use Rattle.store_trait.specs.Views.{View}
use Rattle.std.proofs.Common.{inr}
use Rattle.file_model.proofs.Runs.{now_weaker}
use Rattle.imap_session.specs.declared.refusal.Refusal.{Refusal}
use Rattle.imap_session.specs.declared.refusal.Refusal.TheVariants.{Ends}
use Rattle.imap_session.specs.declared.session.Open.{Open}
use Rattle.imap_session.specs.declared.session.Session.{Session}
use Rattle.imap_session.specs.Committed.{IsHere, HasChanged, Commits}
use Rattle.imap_session.specs.Doing.{Committing, HasCommitted, Does}
use Rattle.imap_session.specs.Endings.{ends_with}
use Rattle.imap_session.specs.Lines.{Line}
use Rattle.imap_session.specs.Putting.{PutsLines}
use Rattle.imap_session.specs.Standing.{IsOpen, IsSelection, StandsFor}
use Rattle.imap_session.specs.State.{Selected, State, Outcome, changed_selected, changed_state}
use Rattle.imap_session.proofs.Doing.{Led, led_does, ends_in_files}
use Rattle.imap_session.specs.Laws.{kept}
use Rattle.imap_session.proofs.Selections.{Selects, selects}

-- the session goes on with another selection
pub record GoesOn {S : Type 0} (session after : Session S) : Type 0 where
  pub root : after.root ≡ session.root
  pub moment : after.moment ≡ session.moment
  pub fresh : after.fresh ≡ session.fresh

-- the open mailbox is the same, whose recent messages may be others
pub record SameOpen {S : Type 0} (o p : Open S) (recent : List ℕ) : Type 0 where
  pub name : p.name ≡ o.name
  pub read_only : p.read_only ≡ o.read_only
  pub recent_is : p.recent ≡ recent

-- a run on files, on a host that tells nothing
pub none_ran : (new : History) → RanOnFiles [] new → new ≡ []
none_ran new run = run.whole ∙ ap (λ l. l ++ []) run.each

module _ {S : Type 0} (formats : Formats) (view : S → View) (session : Session S) (o : Open S) where
  -- the selected mailbox is here
  pub here_of : (disk : Disk) (state : State) (stands : StandsFor formats view session disk state) (sel : Selects formats view state o (seen disk)) → IsHere formats state sel.s (view o.store) (seen disk)
  here_of disk state stands sel = record {
    some = stands.some_root;
    stands = stands.stands;
    mailbox = record { tree_seen = stands.tree; store = sel.open_is.store; in_tree = sel.open_is.in_tree };
  }

  -- its store can be asked
  pub can_ask : session.selected ≡ Some o → (h : History) → Now h (λ w. (state : State) × StandsFor formats view session w.disk state) → CanAsk (view o.store) h
  can_ask some h now = inr (now_weaker (λ w. (state : State) × StandsFor formats view session w.disk state) (λ w. (view o.store).stands (seen w.disk))
      (λ w is. (selects formats view session o w.disk is.0 is.1 some).open_is.store.stands) h now)

  module _ (after : Session S) (p : Open S) (recent : List ℕ) (change : Change) where
    -- the session stands for the state after the change
    pub stands_changed : (disk : Disk) (state : State) (stands : StandsFor formats view session disk state) (sel : Selects formats view state o (seen disk))
        → GoesOn session after → after.selected ≡ Some p → SameOpen o p recent → (a b : World) → HasChanged formats state sel.s recent change (view p.store) a b
        → StandsFor formats view after b.disk (changed_state formats state sel.s recent change)
    stands_changed disk state stands sel goes_on now_open same a b changed = record {
      root = goes_on.root ∙ stands.root;
      moment = goes_on.moment ∙ stands.moment;
      some = stands.some;
      fresh_is = goes_on.fresh ∙ stands.fresh_is;
      some_root = stands.some_root;
      stands = changed.stands;
      tree = changed.mailbox.tree_seen;
      selected = subst (λ q. IsSelection formats view (changed_state formats state sel.s recent change) q (seen b.disk) (Some (changed_selected sel.s recent change))) (sym now_open) (record {
        name = same.name ∙ sel.open_is.name;
        read_only = same.read_only ∙ sel.open_is.read_only;
        recent = same.recent_is;
        store = changed.mailbox.store;
        in_tree = changed.mailbox.in_tree;
      });
    }

    -- What a command is that makes this change: its next state and its lines, on any disk where the session stands.
    pub record Tells (lead : State → Outcome) (lines : List Line) (last : Reply) (state : State) (s : Selected) : Type 0 where
      pub next : (lead state).next ≡ changed_state formats state s recent change
      pub untagged : (lead state).untagged ≡ lines
      pub ends : last ≡ (lead state).last

    module _ (lead : State → Outcome) (lines : List Line) (last : Reply)
        (some : session.selected ≡ Some o)
        (tells : (disk : Disk) (state : State) (s : Selected) → StandsFor formats view session disk state → state.selected ≡ Some s → IsOpen formats view state o (seen disk) s → Tells lead lines last state s) where
      changed_led : (state : State) (old mid : History) → GoesOn session after → after.selected ≡ Some p → SameOpen o p recent → RanOnFiles old mid
          → ((state : State) (s : Selected) (recent : List ℕ) → Now old (λ w. IsHere formats state s (view o.store) (seen w.disk)) → Commits formats state s recent change (view p.store) (Ok tt) old mid)
          → (now : Now old (λ w. StandsFor formats view session w.disk state)) → (laws : AreFormats formats) → Led formats (kept formats laws) (StandsFor formats view after) (lead state) lines last state old mid
      changed_led state [] mid goes_on now_open same run commits now laws = record {
        run = record { added = run.added; whole = run.whole; each = run.each };
        made = none_ran mid run;
        facts = tt;
      }
      changed_led state (a ∷ past) mid goes_on now_open same run commits now laws =
          let sel = selects formats view session o a.disk state now some in
          let is = tells a.disk state sel.s now sel.is sel.open_is in
          let done = commits state sel.s recent (here_of a.disk state now sel) in
          record {
            run = subst (λ n. Passed (Committing formats state n) (a ∷ past) mid) (sym is.next) done.instants;
            made = subst (λ n. Arrived (HasCommitted formats (StandsFor formats view after) state n) (a ∷ past) mid) (sym is.next)
                (arrived_weaker (HasChanged formats state sel.s recent change (view p.store)) (HasCommitted formats (StandsFor formats view after) state (changed_state formats state sel.s recent change))
                (λ x y changed. record { streams = changed.streams; is_state = stands_changed a.disk state now sel goes_on now_open same x y changed; still_alike = changed.still_alike }) (a ∷ past) mid done.done);
            facts = (is.untagged, is.ends);
          }

      -- the change is made, its lines are put and its last is left
      pub changes_does : AreFormats formats → (was waits : List ℕ) (put : Result (Unit {0}) Stop) (result : Result Reply Refusal) (old mid new : History)
          → GoesOn session after → after.selected ≡ Some p → SameOpen o p recent → RanOnFiles old mid
          → ((state : State) (s : Selected) (recent : List ℕ) → Now old (λ w. IsHere formats state s (view o.store) (seen w.disk)) → Commits formats state s recent change (view p.store) (Ok tt) old mid)
          → was ≡ [] → PutsLines lines was waits put mid new → result ≡ ends_with put last
          → Does formats (StandsFor formats view session) (StandsFor formats view after) lead result waits old new
      changes_does laws was waits put result old mid new goes_on now_open same run commits none puts ends =
          led_does formats (kept formats laws) (StandsFor formats view after) (StandsFor formats view session) lead lines last waits put result old mid new
          (λ state now. changed_led state old mid goes_on now_open same run commits now laws)
          (subst (λ w. PutsLines lines w waits put mid new) none puts) ends

    -- the session ends as the change fails
    pub change_ends : (lead : State → Outcome) (later : Session S) (stop : Stop) (change_result : Result (Unit {0}) Stop) (waits : List ℕ) (old new : History) → session.selected ≡ Some o → RanOnFiles old new
        → ((disk : Disk) (state : State) (s : Selected) → StandsFor formats view session disk state → state.selected ≡ Some s → IsOpen formats view state o (seen disk) s → (lead state).next ≡ changed_state formats state s recent change)
        → ((state : State) (s : Selected) (recent : List ℕ) → Now old (λ w. IsHere formats state s (view o.store) (seen w.disk)) → Commits formats state s recent change (view p.store) change_result old new)
        → Does formats (StandsFor formats view session) (StandsFor formats view later) lead (Err (Ends stop)) waits old new
    change_ends lead later stop change_result waits old new some run next commits =
        ends_in_files formats (StandsFor formats view session) (StandsFor formats view later) lead stop waits old new (λ state now. passes state old now commits run)
      where
        passes : (state : State) (old : History) → Now old (λ w. StandsFor formats view session w.disk state)
            → ((state : State) (s : Selected) (recent : List ℕ) → Now old (λ w. IsHere formats state s (view o.store) (seen w.disk)) → Commits formats state s recent change (view p.store) change_result old new)
            → RanOnFiles old new → Passed (Committing formats state (lead state).next) old new
        passes state [] now commits run = record { added = run.added; whole = run.whole; each = run.each }
        passes state (a ∷ past) now commits run =
            let sel = selects formats view session o a.disk state now some in
            subst (λ n. Passed (Committing formats state n) (a ∷ past) new) (sym (next a.disk state sel.s now sel.is sel.open_is)) (commits state sel.s recent (here_of a.disk state now sel)).instants
