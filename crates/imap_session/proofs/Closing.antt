-- CLOSE on a selection.
use Rattle.std.proofs.Common.{ℕ, List, [], ◌∷◌, ◌≡◌, refl, sym, ◌∙◌, ap, subst, true, false, if◌then◌else◌, not, Result, Ok, Some, None}
use Rattle.std.specs.List.{filter}
use Rattle.std.specs.Result.{IsErrAnd}
use Rattle.file_model.specs.Disk.{Disk, seen}
use Rattle.file_model.specs.Histories.{World, History, Now, Passed}
use Rattle.file_model.specs.Arrived.{Arrived}
use Rattle.file_model.proofs.Passes.{passed_weaker, arrived_weaker}
use Rattle.any_store.specs.Choice.{Formats}
use Rattle.imap_reply.specs.declared.reply.Reply.{Reply}
use Rattle.imap_reply.specs.declared.reply.Reply.TheVariants as reply
use Rattle.imap_reply.specs.declared.text.Words.TheVariants as words
use Rattle.mail_tree.proofs.Nodes.{AreFormats}
use Rattle.session_loop.specs.declared.answers.Stop.{Stop}
use Rattle.store_trait.specs.declared.change.Change.TheVariants.{Expunge}
use Rattle.store_trait.specs.declared.store.Info.{Info}
use Rattle.store_trait.specs.Laws.{IsView}
use Rattle.store_trait.specs.Promises.{RanOnFiles}
use Rattle.store_trait.specs.Views.{View}
use Rattle.imap_session.specs.declared.refusal.Refusal.{Refusal}
use Rattle.imap_session.specs.declared.refusal.Refusal.TheVariants.{Ends}
use Rattle.imap_session.specs.declared.session.Open.{Open}
use Rattle.imap_session.specs.declared.session.Session.{Session}
use Rattle.imap_session.specs.Committed.{IsHere, HasChanged, Commits}
use Rattle.imap_session.specs.Doing.{Alike, Committing, HasCommitted, Does}
use Rattle.imap_session.specs.Expunge.{close, dropped, deleted_from, is_deleted}
use Rattle.imap_session.specs.Laws.{kept}
use Rattle.imap_session.specs.Standing.{IsOpen, IsSelection, StandsFor}
use Rattle.imap_session.specs.State.{Selected, State, Outcome, changed_state, done, unselected}
use Rattle.imap_session.proofs.Changing.{GoesOn, here_of, none_ran}
use Rattle.imap_session.proofs.Doing.{Led, led_does, ends_in_files}
use Rattle.imap_session.proofs.Exits.{Leads, ended_so}
use Rattle.imap_session.proofs.Expunging.{dropped_is}
use Rattle.imap_session.proofs.Putting.{puts_none}
use Rattle.imap_session.proofs.Selections.{is_selected, selects}

-- what CLOSE leads to on a selection
abbrev pub closed : Formats → List ℕ → State → Selected → Outcome
closed formats tag state s = done tag words.Close (unselected (if s.read_only then state else dropped formats state s)) []

pub close_leads : (formats : Formats) (tag : List ℕ) (state : State) (s : Selected) → state.selected ≡ Some s → close formats tag state ≡ closed formats tag state s
close_leads formats tag state s selected = is_selected tag state s (λ s. Ok (closed formats tag state s)) selected

-- an instant of a change is one of the same change after which no mailbox is selected
committing_unselected : (formats : Formats) (state next : State) (a b : World) → Committing formats state next a b → Committing formats state (unselected next) a b
committing_unselected formats state next a b is = record { streams = is.streams; crash = is.crash }

module _ {S : Type 0} (formats : Formats) (view : S → View) (session : Session S) (o : Open S) (tag : List ℕ) (some : session.selected ≡ Some o) where
  -- a session whose selection was taken away
  pub close_stands : (after : Session S) (disk : Disk) (state next : State) → GoesOn session after → after.selected ≡ None
      → StandsFor formats view session disk state → next ≡ unselected state → StandsFor formats view after disk next
  close_stands after disk state next goes_on none stands is = subst (StandsFor formats view after disk) (sym is) (record {
    root = goes_on.root ∙ stands.root;
    moment = goes_on.moment ∙ stands.moment;
    some = stands.some;
    fresh_is = goes_on.fresh ∙ stands.fresh_is;
    some_root = stands.some_root;
    stands = stands.stands;
    tree = stands.tree;
    selected = subst (λ q. IsSelection formats view (unselected state) q (seen disk) None) (sym none) tt;
  })

  -- a mailbox that is read-only is left as it is
  pub closes_read_only : (after : Session S) → GoesOn session after → after.selected ≡ None → o.read_only ≡ true → (disk : Disk) (state : State) → StandsFor formats view session disk state
      → Leads formats view after (close formats tag) [] (reply.Done tag words.Close) disk state
  closes_read_only after goes_on none reads disk state stands =
      let sel = selects formats view session o disk state stands some in
      let lead : close formats tag state ≡ done tag words.Close (unselected state) [] =
      close_leads formats tag state sel.s sel.is ∙ ap (λ b. done tag words.Close (unselected (if b then state else dropped formats state sel.s)) []) (sym sel.open_is.read_only ∙ reads) in
      record {
        stands = close_stands after disk state (close formats tag state).next goes_on none stands (ap (λ x. x.next) lead);
        alike = subst (λ x. Alike formats state disk → Alike formats x.next disk) (sym lead) (λ same. same);
        untagged = ap (λ x. x.untagged) lead;
        ends = sym (ap (λ x. x.last) lead);
      }

  module _ (p : Open S) (infos : List Info) (law : IsView formats.forms (view o.store)) (are : infos ≡ (view o.store).summary.infos) (writes : o.read_only ≡ false) where
    abbrev left : List ℕ
    left = filter (λ uid. not (is_deleted infos uid)) o.recent

    abbrev made : State → Selected → State
    made state s = changed_state formats state s left (Expunge (deleted_from 0 infos))

    close_drops : (disk : Disk) (state : State) (s : Selected) → state.selected ≡ Some s → IsOpen formats view state o (seen disk) s
        → close formats tag state ≡ done tag words.Close (unselected (made state s)) []
    close_drops disk state s selected is =
        close_leads formats tag state s selected ∙ ap (λ b. done tag words.Close (unselected (if b then state else dropped formats state s)) []) (sym is.read_only ∙ writes)
        ∙ ap (λ n. done tag words.Close (unselected n) []) (dropped_is formats view state o disk s infos left law are refl is)

    closed_stands : (after : Session S) (disk : Disk) (state : State) (s : Selected) → GoesOn session after → after.selected ≡ None → StandsFor formats view session disk state → (a b : World)
        → HasChanged formats state s left (Expunge (deleted_from 0 infos)) (view p.store) a b → HasCommitted formats (StandsFor formats view after) state (unselected (made state s)) a b
    closed_stands after disk state s goes_on none stands a b changed = record {
      streams = changed.streams;
      is_state = record {
        root = goes_on.root ∙ stands.root;
        moment = goes_on.moment ∙ stands.moment;
        some = stands.some;
        fresh_is = goes_on.fresh ∙ stands.fresh_is;
        some_root = stands.some_root;
        stands = changed.stands;
        tree = changed.mailbox.tree_seen;
        selected = subst (λ q. IsSelection formats view (unselected (made state s)) q (seen b.disk) None) (sym none) tt;
      };
      still_alike = changed.still_alike;
    }

    close_led : (after : Session S) (state : State) (old mid : History) → GoesOn session after → after.selected ≡ None → RanOnFiles old mid
        → ((state : State) (s : Selected) (recent : List ℕ) → Now old (λ w. IsHere formats state s (view o.store) (seen w.disk)) → Commits formats state s recent (Expunge (deleted_from 0 infos)) (view p.store) (Ok tt) old mid)
        → Now old (λ w. StandsFor formats view session w.disk state) → (laws : AreFormats formats)
        → Led formats (kept formats laws) (StandsFor formats view after) (close formats tag state) [] (reply.Done tag words.Close) state old mid
    close_led after state [] mid goes_on none run commits now laws = record {
      run = record { added = run.added; whole = run.whole; each = run.each };
      made = none_ran mid run;
      facts = tt;
    }
    close_led after state (a ∷ past) mid goes_on none run commits now laws =
        let sel = selects formats view session o a.disk state now some in
        let lead = close_drops a.disk state sel.s sel.is sel.open_is in
        let done = commits state sel.s left (here_of formats view session o a.disk state now sel) in
        record {
          run = subst (λ n. Passed (Committing formats state n) (a ∷ past) mid) (sym (ap (λ x. x.next) lead))
              (passed_weaker (Committing formats state (made state sel.s)) (Committing formats state (unselected (made state sel.s))) (committing_unselected formats state (made state sel.s)) (a ∷ past) mid done.instants);
          made = subst (λ n. Arrived (HasCommitted formats (StandsFor formats view after) state n) (a ∷ past) mid) (sym (ap (λ x. x.next) lead))
              (arrived_weaker (HasChanged formats state sel.s left (Expunge (deleted_from 0 infos)) (view p.store)) (HasCommitted formats (StandsFor formats view after) state (unselected (made state sel.s)))
              (closed_stands after a.disk state sel.s goes_on none now) (a ∷ past) mid done.done);
          facts = (ap (λ x. x.untagged) lead, sym (ap (λ x. x.last) lead));
        }

    -- the deleted messages are dropped, and the mailbox is left
    pub closes_does : AreFormats formats → (after : Session S) (old new : History) → GoesOn session after → after.selected ≡ None → RanOnFiles old new
        → ((state : State) (s : Selected) (recent : List ℕ) → Now old (λ w. IsHere formats state s (view o.store) (seen w.disk)) → Commits formats state s recent (Expunge (deleted_from 0 infos)) (view p.store) (Ok tt) old new)
        → Does formats (StandsFor formats view session) (StandsFor formats view after) (close formats tag) (Ok (reply.Done tag words.Close)) [] old new
    closes_does laws after old new goes_on none run commits =
        led_does formats (kept formats laws) (StandsFor formats view after) (StandsFor formats view session) (close formats tag) [] (reply.Done tag words.Close) [] (Ok tt) (Ok (reply.Done tag words.Close)) old new new
        (λ state now. close_led after state old new goes_on none run commits now laws) (puts_none [] new) refl

    -- the session ends as the change fails
    pub close_ends : (later : Session S) (stop : Stop) (result : Result Reply Refusal) (changed : Result (Unit {0}) Stop) (old new : History) → IsErrAnd result (λ e. e ≡ Ends stop) → RanOnFiles old new
        → ((state : State) (s : Selected) (recent : List ℕ) → Now old (λ w. IsHere formats state s (view o.store) (seen w.disk)) → Commits formats state s recent (Expunge (deleted_from 0 infos)) (view p.store) changed old new)
        → Does formats (StandsFor formats view session) (StandsFor formats view later) (close formats tag) result [] old new
    close_ends later stop result changed old new is run commits =
        subst (λ r. Does formats (StandsFor formats view session) (StandsFor formats view later) (close formats tag) r [] old new) (sym (ended_so result stop is))
        (ends_in_files formats (StandsFor formats view session) (StandsFor formats view later) (close formats tag) stop [] old new (λ state now. passes state old now commits run))
      where
        passes : (state : State) (old : History) → Now old (λ w. StandsFor formats view session w.disk state)
            → ((state : State) (s : Selected) (recent : List ℕ) → Now old (λ w. IsHere formats state s (view o.store) (seen w.disk)) → Commits formats state s recent (Expunge (deleted_from 0 infos)) (view p.store) changed old new)
            → RanOnFiles old new → Passed (Committing formats state (close formats tag state).next) old new
        passes state [] now commits run = record { added = run.added; whole = run.whole; each = run.each }
        passes state (a ∷ past) now commits run =
            let sel = selects formats view session o a.disk state now some in
            subst (λ n. Passed (Committing formats state n) (a ∷ past) new) (sym (ap (λ x. x.next) (close_drops a.disk state sel.s sel.is sel.open_is)))
            (passed_weaker (Committing formats state (made state sel.s)) (Committing formats state (unselected (made state sel.s))) (committing_unselected formats state (made state sel.s)) (a ∷ past) new
            (commits state sel.s left (here_of formats view session o a.disk state now sel)).instants)
