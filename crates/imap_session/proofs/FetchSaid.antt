-- FETCH on a selection: it leaves the state, and its lines are those that the store's tellings give.
use Rattle.std.proofs.Common.{ℕ, List, [], ◌∷◌, ◌≡◌, length, refl, sym, ◌∙◌, ap, subst, Bool, true, false, if◌then◌else◌, Some, Result, Ok}
use Rattle.file_model.specs.Disk.{Disk, seen}
use Rattle.file_model.specs.Histories.{History, Now}
use Rattle.file_model.proofs.Passes.{passed_none}
use Rattle.any_store.specs.Choice.{Formats}
use Rattle.imap_arguments.specs.declared.item.Item.{Item}
use Rattle.imap_arguments.specs.declared.set.Set.{Set}
use Rattle.imap_reply.specs.declared.reply.Reply.{Reply}
use Rattle.imap_reply.specs.declared.reply.Reply.TheVariants as reply
use Rattle.mail_tree.proofs.Nodes.{AreFormats}
use Rattle.session_loop.specs.declared.answers.Stop.{Stop}
use Rattle.store_trait.specs.declared.store.Info.{Info}
use Rattle.store_trait.specs.Laws.{IsView}
use Rattle.store_trait.specs.Views.{View, summary_of}
use Rattle.imap_session.specs.declared.refusal.Refusal.{Refusal}
use Rattle.imap_session.specs.declared.session.Open.{Open}
use Rattle.imap_session.specs.declared.session.Session.{Session}
use Rattle.imap_session.specs.Doing.{Alike, Committing, Does}
use Rattle.imap_session.specs.Endings.{ends_with}
use Rattle.imap_session.specs.Fetch.{fetch, fetched, said_items}
use Rattle.imap_session.specs.Laws.{kept}
use Rattle.imap_session.specs.Lines.{Line}
use Rattle.imap_session.specs.Messages.{fetch_lines}
use Rattle.imap_session.specs.Putting.{PutsLines}
use Rattle.imap_session.specs.Refusals.{unless_true}
use Rattle.imap_session.specs.Sets.{named_places, names_past, unless_past}
use Rattle.imap_session.specs.Standing.{IsOpen, StandsFor}
use Rattle.imap_session.specs.State.{Selected, State, Outcome, Unless, ◌>>=◌, infos_of, done, only, or_leaves}
use Rattle.imap_session.specs.Told.{told_lines}
use Rattle.imap_session.proofs.Doing.{Led, led_does}
use Rattle.imap_session.proofs.Expunging.{told_infos}
use Rattle.imap_session.proofs.Fetching.{lines_told, texts_of}
use Rattle.imap_session.proofs.Selections.{is_selected, selects}

-- what a store tells of its names is what the selected mailbox has
pub told_words : {S : Type 0} (formats : Formats) (view : S → View) (state : State) (o : Open S) (disk : Disk) (s : Selected) → IsView formats.forms (view o.store)
    → IsOpen formats view state o (seen disk) s → (view o.store).summary.words ≡ s.placed.mailbox.words
told_words formats view state o disk s law is =
    sym (ap (λ y. y.words) (law.summarized (seen disk) is.store.stands)) ∙ ap (λ m. (summary_of m).words) is.store.mailbox

-- ---- A set that names messages past the last

pub is_past_set : (tag : List ℕ) (uid : Bool) (set : Set) (infos : List Info) (state : State) (go_on : Unit {0} → Unless Outcome) → (if uid then false else names_past (length infos) set) ≡ true
    → or_leaves state (unless_past tag uid set infos >>= go_on) ≡ only state (reply.NoMessage tag)
is_past_set tag uid set infos state go_on is = ap (λ b. or_leaves state (unless_true (reply.NoMessage tag) b >>= go_on)) is

pub is_there : (tag : List ℕ) (uid : Bool) (set : Set) (infos : List Info) (state : State) (go_on : Unit {0} → Unless Outcome) → (if uid then false else names_past (length infos) set) ≡ false
    → or_leaves state (unless_past tag uid set infos >>= go_on) ≡ or_leaves state (go_on tt)
is_there tag uid set infos state go_on is = ap (λ b. or_leaves state (unless_true (reply.NoMessage tag) b >>= go_on)) is

-- ---- A command that changes no file, by what it says where the session stands

module _ {S : Type 0} (formats : Formats) (view : S → View) (session : Session S) where
  -- its lines are put, and its last is left, or the session ends while they are put
  pub says_here : (lead : State → Outcome) → AreFormats formats → (lines : List Line) (last : Reply) (was waits : List ℕ) (put : Result (Unit {0}) Stop) (result : Result Reply Refusal) (old new : History)
      → ((state : State) → Now old (λ w. StandsFor formats view session w.disk state) → Now old (λ w. lead state ≡ record { next = state; untagged = lines; last = last }))
      → was ≡ [] → PutsLines lines was waits put old new → result ≡ ends_with put last
      → Does formats (StandsFor formats view session) (StandsFor formats view session) lead result waits old new
  says_here lead laws lines last was waits put result old new leads none puts ends =
      led_does formats (kept formats laws) (StandsFor formats view session) (StandsFor formats view session) lead lines last waits put result old old new
      (λ state now. led state old now (leads state now)) (subst (λ w. PutsLines lines w waits put old new) none puts) ends
    where
      led : (state : State) (h : History) → Now h (λ w. StandsFor formats view session w.disk state) → Now h (λ w. lead state ≡ record { next = state; untagged = lines; last = last })
          → Led formats (kept formats laws) (StandsFor formats view session) (lead state) lines last state h h
      led state [] now leads = record { run = passed_none (Committing formats state (lead state).next) []; made = refl; facts = tt }
      led state (a ∷ past) now leads = record {
        run = passed_none (Committing formats state (lead state).next) (a ∷ past);
        made = record {
          streams = refl;
          is_state = subst (λ o. StandsFor formats view session a.disk o.next) (sym leads) now;
          still_alike = subst (λ o. Alike formats state a.disk → Alike formats o.next a.disk) (sym leads) (λ same. same);
        };
        facts = (ap (λ o. o.untagged) leads, sym (ap (λ o. o.last) leads));
      }

  module _ (o : Open S) (some : session.selected ≡ Some o) (tag : List ℕ) (uid : Bool) (set : Set) (asked : List Item) (infos : List Info) (law : IsView formats.forms (view o.store))
      (are : infos ≡ (view o.store).summary.infos) where
    -- the end of a FETCH on a selection
    abbrev end_of : State → Selected → Outcome
    end_of state s = done tag (fetched uid) state (fetch_lines s (said_items uid asked) (named_places uid set (infos_of s)))

    leads_on : (disk : Disk) (state : State) (s : Selected) → state.selected ≡ Some s → IsOpen formats view state o (seen disk) s
        → fetch tag uid set asked state ≡ or_leaves state (unless_past tag uid set infos >>= λ there. Ok (end_of state s))
    leads_on disk state s selected is =
        is_selected tag state s (λ s. unless_past tag uid set (infos_of s) >>= λ there. Ok (end_of state s)) selected
        ∙ ap (λ i. or_leaves state (unless_past tag uid set i >>= λ there. Ok (end_of state s))) (sym (are ∙ told_infos formats view state o disk s law is))

    pub fetch_refused : (if uid then false else names_past (length infos) set) ≡ true → (disk : Disk) (state : State) → StandsFor formats view session disk state
        → fetch tag uid set asked state ≡ only state (reply.NoMessage tag)
    fetch_refused past disk state stands =
        let sel = selects formats view session o disk state stands some in
        leads_on disk state sel.s sel.is sel.open_is ∙ is_past_set tag uid set infos state (λ there. Ok (end_of state sel.s)) past

    -- the texts of the mailbox as the files have it
    abbrev pub texts_now : History → ℕ → List ℕ
    texts_now [] = λ place. []
    texts_now (a ∷ past) = texts_of ((view o.store).mailbox (seen a.disk))

    abbrev pub lines_now : History → List Line
    lines_now old = told_lines (texts_now old) (said_items uid asked) (view o.store).summary.words o.recent infos (named_places uid set infos)

    lines_here : (disk : Disk) (state : State) (s : Selected) → IsOpen formats view state o (seen disk) s
        → fetch_lines s (said_items uid asked) (named_places uid set (infos_of s))
        ≡ told_lines (texts_of ((view o.store).mailbox (seen disk))) (said_items uid asked) (view o.store).summary.words o.recent infos (named_places uid set infos)
    lines_here disk state s is =
        let said = said_items uid asked in
        let here : infos ≡ infos_of s = are ∙ told_infos formats view state o disk s law is in
        lines_told s said (named_places uid set (infos_of s))
        ∙ ap (λ m. told_lines (texts_of m) said s.placed.mailbox.words s.recent (infos_of s) (named_places uid set (infos_of s))) (sym is.store.mailbox)
        ∙ ap (λ w. told_lines (texts_of ((view o.store).mailbox (seen disk))) said w s.recent (infos_of s) (named_places uid set (infos_of s))) (sym (told_words formats view state o disk s law is))
        ∙ ap (λ r. told_lines (texts_of ((view o.store).mailbox (seen disk))) said (view o.store).summary.words r (infos_of s) (named_places uid set (infos_of s))) (sym is.recent)
        ∙ ap (λ i. told_lines (texts_of ((view o.store).mailbox (seen disk))) said (view o.store).summary.words o.recent i (named_places uid set i)) (sym here)

    pub fetch_says : (if uid then false else names_past (length infos) set) ≡ false → (old : History) (state : State) → Now old (λ w. StandsFor formats view session w.disk state)
        → Now old (λ w. fetch tag uid set asked state ≡ done tag (fetched uid) state (lines_now old))
    fetch_says there [] state now = tt
    fetch_says there (a ∷ past) state now =
        let sel = selects formats view session o a.disk state now some in
        leads_on a.disk state sel.s sel.is sel.open_is ∙ is_there tag uid set infos state (λ there. Ok (end_of state sel.s)) there
        ∙ ap (λ l. done tag (fetched uid) state l) (lines_here a.disk state sel.s sel.open_is)

    -- its lines are put as the store tells them
    pub fetch_does : AreFormats formats → (said : List Item) (words : List (List ℕ)) (recent places was waits : List ℕ) (put : Result (Unit {0}) Stop) (result : Result Reply Refusal) (old new : History)
        → (if uid then false else names_past (length infos) set) ≡ false → said ≡ said_items uid asked → words ≡ (view o.store).summary.words → recent ≡ o.recent → places ≡ named_places uid set infos
        → was ≡ [] → ((texts : ℕ → List ℕ) → PutsLines (told_lines texts said words recent infos places) was waits put old new) → result ≡ ends_with put (reply.Done tag (fetched uid))
        → Does formats (StandsFor formats view session) (StandsFor formats view session) (fetch tag uid set asked) result waits old new
    fetch_does laws said words recent places was waits put result old new there said_is words_are recent_is places_are none puts ends =
        says_here (fetch tag uid set asked) laws (lines_now old) (reply.Done tag (fetched uid)) was waits put result old new (λ state now. fetch_says there old state now) none
        (subst (λ l. PutsLines l was waits put old new)
        (ap (λ i. told_lines (texts_now old) i words recent infos places) said_is
        ∙ ap (λ w. told_lines (texts_now old) (said_items uid asked) w recent infos places) words_are
        ∙ ap (λ r. told_lines (texts_now old) (said_items uid asked) (view o.store).summary.words r infos places) recent_is
        ∙ ap (λ p. told_lines (texts_now old) (said_items uid asked) (view o.store).summary.words o.recent infos p) places_are) (puts (texts_now old)))
        ends
