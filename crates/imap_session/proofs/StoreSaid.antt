-- STORE on a selection: its change, and its lines by what the store tells behind it.
use Rattle.std.proofs.Common.{ℕ, List, [], ◌∷◌, ◌++◌, ◌≡◌, sym, ◌∙◌, ap, subst, length, nat_lt, Bool, true, false, if◌then◌else◌, Some, Result, Ok, Err}
use Rattle.file_model.specs.Disk.{Disk, seen}
use Rattle.file_model.specs.Histories.{World, History, Now, Passed}
use Rattle.any_store.specs.Choice.{Formats}
use Rattle.imap_arguments.specs.declared.flag.FlagList.{FlagList}
use Rattle.imap_arguments.specs.declared.set.Set.{Set}
use Rattle.imap_reply.specs.declared.reply.Reply.{Reply}
use Rattle.imap_reply.specs.declared.reply.Reply.TheVariants as reply
use Rattle.imap_syntax.specs.declared.command.Mode.{Mode}
use Rattle.mail_tree.proofs.Nodes.{AreFormats}
use Rattle.session_loop.specs.declared.answers.Stop.{Stop}
use Rattle.store_trait.specs.declared.change.Change.{Change}
use Rattle.store_trait.specs.declared.store.Info.{Info}
use Rattle.store_trait.specs.Laws.{IsView}
use Rattle.store_trait.specs.Promises.{RanOnFiles}
use Rattle.store_trait.specs.Views.{View, summary_of}
use Rattle.imap_session.specs.declared.refusal.Refusal.{Refusal}
use Rattle.imap_session.specs.declared.refusal.Refusal.TheVariants.{Line as Refused}
use Rattle.imap_session.specs.declared.session.Open.{Open}
use Rattle.imap_session.specs.declared.session.Session.{Session}
use Rattle.imap_session.specs.Committed.{IsHere, HasChanged, Commits}
use Rattle.imap_session.specs.Doing.{Alike, Committing, HasCommitted, Does}
use Rattle.imap_session.specs.Endings.{ends_with}
use Rattle.imap_session.specs.Laws.{kept}
use Rattle.imap_session.specs.Lines.{Line, reply_line}
use Rattle.imap_session.specs.Messages.{fetch_lines}
use Rattle.imap_session.specs.Putting.{PutsLines}
use Rattle.imap_session.specs.Refusals.{writable}
use Rattle.imap_session.specs.Sets.{named_places, names_past, unless_past}
use Rattle.imap_session.specs.Standing.{IsOpen, IsSelection, StandsFor}
use Rattle.imap_session.specs.State.{Selected, State, Outcome, ◌>>=◌, infos_of, changed_selected, changed_state, only, or_leaves}
use Rattle.imap_session.specs.Store.{store, store_places, store_change, store_lines, stored, flag_items, names_line}
use Rattle.imap_session.specs.Told.{told_change, told_lines}
use Rattle.imap_session.proofs.Changing.{GoesOn, SameOpen, Tells, here_of, none_ran, stands_changed}
use Rattle.imap_session.proofs.Doing.{Led, led_does}
use Rattle.imap_session.proofs.Exits.{Leads, refused_at}
use Rattle.imap_session.proofs.Expunging.{told_infos}
use Rattle.imap_session.proofs.FetchSaid.{told_words, is_past_set, is_there}
use Rattle.imap_session.proofs.Fetching.{lines_told, texts_of}
use Rattle.imap_session.proofs.Selections.{is_selected, is_writable, read_only_is, selects}

-- ---- The exit behind a change, by what is told where it is made

module _ {S : Type 0} (formats : Formats) (view : S → View) (session : Session S) (o : Open S) (after : Session S) (p : Open S) (recent : List ℕ) (change : Change)
    (lead : State → Outcome) (lines : List Line) (last : Reply) where
  -- what the command leads to, in a world before the change and one behind it
  abbrev pub TellsHere : State → History → History → Type 0
  TellsHere state old mid = Now old (λ a. Now mid (λ b. (s : Selected) → state.selected ≡ Some s → IsOpen formats view state o (seen a.disk) s
      → HasChanged formats state s recent change (view p.store) a b → Tells formats view session o after p recent change lead lines last state s))

  here_led : (state : State) (old mid : History) → session.selected ≡ Some o → GoesOn session after → after.selected ≡ Some p → SameOpen o p recent → RanOnFiles old mid
      → ((state : State) (s : Selected) (recent : List ℕ) → Now old (λ w. IsHere formats state s (view o.store) (seen w.disk)) → Commits formats state s recent change (view p.store) (Ok tt) old mid)
      → Now old (λ w. StandsFor formats view session w.disk state) → TellsHere state old mid → (laws : AreFormats formats)
      → Led formats (kept formats laws) (StandsFor formats view after) (lead state) lines last state old mid
  here_led state [] mid some goes_on now_open same run commits now tells laws = record {
    run = record { added = run.added; whole = run.whole; each = run.each };
    made = none_ran mid run;
    facts = tt;
  }
  here_led state (a ∷ past) [] some goes_on now_open same run commits now tells laws =
      let sel = selects formats view session o a.disk state now some in
      absurd (commits state sel.s recent (here_of formats view session o a.disk state now sel)).done
  here_led state (a ∷ past) (b ∷ more) some goes_on now_open same run commits now tells laws =
      let sel = selects formats view session o a.disk state now some in
      let did = commits state sel.s recent (here_of formats view session o a.disk state now sel) in
      let is = tells sel.s sel.is sel.open_is did.done in
      record {
        run = subst (λ n. Passed (Committing formats state n) (a ∷ past) (b ∷ more)) (sym is.next) did.instants;
        made = subst (λ n. HasCommitted formats (StandsFor formats view after) state n a b) (sym is.next) (record {
          streams = did.done.streams;
          is_state = stands_changed formats view session o after p recent change a.disk state now sel goes_on now_open same a b did.done;
          still_alike = did.done.still_alike;
        });
        facts = (is.untagged, is.ends);
      }

  pub changes_here : AreFormats formats → (was waits : List ℕ) (put : Result (Unit {0}) Stop) (result : Result Reply Refusal) (old mid new : History)
      → session.selected ≡ Some o → GoesOn session after → after.selected ≡ Some p → SameOpen o p recent → RanOnFiles old mid
      → ((state : State) (s : Selected) (recent : List ℕ) → Now old (λ w. IsHere formats state s (view o.store) (seen w.disk)) → Commits formats state s recent change (view p.store) (Ok tt) old mid)
      → ((state : State) → Now old (λ w. StandsFor formats view session w.disk state) → TellsHere state old mid)
      → was ≡ [] → PutsLines lines was waits put mid new → result ≡ ends_with put last
      → Does formats (StandsFor formats view session) (StandsFor formats view after) lead result waits old new
  changes_here laws was waits put result old mid new some goes_on now_open same run commits tells none puts ends =
      led_does formats (kept formats laws) (StandsFor formats view after) (StandsFor formats view session) lead lines last waits put result old mid new
      (λ state now. here_led state old mid some goes_on now_open same run commits now (tells state now) laws)
      (subst (λ w. PutsLines lines w waits put mid new) none puts) ends

-- ---- A refusal behind which the selection is put back

pub stands_back : {S : Type 0} (formats : Formats) (view : S → View) (session after : Session S) (disk : Disk) (state : State) → GoesOn session after → after.selected ≡ session.selected
    → StandsFor formats view session disk state → StandsFor formats view after disk state
stands_back formats view session after disk state goes_on same stands = record {
  root = goes_on.root ∙ stands.root;
  moment = goes_on.moment ∙ stands.moment;
  some = stands.some;
  fresh_is = goes_on.fresh ∙ stands.fresh_is;
  some_root = stands.some_root;
  stands = stands.stands;
  tree = stands.tree;
  selected = subst (λ q. IsSelection formats view state q (seen disk) state.selected) (sym same) stands.selected;
}

pub refused_back : {S : Type 0} (formats : Formats) (view : S → View) (session after : Session S) (lead : State → Outcome) (line : Reply) (waits : List ℕ) (h : History) → GoesOn session after → after.selected ≡ session.selected
    → waits ≡ [] → ((disk : Disk) (state : State) → StandsFor formats view session disk state → lead state ≡ only state line)
    → Does formats (StandsFor formats view session) (StandsFor formats view after) lead (Err (Refused line)) waits h h
refused_back formats view session after lead line waits h goes_on same none is =
    subst (λ w. Does formats (StandsFor formats view session) (StandsFor formats view after) lead (Err (Refused line)) w h h) (sym none)
    (refused_at formats view session after lead line h (λ disk state stands. leads disk state stands (is disk state stands)))
  where
    leads : (disk : Disk) (state : State) → StandsFor formats view session disk state → lead state ≡ only state line → Leads formats view after lead [] line disk state
    leads disk state stands led = record {
      stands = subst (λ x. StandsFor formats view after disk x.next) (sym led) (stands_back formats view session after disk state goes_on same stands);
      alike = subst (λ x. Alike formats state disk → Alike formats x.next disk) (sym led) (λ same. same);
      untagged = ap (λ x. x.untagged) led;
      ends = sym (ap (λ x. x.last) led);
    }

-- ---- STORE

module _ {S : Type 0} (formats : Formats) (view : S → View) (session : Session S) (o : Open S) (some : session.selected ≡ Some o) (tag : List ℕ) (uid : Bool) (set : Set) (mode : Mode) (silent : Bool) (given : FlagList)
    (infos : List Info) (law : IsView formats.forms (view o.store)) (are : infos ≡ (view o.store).summary.infos) where
  abbrev pub lead : State → Outcome
  lead state = store formats tag uid set mode silent given state

  abbrev end_of : State → Selected → Outcome
  end_of state s = store_places formats tag uid mode silent given state s (named_places uid set (infos_of s))

  leads_on : (disk : Disk) (state : State) (s : Selected) → state.selected ≡ Some s → IsOpen formats view state o (seen disk) s
      → lead state ≡ or_leaves state (unless_past tag uid set infos >>= λ there. writable tag s >>= λ can. Ok (end_of state s))
  leads_on disk state s selected is =
      is_selected tag state s (λ s. unless_past tag uid set (infos_of s) >>= λ there. writable tag s >>= λ can. Ok (end_of state s)) selected
      ∙ ap (λ i. or_leaves state (unless_past tag uid set i >>= λ there. writable tag s >>= λ can. Ok (end_of state s))) (sym (are ∙ told_infos formats view state o disk s law is))

  pub past_refused : (if uid then false else names_past (length infos) set) ≡ true → (disk : Disk) (state : State) → StandsFor formats view session disk state → lead state ≡ only state (reply.NoMessage tag)
  past_refused past disk state stands =
      let sel = selects formats view session o disk state stands some in
      leads_on disk state sel.s sel.is sel.open_is ∙ is_past_set tag uid set infos state (λ there. writable tag sel.s >>= λ can. Ok (end_of state sel.s)) past

  module _ (there : (if uid then false else names_past (length infos) set) ≡ false) where
    pub unwritable_refused : o.read_only ≡ true → (disk : Disk) (state : State) → StandsFor formats view session disk state → lead state ≡ only state (reply.ReadOnly tag)
    unwritable_refused reads disk state stands =
        let sel = selects formats view session o disk state stands some in
        leads_on disk state sel.s sel.is sel.open_is ∙ is_there tag uid set infos state (λ there. writable tag sel.s >>= λ can. Ok (end_of state sel.s)) there
        ∙ read_only_is tag state sel.s (λ can. Ok (end_of state sel.s)) (sym sel.open_is.read_only ∙ reads)

    module _ (writes : o.read_only ≡ false) where
      store_leads : (disk : Disk) (state : State) (s : Selected) → state.selected ≡ Some s → IsOpen formats view state o (seen disk) s → lead state ≡ end_of state s
      store_leads disk state s selected is =
          leads_on disk state s selected is ∙ is_there tag uid set infos state (λ there. writable tag s >>= λ can. Ok (end_of state s)) there
          ∙ is_writable tag state s (λ can. Ok (end_of state s)) (sym is.read_only ∙ writes)

      abbrev pub places : List ℕ
      places = named_places uid set infos

      abbrev pub change : Change
      change = told_change mode given (view o.store).driver (view o.store).summary.words infos places

      -- the change of the selected mailbox is that of what the store tells
      change_is : (disk : Disk) (state : State) (s : Selected) → IsOpen formats view state o (seen disk) s → store_change mode given s (named_places uid set (infos_of s)) ≡ change
      change_is disk state s is =
          ap (λ i. told_change mode given s.placed.driver s.placed.mailbox.words i (named_places uid set i)) (sym (are ∙ told_infos formats view state o disk s law is))
          ∙ ap (λ w. told_change mode given s.placed.driver w infos places) (sym (told_words formats view state o disk s law is))
          ∙ ap (λ d. told_change mode given d (view o.store).summary.words infos places) (sym is.store.driver)

      pub store_next : (disk : Disk) (state : State) (s : Selected) → StandsFor formats view session disk state → state.selected ≡ Some s → IsOpen formats view state o (seen disk) s
          → (lead state).next ≡ changed_state formats state s o.recent change
      store_next disk state s stands selected is =
          ap (λ x. x.next) (store_leads disk state s selected is)
          ∙ ap (λ c. changed_state formats state s s.recent c) (change_is disk state s is) ∙ ap (λ r. changed_state formats state s r change) (sym is.recent)

      -- the lines by the selected mailbox, its recent messages, its change and the places
      abbrev said : Selected → (recent : List ℕ) → Change → List ℕ → List Line
      said s recent made at = names_line s.placed.mailbox.words (changed_selected s recent made).placed.mailbox.words ++ store_lines uid silent (changed_selected s recent made) at

      module _ (p : Open S) (law_behind : IsView formats.forms (view p.store)) where
        -- the lines by what the store tells behind the change
        abbrev pub lines_of : (texts : ℕ → List ℕ) → List Line
        lines_of texts =
            (if nat_lt (length (view o.store).summary.words) (length (view p.store).summary.words) then reply_line (reply.Flags (view p.store).summary.words) ∷ [] else [])
            ++ (if silent then [] else told_lines texts (flag_items uid) (view p.store).summary.words p.recent (view p.store).summary.infos places)

        abbrev pub texts_behind : History → ℕ → List ℕ
        texts_behind [] = λ place. []
        texts_behind (b ∷ past) = texts_of ((view p.store).mailbox (seen b.disk))

        said_is : (state : State) (s : Selected) (a b : World) → IsOpen formats view state o (seen a.disk) s → p.recent ≡ o.recent → HasChanged formats state s o.recent change (view p.store) a b
            → said s o.recent change places ≡ lines_of (texts_of ((view p.store).mailbox (seen b.disk)))
        said_is state s a b is same changed =
            let q = changed_selected s o.recent change in
            let it = changed.mailbox.store in
            let told = (view p.store).summary in
            let sums = law_behind.summarized (seen b.disk) it.stands in
            let words_are : q.placed.mailbox.words ≡ told.words = sym (ap (λ m. (summary_of m).words) it.mailbox) ∙ ap (λ y. y.words) sums in
            let infos_are : infos_of q ≡ told.infos = sym (ap (λ m. (summary_of m).infos) it.mailbox) ∙ ap (λ y. y.infos) sums in
            let texts = texts_of ((view p.store).mailbox (seen b.disk)) in
            let flags : fetch_lines q (flag_items uid) places ≡ told_lines texts (flag_items uid) told.words p.recent told.infos places =
            lines_told q (flag_items uid) places
            ∙ ap (λ m. told_lines (texts_of m) (flag_items uid) q.placed.mailbox.words o.recent (infos_of q) places) (sym it.mailbox)
            ∙ ap (λ w. told_lines texts (flag_items uid) w o.recent (infos_of q) places) words_are
            ∙ ap (λ r. told_lines texts (flag_items uid) told.words r (infos_of q) places) (sym same)
            ∙ ap (λ i. told_lines texts (flag_items uid) told.words p.recent i places) infos_are in
            ap (λ w. names_line w q.placed.mailbox.words ++ store_lines uid silent q places) (sym (told_words formats view state o a.disk s law is))
            ∙ ap (λ w. names_line (view o.store).summary.words w ++ store_lines uid silent q places) words_are
            ∙ ap (λ l. names_line (view o.store).summary.words told.words ++ (if silent then [] else l)) flags

        pub store_tells : (after : Session S) → p.recent ≡ o.recent → (old mid : History) (state : State) → Now old (λ w. StandsFor formats view session w.disk state)
            → TellsHere formats view session o after p o.recent change lead (lines_of (texts_behind mid)) (reply.Done tag (stored uid)) state old mid
        store_tells after same [] mid state now = tt
        store_tells after same (a ∷ past) [] state now = tt
        store_tells after same (a ∷ past) (b ∷ more) state now = λ s selected is changed. record {
          next = store_next a.disk state s now selected is;
          untagged = ap (λ x. x.untagged) (store_leads a.disk state s selected is)
              ∙ ap (λ c. said s s.recent c (named_places uid set (infos_of s))) (change_is a.disk state s is)
              ∙ ap (λ r. said s r change (named_places uid set (infos_of s))) (sym is.recent)
              ∙ ap (λ i. said s o.recent change (named_places uid set i)) (sym (are ∙ told_infos formats view state o a.disk s law is))
              ∙ said_is state s a b is same changed;
          ends = sym (ap (λ x. x.last) (store_leads a.disk state s selected is));
        }

        -- the change is made, and its lines are put as the store tells them
        pub store_does : AreFormats formats → (after : Session S) (at : List ℕ) (count : ℕ) (was waits : List ℕ) (put : Result (Unit {0}) Stop) (result : Result Reply Refusal) (old mid new : History)
            → at ≡ places → count ≡ length (view o.store).summary.words → GoesOn session after → after.selected ≡ Some p → SameOpen o p o.recent → RanOnFiles old mid
            → ((state : State) (s : Selected) (recent : List ℕ) → Now old (λ w. IsHere formats state s (view o.store) (seen w.disk))
            → Commits formats state s recent (told_change mode given (view o.store).driver (view o.store).summary.words infos at) (view p.store) (Ok tt) old mid)
            → was ≡ []
            → ((texts : ℕ → List ℕ) → PutsLines ((if nat_lt count (length (view p.store).summary.words) then reply_line (reply.Flags (view p.store).summary.words) ∷ [] else [])
            ++ (if silent then [] else told_lines texts (flag_items uid) (view p.store).summary.words p.recent (view p.store).summary.infos at)) was waits put mid new)
            → result ≡ ends_with put (reply.Done tag (stored uid))
            → Does formats (StandsFor formats view session) (StandsFor formats view after) lead result waits old new
        store_does laws after at count was waits put result old mid new at_is count_is goes_on now_open same run commits none puts ends =
            changes_here formats view session o after p o.recent change lead (lines_of (texts_behind mid)) (reply.Done tag (stored uid)) laws was waits put result old mid new some goes_on now_open same run
            (λ state s recent here. subst (λ l. Commits formats state s recent (told_change mode given (view o.store).driver (view o.store).summary.words infos l) (view p.store) (Ok tt) old mid) at_is (commits state s recent here))
            (λ state now. store_tells after same.recent_is old mid state now) none
            (subst (λ l. PutsLines l was waits put mid new) (as_told (texts_behind mid)) (puts (texts_behind mid))) ends
          where
            as_told : (texts : ℕ → List ℕ) → (if nat_lt count (length (view p.store).summary.words) then reply_line (reply.Flags (view p.store).summary.words) ∷ [] else [])
                ++ (if silent then [] else told_lines texts (flag_items uid) (view p.store).summary.words p.recent (view p.store).summary.infos at) ≡ lines_of texts
            as_told texts =
                ap (λ n. (if nat_lt n (length (view p.store).summary.words) then reply_line (reply.Flags (view p.store).summary.words) ∷ [] else [])
                ++ (if silent then [] else told_lines texts (flag_items uid) (view p.store).summary.words p.recent (view p.store).summary.infos at)) count_is
                ∙ ap (λ l. (if nat_lt (length (view o.store).summary.words) (length (view p.store).summary.words) then reply_line (reply.Flags (view p.store).summary.words) ∷ [] else [])
                ++ (if silent then [] else told_lines texts (flag_items uid) (view p.store).summary.words p.recent (view p.store).summary.infos l)) at_is
