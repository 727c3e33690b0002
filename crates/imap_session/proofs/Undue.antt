-- The exits of a command behind a change of an open mailbox of which a refusal may be due.
use Rattle.std.proofs.Common.{ℕ, List, [], ◌∷◌, ◌≡◌, ⊎_elim, inl, inr, refl, sym, ◌∙◌, ap, subst, Some, None, Result, Ok, Err}
use Rattle.file_model.specs.Disk.{Disk, seen}
use Rattle.file_model.specs.Histories.{World, History, Now, Passed, Ended}
use Rattle.file_model.specs.Images.{Image}
use Rattle.file_model.proofs.Passes.{passed_none, passed_weaker}
use Rattle.any_store.specs.Choice.{Formats}
use Rattle.imap_reply.specs.declared.reply.Reply.{Reply}
use Rattle.mail_tree.specs.Agreement.{HasMixMailboxes, IsTreeAlike}
use Rattle.mail_tree.specs.Changing.{tree_after}
use Rattle.mail_tree.proofs.Nodes.{AreFormats}
use Rattle.session_loop.specs.declared.answers.Stop.{Stop}
use Rattle.store_trait.specs.declared.change.Change.{Change}
use Rattle.store_trait.specs.declared.faults.StoreFault.{StoreFault}
use Rattle.store_trait.specs.OwnPaths.{IsNoPath, MayChange}
use Rattle.store_trait.specs.Promises.{RanOnFiles}
use Rattle.store_trait.specs.Touching.{SeesBut}
use Rattle.store_trait.specs.Views.{View}
use Rattle.imap_session.specs.declared.refusal.Refusal.{Refusal}
use Rattle.imap_session.specs.declared.refusal.Refusal.TheVariants.{Line as Refused, Ends}
use Rattle.imap_session.specs.declared.session.Session.{Session}
use Rattle.imap_session.specs.Committed.{IsHere, HasChanged, CommitsUndue, IsAsItWas, StaysIfRefused}
use Rattle.imap_session.specs.Doing.{Alike, Agrees, Committing, Does}
use Rattle.imap_session.specs.Endings.{ends_with}
use Rattle.imap_session.specs.Laws.{kept}
use Rattle.imap_session.specs.Lines.{Line}
use Rattle.imap_session.specs.Putting.{PutsLines}
use Rattle.imap_session.specs.Refusals.{store_refusal, due_of}
use Rattle.imap_session.specs.Standing.{StandsFor}
use Rattle.imap_session.specs.State.{Selected, State, Outcome, changed_state, only}
use Rattle.imap_session.proofs.ByName.{refused_now, leads_to}
use Rattle.imap_session.proofs.Changing.{none_ran}
use Rattle.imap_session.proofs.Doing.{Led, led_does, ends_in_files}
use Rattle.imap_session.proofs.Exits.{Leads}

-- ---- A crash leaves the same of two states with the same root and tree

agrees_as : (formats : Formats) (one other : State) (image : Image) → other.root ≡ one.root → other.tree ≡ one.tree → Agrees formats one image → Agrees formats other image
agrees_as formats one other image root tree is =
    subst (λ r. HasMixMailboxes formats r other.tree image) (sym root) (subst (λ t. HasMixMailboxes formats one.root t image) (sym tree) is)

alike_as : (formats : Formats) (one other : State) (disk : Disk) → other.root ≡ one.root → other.tree ≡ one.tree → Alike formats one disk → Alike formats other disk
alike_as formats one other disk root tree is =
    subst (λ r. IsTreeAlike formats r other.tree disk) (sym root) (subst (λ t. IsTreeAlike formats one.root t disk) (sym tree) is)

committing_as : (formats : Formats) (state one other : State) → other.root ≡ one.root → other.tree ≡ one.tree → (a w : World) → Committing formats state one a w → Committing formats state other a w
committing_as formats state one other root tree a w is = record {
  streams = is.streams;
  crash = λ alike image left. ⊎_elim (λ before. inl before) (λ behind. inr (agrees_as formats one other image root tree behind)) (is.crash alike image left);
}

-- ---- What the command leads to, by what is seen as the change is made

module _ {S : Type 0} (formats : Formats) (view : S → View) (session : Session S) (lead : State → Outcome) (tag : List ℕ) (change : Change) (was : View) where
  -- Its change is one of this open mailbox: where no refusal is due it is made, and else the command is refused.
  pub record Aims (disk : Disk) (state : State) : Type 0 where
    pub s : Selected
    pub recent : List ℕ
    pub here : IsHere formats state s was (seen disk)
    pub root : due_of formats s.placed change ≡ None → (lead state).next.root ≡ state.root
    pub tree : due_of formats s.placed change ≡ None → (lead state).next.tree ≡ tree_after formats state.tree s.placed change
    pub refused : (fault : StoreFault) → due_of formats s.placed change ≡ Some fault → lead state ≡ only state (store_refusal tag fault)

  abbrev pub AimsNow : History → Type 0
  AimsNow h = Now h (λ w. (state : State) → StandsFor formats view session w.disk state → Aims w.disk state)

  abbrev pub CommitsSo : (is : View) → Result (Unit {0}) Refusal → (old new : History) → Type 0
  CommitsSo is result old new = (state : State) (s : Selected) (recent : List ℕ) → Now old (λ w. IsHere formats state s was (seen w.disk)) → CommitsUndue formats tag state s recent change is result old new

  -- the instants of the change are those of the command
  runs_so : (state : State) (a : World) (past new : History) (aims : Aims a.disk state) → due_of formats aims.s.placed change ≡ None
      → Passed (Committing formats state (changed_state formats state aims.s aims.recent change)) (a ∷ past) new → Passed (Committing formats state (lead state).next) (a ∷ past) new
  runs_so state a past new aims none run =
      passed_weaker (Committing formats state (changed_state formats state aims.s aims.recent change)) (Committing formats state (lead state).next)
      (committing_as formats state (changed_state formats state aims.s aims.recent change) (lead state).next (aims.root none) (aims.tree none)) (a ∷ past) new run

  -- the session ends in it
  pub undue_ends : (after : Session S) (is : View) (stop : Stop) (waits : List ℕ) (old new : History) → AimsNow old → RanOnFiles old new → CommitsSo is (Err (Ends stop)) old new
      → Does formats (StandsFor formats view session) (StandsFor formats view after) lead (Err (Ends stop)) waits old new
  undue_ends after is stop waits old new aims ran commits =
      ends_in_files formats (StandsFor formats view session) (StandsFor formats view after) lead stop waits old new (λ state now. passes state old now aims ran commits)
    where
      passes : (state : State) (old : History) → Now old (λ w. StandsFor formats view session w.disk state) → AimsNow old → RanOnFiles old new → CommitsSo is (Err (Ends stop)) old new
          → Passed (Committing formats state (lead state).next) old new
      passes state [] now aims ran commits = record { added = ran.added; whole = ran.whole; each = ran.each }
      passes state (a ∷ past) now aims ran commits =
          let aim = aims state now in
          let did = commits state aim.s aim.recent aim.here in
          ⊎_elim (λ none. runs_so state a past new aim none did.instants)
          (λ same. subst (λ h. Passed (Committing formats state (lead state).next) (a ∷ past) h) (sym same) (passed_none (Committing formats state (lead state).next) (a ∷ past))) did.acts

  -- it is refused
  pub due_does : (after : Session S) (is : View) (line : Reply) (waits : List ℕ) (old new : History) → waits ≡ [] → new ≡ old
      → ((disk : Disk) (state : State) → StandsFor formats view session disk state → StandsFor formats view after disk state)
      → AimsNow old → CommitsSo is (Err (Refused line)) old new
      → Does formats (StandsFor formats view session) (StandsFor formats view after) lead (Err (Refused line)) waits old new
  due_does after is line waits old new none same goes_on aims commits =
      subst (λ w. Does formats (StandsFor formats view session) (StandsFor formats view after) lead (Err (Refused line)) w old new) (sym none)
      (subst (λ h. Does formats (StandsFor formats view session) (StandsFor formats view after) lead (Err (Refused line)) [] old h) (sym same)
      (refused_now formats view session after lead line old (each old aims commits)))
    where
      each : (h : History) → AimsNow h → CommitsSo is (Err (Refused line)) h new → Now h (λ w. (state : State) → StandsFor formats view session w.disk state → Leads formats view after lead [] line w.disk state)
      each [] aims commits = tt
      each (w ∷ past) aims commits = λ state stands.
          let aim = aims state stands in
          let says = (commits state aim.s aim.recent aim.here).says in
          leads_to formats view session after (λ state. state) goes_on (λ disk state alike. alike) lead line w.disk state (aim.refused says.0 says.1 ∙ ap (λ l. only state l) (sym says.2)) stands

  -- it isn't made
  pub refused_undue : (after : Session S) (is : View) (refusal : Refusal) (waits : List ℕ) (old new : History) → waits ≡ []
      → (IsAsItWas was is old new → (disk : Disk) (state : State) → StandsFor formats view session disk state → StandsFor formats view after disk state)
      → AimsNow old → RanOnFiles old new → StaysIfRefused was is (Err refusal) old new → CommitsSo is (Err refusal) old new
      → Does formats (StandsFor formats view session) (StandsFor formats view after) lead (Err refusal) waits old new
  refused_undue after is (Refused line) waits old new none goes_on aims ran stays commits = due_does after is line waits old new none stays.nothing (goes_on stays) aims commits
  refused_undue after is (Ends stop) waits old new none goes_on aims ran stays commits = undue_ends after is stop waits old new aims ran commits

  -- ---- It is made

  module _ (after : Session S) (is : View) (lines : List Line) (last : Reply) where
    pub record AimsTo (disk : Disk) (state : State) : Type 0 where
      pub aims : Aims disk state
      pub untagged : due_of formats aims.s.placed change ≡ None → (lead state).untagged ≡ lines
      pub ends : due_of formats aims.s.placed change ≡ None → last ≡ (lead state).last
      pub stands : due_of formats aims.s.placed change ≡ None → (a b : World) → a.disk ≡ disk → SeesBut (MayChange was.driver was.path) IsNoPath a.disk b.disk
          → HasChanged formats state aims.s aims.recent change is a b → StandsFor formats view after b.disk (lead state).next

    undue_led : (laws : AreFormats formats) (state : State) (old mid : History) → Now old (λ w. StandsFor formats view session w.disk state)
        → Now old (λ w. (state : State) → StandsFor formats view session w.disk state → AimsTo w.disk state) → RanOnFiles old mid
        → Ended (SeesBut (MayChange was.driver was.path) IsNoPath) old mid → CommitsSo is (Ok tt) old mid
        → Led formats (kept formats laws) (StandsFor formats view after) (lead state) lines last state old mid
    undue_led laws state [] mid now aims ran sees commits = record { run = record { added = ran.added; whole = ran.whole; each = ran.each }; made = none_ran mid ran; facts = tt }
    undue_led laws state (a ∷ past) [] now aims ran sees commits = absurd sees
    undue_led laws state (a ∷ past) (b ∷ more) now aims ran sees commits =
        let to = aims state now in
        let aim = to.aims in
        let did = commits state aim.s aim.recent aim.here in
        record {
          run = runs_so state a past (b ∷ more) aim did.says did.instants;
          made = record {
            streams = did.done.streams;
            is_state = to.stands did.says a b refl sees did.done;
            still_alike = λ alike. alike_as formats (changed_state formats state aim.s aim.recent change) (lead state).next b.disk (aim.root did.says) (aim.tree did.says) (did.done.still_alike alike);
          };
          facts = (to.untagged did.says, to.ends did.says);
        }

    pub undue_does : AreFormats formats → (waits : List ℕ) (put : Result (Unit {0}) Stop) (result : Result Reply Refusal) (old mid new : History)
        → Now old (λ w. (state : State) → StandsFor formats view session w.disk state → AimsTo w.disk state) → RanOnFiles old mid
        → Ended (SeesBut (MayChange was.driver was.path) IsNoPath) old mid → CommitsSo is (Ok tt) old mid
        → PutsLines lines [] waits put mid new → result ≡ ends_with put last
        → Does formats (StandsFor formats view session) (StandsFor formats view after) lead result waits old new
    undue_does laws waits put result old mid new aims ran sees commits puts ends =
        led_does formats (kept formats laws) (StandsFor formats view after) (StandsFor formats view session) lead lines last waits put result old mid new
        (λ state now. undue_led laws state old mid now aims ran sees commits) puts ends
