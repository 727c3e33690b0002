-- What the change of a mailbox of the tree promises is what a command's change asks for.
use Rattle.std.proofs.Common.{ℕ, List, [], ◌∷◌, ◌≡◌, ◌⊎◌, refl, sym, ◌∙◌, subst, Result, Ok, Err, arith}
use Rattle.std.specs.Result.{IsErrOf}
use Rattle.std.specs.List.{AllByRecursion}
use Rattle.std.proofs.lemmas.List.{append_cancel_right}
use Rattle.file_model.specs.Disk.{seen}
use Rattle.file_model.specs.Images.{Image}
use Rattle.file_model.specs.Kept.{Leaves}
use Rattle.file_model.specs.Histories.{World, History, Now, Ran, Ended, Passed}
use Rattle.file_model.specs.Arrived.{Arrived}
use Rattle.file_model.proofs.Passes.{ran_arrived}
use Rattle.file_model.proofs.Runs.{all_weaker}
use Rattle.any_store.specs.Choice.{Formats}
use Rattle.mail_tree.specs.Changing.{FollowsChange, CommitsMailbox}
use Rattle.store_trait.specs.declared.change.Change.{Change}
use Rattle.store_trait.specs.declared.faults.StoreFault.{StoreFault}
use Rattle.store_trait.specs.declared.faults.StoreFault.TheVariants.{Failed, NoUid, TooMany, TooLarge, Broken, Memory as StoreMemory}
use Rattle.store_trait.specs.Answers.{StoreCause}
use Rattle.file_model.specs.Causes.{Faults, OnlyFiles}
use Rattle.session_loop.specs.Outcome.{UnitCause}
use Rattle.session_loop.specs.declared.answers.Stop.TheVariants.{Memory}
use Rattle.imap_session.specs.Endings.{stop_of}
use Rattle.store_trait.specs.OwnPaths.{MayChange, IsNoPath}
use Rattle.store_trait.specs.Promises.{LeavesAlone, RanOnFiles}
use Rattle.store_trait.specs.Touching.{SeesBut}
use Rattle.store_trait.specs.Views.{View}
use Rattle.session_loop.specs.declared.answers.Stop.{Stop}
use Rattle.imap_session.specs.Committed.{IsHere, HasChanged}
use Rattle.imap_session.specs.Doing.{Committing, Alike, Agrees}
use Rattle.imap_session.specs.State.{Selected, State, changed_state}
use Rattle.imap_session.proofs.Rooted.{root_stays}

-- ---- A run on files, and what each of its instants leaves where the tree is safe as it begins

each_given : (A : Type 0) (Q : World → Type 0) (added : List World) → (A → AllByRecursion Q added) → AllByRecursion (λ w. A → Q w) added
each_given A Q [] all = tt
each_given A Q (w ∷ added) all = (λ a. (all a).0, each_given A Q added (λ a. (all a).1))

both_each : (P Q R : World → Type 0) → ((w : World) → P w → Q w → R w) → (added : List World) → AllByRecursion P added → AllByRecursion Q added → AllByRecursion R added
both_each P Q R join [] ps qs = tt
both_each P Q R join (w ∷ added) ps qs = (join w ps.0 qs.0, both_each P Q R join added ps.1 qs.1)

-- of a run on files alone, where what each instant leaves is known for a safe tree
pub committing_run : (formats : Formats) (state next : State) (old new : History) → RanOnFiles old new
    → (Now old (λ w. Alike formats state w.disk) → Ran (λ start instant. Leaves (λ image. Agrees formats state image ⊎ Agrees formats next image) instant) old new)
    → Passed (Committing formats state next) old new
committing_run formats state next [] new run leaves = record { added = run.added; whole = run.whole; each = run.each }
committing_run formats state next (a ∷ past) new run leaves = record {
  added = run.added;
  whole = run.whole;
  each = both_each (λ w. (w.streams ≡ a.streams) × Unit {0}) (λ w. Alike formats state a.disk → Leaves after w.disk) (Committing formats state next a)
      (λ w both leaves. record { streams = both.0; crash = λ alike image left. (leaves alike).each image left }) run.added run.each
      (each_given (Alike formats state a.disk) (λ w. Leaves after w.disk) run.added left);
}
  where
    after : Image → Type 0
    after = λ image. Agrees formats state image ⊎ Agrees formats next image

    left : Alike formats state a.disk → AllByRecursion (λ w. Leaves after w.disk) run.added
    left alike =
        let ran = leaves alike in
        all_weaker (λ w. (w.streams ≡ a.streams) × Leaves after w.disk) (λ w. Leaves after w.disk) (λ w both. both.1) run.added
        (subst (λ added. AllByRecursion (λ w. (w.streams ≡ a.streams) × Leaves after w.disk) added) (append_cancel_right ran.added run.added (a ∷ past) (sym ran.whole ∙ run.whole)) ran.each)

-- ---- A change of the selected mailbox

module _ (formats : Formats) (state : State) (s : Selected) (recent : List ℕ) (change : Change) (was is : View) where
  pub commits_instants : (result : Result (Unit {0}) StoreFault) (old new : History) → Now old (λ w. IsHere formats state s was (seen w.disk))
      → RanOnFiles old new → ((root : List ℕ) → CommitsMailbox formats root was change result old new)
      → Passed (Committing formats state (changed_state formats state s recent change)) old new
  commits_instants result [] new here run commits = committing_run formats state (changed_state formats state s recent change) [] new run (λ alike. record { added = run.added; whole = run.whole; each = run.each })
  commits_instants result (a ∷ past) new here run commits =
      committing_run formats state (changed_state formats state s recent change) (a ∷ past) new run
      (λ alike. (commits state.root).instants state.tree s.placed (here.mailbox, alike))

  abbrev done_well : Result (Unit {0}) StoreFault
  done_well = Ok tt

  no_failed : IsErrOf done_well Failed → ⊥
  no_failed failed = absurd (cc)

  pub commits_done : (old new : History) → Now old (λ w. IsHere formats state s was (seen w.disk))
      → LeavesAlone (MayChange was.driver was.path) IsNoPath done_well old new
      → ((root : List ℕ) → FollowsChange formats root was is change done_well old new) → ((root : List ℕ) → CommitsMailbox formats root was change done_well old new)
      → Arrived (HasChanged formats state s recent change is) old new
  commits_done [] new here leaves follows commits = ran_arrived (λ a b. Unit {0}) (λ a b. Unit {0}) [] new leaves.files (ended_none new (leaves.sees no_failed))
    where
      ended_none : (new : History) → Ended (SeesBut (MayChange was.driver was.path) IsNoPath) [] new → Ended (λ a b. Unit {0}) [] new
      ended_none new ended = ended
  commits_done (a ∷ past) [] here leaves follows commits = leaves.sees no_failed
  commits_done (a ∷ past) (b ∷ more) here leaves follows commits =
      let streams = ran_arrived (λ a b. Unit {0}) (λ a b. Unit {0}) (a ∷ past) (b ∷ more) leaves.files tt in
      record {
        streams = streams.0;
        stands = root_stays (MayChange was.driver was.path) IsNoPath state.root a.disk b.disk (leaves.sees no_failed) (λ none. none) here.stands;
        mailbox = follows state.root state.tree s.placed here.mailbox;
        still_alike = λ alike. (commits state.root).durable state.tree s.placed (here.mailbox, alike);
      }

-- ---- The cause

of_memory : {T : Type 0} (old new : Faults) → OnlyFiles old new → new.file ≡ old.file → UnitCause {T = T} old new (Err Memory)
of_memory old new counts stays = record {
  hear = counts.hear;
  file = counts.file;
  say = omega (arith, counts.say);
  say_fault = λ is. absurd (cc);
  file_fault = λ is. absurd (cc);
  regular = λ none. record { hear = counts.hear; file = stays; say = counts.say };
}

-- how a call on a store ends a session that goes no further than it
abbrev pub stopped : {T : Type 0} → Result T StoreFault → Result T Stop
stopped (Ok value) = Ok value
stopped (Err fault) = Err (stop_of fault)

pub stop_cause : {T : Type 0} (old new : Faults) (result : Result T StoreFault) → StoreCause old new result → UnitCause old new (stopped result)
stop_cause old new (Ok value) cause = record {
  hear = cause.counts.hear;
  file = cause.counts.file;
  say = omega (arith, cause.counts.say);
  say_fault = λ is. absurd (cc);
  file_fault = λ is. absurd (cc);
  regular = λ none. record { hear = cause.counts.hear; file = cause.stays refl; say = cause.counts.say };
}
stop_cause old new (Err Failed) cause = record {
  hear = cause.counts.hear;
  file = cause.counts.file;
  say = omega (arith, cause.counts.say);
  say_fault = λ is. absurd (cc);
  file_fault = λ is. cause.failed refl;
  regular = λ none. absurd (cc);
}
stop_cause old new (Err NoUid) cause = of_memory old new cause.counts (cause.stays refl)
stop_cause old new (Err TooMany) cause = of_memory old new cause.counts (cause.stays refl)
stop_cause old new (Err (TooLarge limit)) cause = of_memory old new cause.counts (cause.stays refl)
stop_cause old new (Err Broken) cause = of_memory old new cause.counts (cause.stays refl)
stop_cause old new (Err StoreMemory) cause = of_memory old new cause.counts (cause.stays refl)
