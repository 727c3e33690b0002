-- The exits at which the session ends, by the error that is answered.
use Rattle.std.proofs.Common.{ℕ, List, ◌≡◌, Result, Some, sym, subst}
use Rattle.std.specs.Result.{IsErrAnd}
use Rattle.file_model.specs.Disk.{Disk, seen}
use Rattle.file_model.specs.Histories.{History, Now}
use Rattle.any_store.specs.Choice.{Formats}
use Rattle.imap_reply.specs.declared.reply.Reply.{Reply}
use Rattle.session_loop.specs.declared.answers.Stop.{Stop}
use Rattle.store_trait.specs.declared.change.Change.{Change}
use Rattle.store_trait.specs.Promises.{RanOnFiles}
use Rattle.store_trait.specs.Views.{View}
use Rattle.imap_session.specs.declared.refusal.Refusal.{Refusal}
use Rattle.imap_session.specs.declared.refusal.Refusal.TheVariants.{Ends}
use Rattle.imap_session.specs.declared.session.Open.{Open}
use Rattle.imap_session.specs.declared.session.Session.{Session}
use Rattle.imap_session.specs.Committed.{IsHere, Commits}
use Rattle.imap_session.specs.Doing.{Does}
use Rattle.imap_session.specs.Standing.{IsOpen, StandsFor}
use Rattle.imap_session.specs.State.{Selected, State, Outcome, changed_state}
use Rattle.imap_session.proofs.Changing.{change_ends}
use Rattle.imap_session.proofs.Doing.{ends_at_once}
use Rattle.imap_session.proofs.Exits.{ended_so}

-- before anything is done
pub stops_at : (formats : Formats) (before after : Disk → State → Type 0) (lead : State → Outcome) (stop : Stop) (result : Result Reply Refusal) (waits : List ℕ) (h : History)
    → IsErrAnd result (λ e. e ≡ Ends stop) → Does formats before after lead result waits h h
stops_at formats before after lead stop result waits h is =
    subst (λ r. Does formats before after lead r waits h h) (sym (ended_so result stop is)) (ends_at_once formats before after lead stop waits h)

-- as the change fails
pub stops_in_change : {S : Type 0} (formats : Formats) (view : S → View) (session : Session S) (o p : Open S) (recent : List ℕ) (change : Change) (lead : State → Outcome) (later : Session S)
    (stop : Stop) (result : Result Reply Refusal) (changed : Result (Unit {0}) Stop) (waits : List ℕ) (old new : History) → IsErrAnd result (λ e. e ≡ Ends stop) → session.selected ≡ Some o → RanOnFiles old new
    → ((disk : Disk) (state : State) (s : Selected) → StandsFor formats view session disk state → state.selected ≡ Some s → IsOpen formats view state o (seen disk) s
    → (lead state).next ≡ changed_state formats state s recent change)
    → ((state : State) (s : Selected) (recent : List ℕ) → Now old (λ w. IsHere formats state s (view o.store) (seen w.disk)) → Commits formats state s recent change (view p.store) changed old new)
    → Does formats (StandsFor formats view session) (StandsFor formats view later) lead result waits old new
stops_in_change formats view session o p recent change lead later stop result changed waits old new is some run next commits =
    subst (λ r. Does formats (StandsFor formats view session) (StandsFor formats view later) lead r waits old new) (sym (ended_so result stop is))
    (change_ends formats view session o session p recent change lead later stop changed waits old new some run next commits)
