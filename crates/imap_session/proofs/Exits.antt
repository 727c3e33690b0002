-- The exits of a command that changes no file, by what it says on any disk where the session stands.
use Rattle.std.proofs.Common.{ℕ, List, [], ◌≡◌, ◌∙◌, refl, sym, ap, subst, not, Bool, true, false, Result, Ok, Err, Option, Some, None, is_some}
use Rattle.std.specs.Result.{IsErrAnd}
use Rattle.file_model.specs.Disk.{Disk, seen}
use Rattle.file_model.specs.Histories.{World, History}
use Rattle.file_model.proofs.Passes.{passed_none, arrived_none}
use Rattle.file_model.proofs.Runs.{now_weaker}
use Rattle.std.proofs.lemmas.List.{append-nil}
use Rattle.store_trait.specs.Views.{View}
use Rattle.any_store.specs.Choice.{Formats}
use Rattle.imap_reply.specs.declared.reply.Reply.{Reply}
use Rattle.imap_reply.specs.declared.reply.Reply.TheVariants as reply
use Rattle.imap_reply.specs.declared.text.Words.{Words}
use Rattle.mail_tree.proofs.Nodes.{AreFormats}
use Rattle.session_loop.specs.Saying.{AllSaid}
use Rattle.session_loop.specs.declared.answers.Stop.{Stop}
use Rattle.imap_session.specs.declared.refusal.Refusal.{Refusal}
use Rattle.imap_session.specs.declared.refusal.Refusal.TheVariants.{Line as Refused, Ends}
use Rattle.imap_session.specs.declared.session.Open.{Open}
use Rattle.imap_session.specs.declared.session.Session.{Session}
use Rattle.imap_session.specs.Doing.{Alike, Replying, HasReplied, Does}
use Rattle.imap_session.specs.Endings.{ends_with}
use Rattle.imap_session.specs.Lines.{Line, SaysLine}
use Rattle.imap_session.specs.Putting.{PutsLines}
use Rattle.imap_session.specs.Refusals.{the_selected}
use Rattle.imap_session.specs.Standing.{IsSelection, StandsFor}
use Rattle.imap_session.specs.State.{Selected, State, Outcome, ◌>>=◌, or_leaves, done, only}
use Rattle.imap_session.proofs.Doing.{led_does, quiet_led}
use Rattle.imap_session.specs.Laws.{kept}
use Rattle.imap_session.proofs.Selections.{is_selected}

-- What a command leads to on a disk where the session stands for a state, and that the session stands for the next state afterwards.
pub record Leads {S : Type 0} (formats : Formats) (view : S → View) (after : Session S) (lead : State → Outcome) (lines : List Line) (last : Reply) (disk : Disk) (state : State) : Type 0 where
  pub stands : StandsFor formats view after disk (lead state).next
  pub alike : Alike formats state disk → Alike formats (lead state).next disk
  pub untagged : (lead state).untagged ≡ lines
  pub ends : last ≡ (lead state).last

module _ {S : Type 0} (formats : Formats) (view : S → View) (session : Session S) where
  module _ (after : Session S) (lead : State → Outcome) (last : Reply) where
    pub at_once : (state : State) (w : World) → Leads formats view after lead [] last w.disk state → HasReplied formats (StandsFor formats view after) state (lead state) last [] w w
    at_once state w is = record {
      heard = refl;
      ended = refl;
      turns = refl;
      part = [];
      is_said = sym (append-nil w.streams.said);
      are_put = subst (λ l. AllSaid SaysLine l []) (sym is.untagged) refl;
      is_last = is.ends;
      is_state = is.stands;
      still_alike = is.alike;
    }

    -- its reply is one line
    pub says_at : (h : History) → ((disk : Disk) (state : State) → StandsFor formats view session disk state → Leads formats view after lead [] last disk state)
        → Does formats (StandsFor formats view session) (StandsFor formats view after) lead (Ok last) [] h h
    says_at h is = record {
      instants = λ state now. passed_none (Replying formats state (lead state)) h;
      done = λ state now. arrived_none (HasReplied formats (StandsFor formats view after) state (lead state) last []) h
          (now_weaker (λ w. StandsFor formats view session w.disk state) _ (λ w here. at_once state w (is w.disk state here)) h now);
    }

    -- it is refused with a line
    pub refused_at : (h : History) → ((disk : Disk) (state : State) → StandsFor formats view session disk state → Leads formats view after lead [] last disk state)
        → Does formats (StandsFor formats view session) (StandsFor formats view after) lead (Err (Refused last)) [] h h
    refused_at h is = record {
      instants = λ state now. passed_none (Replying formats state (lead state)) h;
      done = λ state now. arrived_none (HasReplied formats (StandsFor formats view after) state (lead state) last []) h
          (now_weaker (λ w. StandsFor formats view session w.disk state) _ (λ w here. at_once state w (is w.disk state here)) h now);
    }

    -- its lines are put and its last is left, or the session ends while they are put
    pub puts_at : AreFormats formats → (lines : List Line) (was waits : List ℕ) (put : Result (Unit {0}) Stop) (result : Result Reply Refusal) (old new : History)
        → ((disk : Disk) (state : State) → StandsFor formats view session disk state → Leads formats view after lead lines last disk state)
        → was ≡ [] → PutsLines lines was waits put old new → result ≡ ends_with put last
        → Does formats (StandsFor formats view session) (StandsFor formats view after) lead result waits old new
    puts_at laws lines was waits put result old new is none puts ends =
        led_does formats (kept formats laws) (StandsFor formats view after) (StandsFor formats view session) lead lines last waits put result old old new
        (λ state now. quiet_led formats (kept formats laws) (StandsFor formats view after) (StandsFor formats view session) (lead state) lines last state old
        (λ disk here. let leads = is disk state here in (leads.stands, leads.alike, leads.untagged, leads.ends)) now)
        (subst (λ w. PutsLines lines w waits put old new) none puts) ends

  -- what the command leads to is the refusal, which leaves the state
  pub refuses_at : (lead : State → Outcome) (refusal : Reply) (h : History)
      → ((disk : Disk) (state : State) → StandsFor formats view session disk state → lead state ≡ only state refusal)
      → Does formats (StandsFor formats view session) (StandsFor formats view session) lead (Err (Refused refusal)) [] h h
  refuses_at lead refusal h is = refused_at session lead refusal h (λ disk state here. leaves disk state here (is disk state here))
    where
      leaves : (disk : Disk) (state : State) → StandsFor formats view session disk state → lead state ≡ only state refusal → Leads formats view session lead [] refusal disk state
      leaves disk state here leads = record {
        stands = subst (λ o. StandsFor formats view session disk o.next) (sym leads) here;
        alike = subst (λ o. Alike formats state disk → Alike formats o.next disk) (sym leads) (λ same. same);
        untagged = ap (λ o. o.untagged) leads;
        ends = sym (ap (λ o. o.last) leads);
      }

  -- the command leads to one line, and leaves the state
  pub says_only : (lead : State → Outcome) (last : Reply) (lines : List Line) (disk : Disk) (state : State) → ((state : State) → lead state ≡ record { next = state; untagged = lines; last = last })
      → StandsFor formats view session disk state → Leads formats view session lead lines last disk state
  says_only lead last lines disk state leads stands = record {
    stands = subst (λ o. StandsFor formats view session disk o.next) (sym (leads state)) stands;
    alike = subst (λ o. Alike formats state disk → Alike formats o.next disk) (sym (leads state)) (λ same. same);
    untagged = ap (λ o. o.untagged) (leads state);
    ends = sym (ap (λ o. o.last) (leads state));
  }

  -- a command on a selection that leaves the state and says one line
  pub selected_says : (tag : List ℕ) (word : Words) (test : Bool) → is_some session.selected ≡ not test → test ≡ false
      → (disk : Disk) (state : State) → StandsFor formats view session disk state
      → Leads formats view session (λ state. or_leaves state (the_selected tag state >>= λ s. Ok (done tag word state []))) [] (reply.Done tag word) disk state
  selected_says tag word test is unset disk state stands = by_selection session.selected state.selected refl stands.selected (is ∙ ap not unset)
    where
      lead : State → Outcome
      lead state = or_leaves state (the_selected tag state >>= λ s. Ok (done tag word state []))

      by_selection : (o : Option (Open S)) (s : Option Selected) → state.selected ≡ s → IsSelection formats view state o (seen disk) s → is_some o ≡ true
          → Leads formats view session (λ state. or_leaves state (the_selected tag state >>= λ s. Ok (done tag word state []))) [] (reply.Done tag word) disk state
      by_selection None s at selection some = absurd (cc)
      by_selection (Some o) None at selection some = absurd selection
      by_selection (Some o) (Some s) at selection some =
          let leads = is_selected tag state s (λ s. Ok (done tag word state [])) at in
          record {
            stands = subst (λ o. StandsFor formats view session disk o.next) (sym leads) stands;
            alike = subst (λ o. Alike formats state disk → Alike formats o.next disk) (sym leads) (λ same. same);
            untagged = ap (λ o. o.untagged) leads;
            ends = sym (ap (λ o. o.last) leads);
          }

-- ---- The session ends at a call that failed, or for want of memory

pub ended_so : (result : Result Reply Refusal) (stop : Stop) → IsErrAnd result (λ e. e ≡ Ends stop) → result ≡ Err (Ends stop)
ended_so (Ok last) stop is = absurd is
ended_so (Err e) stop is = ap Err is

-- the refusal goes on as it is
pub refused_so : (result : Result Reply Refusal) (refusal : Refusal) → IsErrAnd result (λ e. e ≡ refusal) → result ≡ Err refusal
refused_so (Ok last) refusal is = absurd is
refused_so (Err e) refusal is = ap Err is
