-- From what a command does to what a unit promises.
use Rattle.std.proofs.Common.{ℕ, List, [], ◌∷◌, ◌++◌, ◌≡◌, ⊎_elim, inl, inr, refl, sym, ◌∙◌, ap, subst, Result, Ok, Err}
use Rattle.std.proofs.lemmas.List.{append-nil}
use Rattle.file_model.specs.Disk.{Disk, MayLeave}
use Rattle.file_model.specs.Histories.{World, History, Now, Passed}
use Rattle.file_model.specs.Arrived.{Arrived, Begins}
use Rattle.file_model.proofs.Passes.{passed_none, passed_weaker, passed_then, arrived_none, arrived_then}
use Rattle.file_model.proofs.Runs.{now_weaker}
use Rattle.any_store.specs.Choice.{Formats}
use Rattle.imap_reply.specs.declared.reply.Reply.{Reply}
use Rattle.session_loop.specs.Machine.{IsKept}
use Rattle.session_loop.specs.Saying.{AllSaid}
use Rattle.session_loop.specs.declared.answers.Stop.{Stop}
use Rattle.session_loop.proofs.Machine.{begins_append}
use Rattle.session_loop.proofs.Saying.{first_more, first_none}
use Rattle.imap_session.specs.declared.refusal.Refusal.{Refusal}
use Rattle.imap_session.specs.declared.refusal.Refusal.TheVariants.{Line as Refused, Ends}
use Rattle.imap_session.specs.Doing.{Alike, Committing, HasCommitted, Replying, HasReplied, IfAnswered, Does}
use Rattle.imap_session.specs.Endings.{ends_with}
use Rattle.imap_session.specs.Lines.{Line, reply_line, SaysLine}
use Rattle.imap_session.specs.Protocol.{protocol}
use Rattle.imap_session.specs.Putting.{SayingLines, HasPutLines, PutsLines}
use Rattle.imap_session.specs.State.{State, Outcome, outcome_lines}
use Rattle.imap_session.proofs.Putting.{put_from, put_all_from}

-- a host that tells nothing
pub untold_passed : (R S : World → World → Type 0) (new : History) → Passed R [] new → Passed S [] new
untold_passed R S new run = record { added = run.added; whole = run.whole; each = run.each }

module _ (formats : Formats) where
  committing_instant : (state : State) (outcome : Outcome) (a w : World) → Committing formats state outcome.next a w → Replying formats state outcome a w
  committing_instant state outcome a w is = record {
    heard = ap (λ s. s.heard) is.streams;
    ended = ap (λ s. s.ended) is.streams;
    turns = ap (λ s. s.turns) is.streams;
    part = [];
    is_said = ap (λ s. s.said) is.streams ∙ sym (append-nil a.streams.said);
    is_part = first_none SaysLine (outcome_lines outcome);
    crash = λ same image left. ⊎_elim (λ before. inl (refl, before)) (λ behind. inr behind) (is.crash same image left);
  }

  -- ---- Changes are made, and then the lines are put

  module _ (kept : IsKept (protocol formats)) (after : Disk → State → Type 0) where
    saying_instant : (state : State) (outcome : Outcome) (lines : List Line) → outcome.untagged ≡ lines → (a b c : World)
        → HasCommitted formats after state outcome.next a b → SayingLines lines b c → Replying formats state outcome a c
    saying_instant state outcome lines are a b c made saying = record {
      heard = saying.heard ∙ ap (λ s. s.heard) made.streams;
      ended = saying.ended ∙ ap (λ s. s.ended) made.streams;
      turns = saying.turns ∙ ap (λ s. s.turns) made.streams;
      part = saying.part;
      is_said = saying.is_said ∙ ap (λ s. s.said ++ saying.part) made.streams;
      is_part = first_more SaysLine lines (outcome_lines outcome) saying.part (subst (λ l. Begins l (outcome_lines outcome)) are (begins_append outcome.untagged (reply_line outcome.last ∷ []))) saying.is_part;
      crash = λ same image left. inr (kept b.disk outcome.next (made.still_alike same) image (subst (λ d. MayLeave d image) saying.disk left));
    }

    put_end : (state : State) (outcome : Outcome) (lines : List Line) (last : Reply) (waits : List ℕ) → outcome.untagged ≡ lines → last ≡ outcome.last → (a b c : World)
        → HasCommitted formats after state outcome.next a b → HasPutLines lines waits b c → HasReplied formats after state outcome last waits a c
    put_end state outcome lines last waits are ends a b c made put = record {
      heard = put.heard ∙ ap (λ s. s.heard) made.streams;
      ended = put.ended ∙ ap (λ s. s.ended) made.streams;
      turns = put.turns ∙ ap (λ s. s.turns) made.streams;
      part = put.part;
      is_said = put.is_said ∙ ap (λ s. s.said ++ put.part) made.streams;
      are_put = subst (λ l. AllSaid SaysLine l (put.part ++ waits)) (sym are) put.are_put;
      is_last = ends;
      is_state = subst (λ d. after d outcome.next) (sym put.disk) made.is_state;
      still_alike = λ same. subst (λ d. Alike formats outcome.next d) (sym put.disk) (made.still_alike same);
    }

    -- the changes of a command, which leads to these lines
    pub record Led (outcome : Outcome) (lines : List Line) (last : Reply) (state : State) (old mid : History) : Type 0 where
      pub run : Passed (Committing formats state outcome.next) old mid
      pub made : Arrived (HasCommitted formats after state outcome.next) old mid
      pub facts : Now old (λ w. (outcome.untagged ≡ lines) × (last ≡ outcome.last))

    led_passed : (outcome : Outcome) (lines : List Line) (last : Reply) (state : State) (waits : List ℕ) (put : Result (Unit {0}) Stop) (old mid new : History)
        → Led outcome lines last state old mid → PutsLines lines [] waits put mid new → Passed (Replying formats state outcome) old new
    led_passed outcome lines last state waits put [] mid new led puts = nothing mid led.made (put_from lines waits put mid new puts)
      where
        nothing : (mid : History) → mid ≡ [] → Passed (SayingLines lines) mid new → Passed (Replying formats state outcome) [] new
        nothing [] none run = untold_passed (SayingLines lines) (Replying formats state outcome) new run
        nothing (w ∷ past) none run = absurd (cc)
    led_passed outcome lines last state waits put (w ∷ past) mid new led puts =
        passed_then (Committing formats state outcome.next) (HasCommitted formats after state outcome.next) (SayingLines lines) (Replying formats state outcome)
        (committing_instant state outcome) (saying_instant state outcome lines led.facts.0) (w ∷ past) mid new led.run led.made (put_from lines waits put mid new puts)

    led_arrived : (outcome : Outcome) (lines : List Line) (last : Reply) (state : State) (waits : List ℕ) (old mid new : History)
        → Led outcome lines last state old mid → PutsLines lines [] waits (Ok tt) mid new → Arrived (HasReplied formats after state outcome last waits) old new
    led_arrived outcome lines last state waits [] mid new led puts = nothing mid led.made (put_all_from lines waits mid new puts)
      where
        nothing : (mid : History) → mid ≡ [] → Arrived (HasPutLines lines waits) mid new → new ≡ []
        nothing [] none at = at
        nothing (w ∷ past) none at = absurd (cc)
    led_arrived outcome lines last state waits (w ∷ past) mid new led puts =
        arrived_then (HasCommitted formats after state outcome.next) (HasPutLines lines waits) (HasReplied formats after state outcome last waits)
        (put_end state outcome lines last waits led.facts.0 led.facts.1) (w ∷ past) mid new led.made (put_all_from lines waits mid new puts)

    -- a command whose changes are made and whose lines are put, or in which the session ends while they are put
    pub led_does : (before : Disk → State → Type 0) (lead : State → Outcome) (lines : List Line) (last : Reply) (waits : List ℕ) (put : Result (Unit {0}) Stop) (result : Result Reply Refusal) (old mid new : History)
        → ((state : State) → Now old (λ w. before w.disk state) → Led (lead state) lines last state old mid)
        → PutsLines lines [] waits put mid new → result ≡ ends_with put last
        → Does formats before after lead result waits old new
    led_does before lead lines last waits put result old mid new leads puts ends =
        subst (λ r. Does formats before after lead r waits old new) (sym ends) (record {
          instants = λ state now. led_passed (lead state) lines last state waits put old mid new (leads state now) puts;
          done = by_end put puts;
        })
      where
        by_end : (put : Result (Unit {0}) Stop) → PutsLines lines [] waits put mid new → (state : State) → Now old (λ w. before w.disk state)
            → IfAnswered (ends_with put last) (λ last. Arrived (HasReplied formats after state (lead state) last waits) old new)
        by_end (Ok u) puts state now = led_arrived (lead state) lines last state waits old mid new (leads state now) puts
        by_end (Err stop) puts state now = tt

    -- a command that changes no file
    pub quiet_led : (before : Disk → State → Type 0) (outcome : Outcome) (lines : List Line) (last : Reply) (state : State) (h : History)
        → ((disk : Disk) → before disk state → after disk outcome.next × (Alike formats state disk → Alike formats outcome.next disk) × (outcome.untagged ≡ lines) × (last ≡ outcome.last))
        → Now h (λ w. before w.disk state) → Led outcome lines last state h h
    quiet_led before outcome lines last state h says now = record {
      run = passed_none (Committing formats state outcome.next) h;
      made = arrived_none (HasCommitted formats after state outcome.next) h
          (now_weaker (λ w. before w.disk state) (λ w. HasCommitted formats after state outcome.next w w) (λ w here. record { streams = refl; is_state = (says w.disk here).0; still_alike = (says w.disk here).1 }) h now);
      facts = now_weaker (λ w. before w.disk state) (λ w. (outcome.untagged ≡ lines) × (last ≡ outcome.last)) (λ w here. ((says w.disk here).2, (says w.disk here).3)) h now;
    }

    -- a command that is refused with a line
    pub refused_does : (before : Disk → State → Type 0) (lead : State → Outcome) (line : Reply) (h : History)
        → ((disk : Disk) (state : State) → before disk state → after disk (lead state).next × (Alike formats state disk → Alike formats (lead state).next disk) × ((lead state).untagged ≡ []) × (line ≡ (lead state).last))
        → Does formats before after lead (Err (Refused line)) [] h h
    refused_does before lead line h says = record {
      instants = λ state now. passed_none (Replying formats state (lead state)) h;
      done = λ state now. arrived_none (HasReplied formats after state (lead state) line []) h
          (now_weaker (λ w. before w.disk state) (λ w. HasReplied formats after state (lead state) line [] w w) (λ w here. at_once state w here) h now);
    }
      where
        at_once : (state : State) (w : World) → before w.disk state → HasReplied formats after state (lead state) line [] w w
        at_once state w here = let is = says w.disk state here in record {
          heard = refl;
          ended = refl;
          turns = refl;
          part = [];
          is_said = sym (append-nil w.streams.said);
          are_put = subst (λ l. AllSaid SaysLine l []) (sym is.2) refl;
          is_last = is.3;
          is_state = is.0;
          still_alike = is.1;
        }

  -- the session ends in it, before anything is done
  pub ends_at_once : (before after : Disk → State → Type 0) (lead : State → Outcome) (stop : Stop) (waits : List ℕ) (h : History) → Does formats before after lead (Err (Ends stop)) waits h h
  ends_at_once before after lead stop waits h = record { instants = λ state now. passed_none (Replying formats state (lead state)) h; done = λ state now. tt }

  -- or while its files are changed
  pub ends_in_files : (before after : Disk → State → Type 0) (lead : State → Outcome) (stop : Stop) (waits : List ℕ) (old new : History)
      → ((state : State) → Now old (λ w. before w.disk state) → Passed (Committing formats state (lead state).next) old new)
      → Does formats before after lead (Err (Ends stop)) waits old new
  ends_in_files before after lead stop waits old new runs = record {
    instants = λ state now. passed_weaker (Committing formats state (lead state).next) (Replying formats state (lead state)) (committing_instant state (lead state)) old new (runs state now);
    done = λ state now. tt;
  }

-- ---- A command that leads to the same

pub answered_as : (result : Result Reply Refusal) (P Q : Reply → Type 0) → ((last : Reply) → P last → Q last) → IfAnswered result P → IfAnswered result Q
answered_as (Ok last) P Q turn is = turn last is
answered_as (Err (Refused line)) P Q turn is = turn line is
answered_as (Err (Ends stop)) P Q turn is = tt

pub does_as : (formats : Formats) (before after : Disk → State → Type 0) (lead other : State → Outcome) (result : Result Reply Refusal) (waits : List ℕ) (old new : History)
    → ((disk : Disk) (state : State) → before disk state → lead state ≡ other state) → Does formats before after lead result waits old new → Does formats before after other result waits old new
does_as formats before after lead other result waits [] new same does = record {
  instants = λ state now. untold_passed (Replying formats state (lead state)) (Replying formats state (other state)) new (does.instants state now);
  done = λ state now. answered_as result (λ last. Arrived (HasReplied formats after state (lead state) last waits) [] new) (λ last. Arrived (HasReplied formats after state (other state) last waits) [] new)
      (λ last is. is) (does.done state now);
}
does_as formats before after lead other result waits (w ∷ past) new same does = record {
  instants = λ state now. subst (λ o. Passed (Replying formats state o) (w ∷ past) new) (same w.disk state now) (does.instants state now);
  done = λ state now. subst (λ o. IfAnswered result (λ last. Arrived (HasReplied formats after state o last waits) (w ∷ past) new)) (same w.disk state now) (does.done state now);
}
