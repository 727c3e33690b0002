-- Units: a command is counted, done, and its reply put and said.
use Rattle.std.proofs.Common.{ℕ, List, [], ◌∷◌, ◌++◌, ◌≡◌, ⊎_elim, inr, refl, sym, ◌∙◌, ap, subst, append_assoc, Result, Ok, Err, OnOk, None}
use Rattle.std.proofs.lemmas.List.{append-nil}
use Rattle.std.specs.FinMap.{empty}
use Rattle.file_model.specs.Disk.{Disk, MayLeave}
use Rattle.file_model.specs.Histories.{World, History, Now, Passed}
use Rattle.file_model.specs.Arrived.{Arrived, IsSaying}
use Rattle.file_model.proofs.Passes.{passed_weaker, passed_then, passed_none, arrived_weaker, arrived_then, arrived_none, arrived_now}
use Rattle.file_model.proofs.Runs.{now_weaker}
use Rattle.imap_grammar.specs.declared.unit.Unit as client
use Rattle.imap_reply.specs.declared.reply.Reply.{Reply}
use Rattle.imap_reply.specs.Replies.{reply_bytes}
use Rattle.imap_reply.specs.Putting.{HasPut, Puts}
use Rattle.store_trait.specs.Views.{View}
use Rattle.any_store.specs.Choice.{Formats}
use Rattle.mail_tree.proofs.Nodes.{AreFormats}
use Rattle.session_loop.specs.Machine.{replies}
use Rattle.session_loop.specs.Instants.{Answering, HasAnswered}
use Rattle.session_loop.specs.Saying.{AllSaid, FirstSaid}
use Rattle.session_loop.specs.declared.answers.Stop.{Stop}
use Rattle.session_loop.proofs.Saying.{all_append, all_one, first_part, first_none}
use Rattle.imap_session.specs.declared.refusal.Refusal.{Refusal}
use Rattle.imap_session.specs.declared.refusal.Refusal.TheVariants.{Line as Refused, Ends}
use Rattle.imap_session.specs.declared.session.Session.{Session}
use Rattle.imap_session.specs.Doing.{Alike, Replying, HasReplied, HasPutReply, IfAnswered, Does, DoesUnit}
use Rattle.imap_session.specs.Laws.{kept}
use Rattle.imap_session.specs.Lines.{reply_line, SaysLine}
use Rattle.imap_session.specs.Protocol.{protocol}
use Rattle.imap_session.specs.Standing.{StandsFor}
use Rattle.imap_session.specs.State.{State, Outcome, outcome_lines, only, next_fresh, counted}
use Rattle.imap_session.specs.Step.{outcome_of}
use Rattle.imap_session.specs.UnitDone.{Finishes}
use Rattle.imap_session.proofs.Counting.{counted_stands}
use Rattle.imap_session.proofs.Putting.{begins_behind_part, whole_put}

module _ (formats : Formats) (laws : AreFormats formats) (after : Disk → State → Type 0) where
  -- ---- The last line is put

  all_lines : (outcome : Outcome) (last : Reply) (front : List ℕ) → last ≡ outcome.last → AllSaid SaysLine outcome.untagged front → AllSaid SaysLine (outcome_lines outcome) (front ++ reply_bytes last)
  all_lines outcome last front is are =
      all_append SaysLine outcome.untagged (reply_line outcome.last ∷ []) front (reply_bytes last) are (all_one SaysLine (reply_line outcome.last) (reply_bytes last) (ap reply_bytes is))

  line_instant : (state : State) (outcome : Outcome) (last : Reply) (waits : List ℕ) (a b c : World) → HasReplied formats after state outcome last waits a b → IsSaying (waits ++ reply_bytes last) b c → Replying formats state outcome a c
  line_instant state outcome last waits a b c made saying = record {
    heard = saying.heard ∙ made.heard;
    ended = saying.ended ∙ made.ended;
    turns = saying.turns ∙ made.turns;
    part = made.part ++ saying.part;
    is_said = saying.is_said ∙ ap (λ s. s ++ saying.part) made.is_said ∙ append_assoc a.streams.said made.part saying.part;
    is_part = first_part SaysLine (outcome_lines outcome) (made.part ++ saying.part) ((made.part ++ waits) ++ reply_bytes last) (all_lines outcome last (made.part ++ waits) made.is_last made.are_put)
        (begins_behind_part made.part saying.part waits (reply_bytes last) saying.is_part);
    crash = λ same image left. inr (kept formats laws b.disk outcome.next (made.still_alike same) image (subst (λ d. MayLeave d image) saying.disk left));
  }

  line_end : (state : State) (outcome : Outcome) (last : Reply) (waits two : List ℕ) (a b c : World) → HasReplied formats after state outcome last waits a b → HasPut (waits ++ reply_bytes last) two [] b c → HasPutReply formats after state outcome two a c
  line_end state outcome last waits two a b c made put = record {
    heard = put.heard ∙ made.heard;
    ended = put.ended ∙ made.ended;
    turns = put.turns ∙ made.turns;
    part = made.part ++ put.part;
    is_said = put.is_said ∙ ap (λ s. s ++ put.part) made.is_said ∙ append_assoc a.streams.said made.part put.part;
    are_put = subst (AllSaid SaysLine (outcome_lines outcome)) (whole_put made.part put.part two waits (reply_bytes last) put.is_whole) (all_lines outcome last (made.part ++ waits) made.is_last made.are_put);
    is_state = subst (λ d. after d outcome.next) (sym put.disk) made.is_state;
    still_alike = λ same. subst (λ d. Alike formats outcome.next d) (sym put.disk) (made.still_alike same);
  }

  -- a reply that is put, or the session ends
  record UnitReply (state : State) (outcome : Outcome) (ending : Result (Unit {0}) Stop) (waits : List ℕ) (old new : History) : Type 0 where
    instants : Passed (Replying formats state outcome) old new
    done : OnOk ending (Arrived (HasPutReply formats after state outcome waits) old new)

  finished_line : (state : State) (outcome : Outcome) (last : Reply) (ending : Result (Unit {0}) Stop) (waits two : List ℕ) (old mid new : History)
      → Passed (Replying formats state outcome) old mid → Arrived (HasReplied formats after state outcome last waits) old mid
      → Puts (waits ++ reply_bytes last) two ending mid new → UnitReply state outcome ending two old new
  finished_line state outcome last ending waits two old mid new run made puts = record {
    instants = passed_then (Replying formats state outcome) (HasReplied formats after state outcome last waits) (IsSaying (waits ++ reply_bytes last)) (Replying formats state outcome)
        (λ a b is. is) (line_instant state outcome last waits) old mid new run made puts.instants;
    done = by_end ending puts.done;
  }
    where
      by_end : (ending : Result (Unit {0}) Stop) → OnOk ending (Arrived (HasPut (waits ++ reply_bytes last) two []) mid new) → OnOk ending (Arrived (HasPutReply formats after state outcome two) old new)
      by_end (Ok u) put = arrived_then (HasReplied formats after state outcome last waits) (HasPut (waits ++ reply_bytes last) two []) (HasPutReply formats after state outcome two) (line_end state outcome last waits two) old mid new made put
      by_end (Err stop) put = tt

  finished : (state : State) (outcome : Outcome) (result : Result Reply Refusal) (ending : Result (Unit {0}) Stop) (waits two : List ℕ) (old mid new : History)
      → Passed (Replying formats state outcome) old mid → IfAnswered result (λ last. Arrived (HasReplied formats after state outcome last waits) old mid)
      → Finishes result waits ending two mid new → UnitReply state outcome ending two old new
  finished state outcome (Ok last) ending waits two old mid new run made puts = finished_line state outcome last ending waits two old mid new run made puts
  finished state outcome (Err (Refused line)) ending waits two old mid new run made puts = finished_line state outcome line ending waits two old mid new run made puts
  finished state outcome (Err (Ends stop)) ending waits two old mid new run made ends = record {
    instants = subst (λ h. Passed (Replying formats state outcome) old h) (sym ends.1) run;
    done = subst (λ e. OnOk e (Arrived (HasPutReply formats after state outcome two) old new)) (sym ends.0) tt;
  }

  -- ---- The last bytes are said

  saying_rest : (state : State) (outcome : Outcome) (waits : List ℕ) (a b c : World) → HasPutReply formats after state outcome waits a b → IsSaying waits b c → Replying formats state outcome a c
  saying_rest state outcome waits a b c made saying = record {
    heard = saying.heard ∙ made.heard;
    ended = saying.ended ∙ made.ended;
    turns = saying.turns ∙ made.turns;
    part = made.part ++ saying.part;
    is_said = saying.is_said ∙ ap (λ s. s ++ saying.part) made.is_said ∙ append_assoc a.streams.said made.part saying.part;
    is_part = first_part SaysLine (outcome_lines outcome) (made.part ++ saying.part) (made.part ++ waits) made.are_put
        (record { rest = saying.is_part.rest; is_whole = append_assoc made.part saying.part saying.is_part.rest ∙ ap (λ l. made.part ++ l) saying.is_part.is_whole });
    crash = λ same image left. inr (kept formats laws b.disk outcome.next (made.still_alike same) image (subst (λ d. MayLeave d image) saying.disk left));
  }

  said_rest : (state : State) (outcome : Outcome) (waits left : List ℕ) (a b c : World) → HasPutReply formats after state outcome waits a b → HasPut waits left [] b c → HasPutReply formats after state outcome left a c
  said_rest state outcome waits left a b c made put = record {
    heard = put.heard ∙ made.heard;
    ended = put.ended ∙ made.ended;
    turns = put.turns ∙ made.turns;
    part = made.part ++ put.part;
    is_said = put.is_said ∙ ap (λ s. s ++ put.part) made.is_said ∙ append_assoc a.streams.said made.part put.part;
    are_put = subst (AllSaid SaysLine (outcome_lines outcome))
        (ap (λ l. made.part ++ l) (sym put.is_whole ∙ ap (λ l. put.part ++ l) (append-nil left)) ∙ sym (append_assoc made.part put.part left)) made.are_put;
    is_state = subst (λ d. after d outcome.next) (sym put.disk) made.is_state;
    still_alike = λ same. subst (λ d. Alike formats outcome.next d) (sym put.disk) (made.still_alike same);
  }

  pub ends_unit : (before : Disk → State → Type 0) (unit : client.Unit) (waits left : List ℕ) (ending : Result (Unit {0}) Stop) (old mid new : History)
      → DoesUnit formats before after unit (Ok tt) waits old mid → Puts waits left ending mid new → DoesUnit formats before after unit ending left old new
  ends_unit before unit waits left ending old mid new does puts = record {
    instants = λ state now. passed_then (Replying formats state (outcome_of formats state unit)) (HasPutReply formats after state (outcome_of formats state unit) waits) (IsSaying waits) (Replying formats state (outcome_of formats state unit))
        (λ a b is. is) (saying_rest state (outcome_of formats state unit) waits) old mid new (does.instants state now) (does.done state now) puts.instants;
    done = λ state now. by_end ending puts.done state now;
  }
    where
      by_end : (ending : Result (Unit {0}) Stop) → OnOk ending (Arrived (HasPut waits left []) mid new) → (state : State) → Now old (λ w. before w.disk state) → OnOk ending (Arrived (HasPutReply formats after state (outcome_of formats state unit) left) old new)
      by_end (Ok u) put state now = arrived_then (HasPutReply formats after state (outcome_of formats state unit) waits) (HasPut waits left []) (HasPutReply formats after state (outcome_of formats state unit) left)
          (said_rest state (outcome_of formats state unit) waits left) old mid new (does.done state now) put
      by_end (Err stop) put state now = tt

  -- ---- What the loop asks

  one_reply : (state : State) (unit : client.Unit) → outcome_lines (outcome_of formats state unit) ≡ replies (protocol formats).step state (unit ∷ [])
  one_reply state unit = sym (append-nil (outcome_lines (outcome_of formats state unit)))

  answering_instant : (state : State) (unit : client.Unit) (a w : World) → Replying formats state (outcome_of formats state unit) a w → Answering (protocol formats) state (unit ∷ []) a w
  answering_instant state unit a w is =
      let first : FirstSaid SaysLine (replies (protocol formats).step state (unit ∷ [])) is.part = subst (λ l. FirstSaid SaysLine l is.part) (one_reply state unit) is.is_part in
      record {
        heard = is.heard;
        ended = is.ended;
        turns = is.turns;
        part = is.part;
        is_said = is.is_said;
        is_part = first;
        crash = λ same image left. ⊎_elim
            (λ before. record { done = []; are_done = record { rest = unit ∷ []; is_whole = refl }; are_said = subst (FirstSaid SaysLine []) (sym before.0) (first_none SaysLine []); agreed = before.1 })
            (λ behind. record { done = unit ∷ []; are_done = record { rest = []; is_whole = refl }; are_said = first; agreed = behind })
            (is.crash same image left);
      }

  -- its instants
  pub unit_passed : (state : State) (unit : client.Unit) (old new : History) → Passed (Replying formats state (outcome_of formats state unit)) old new → Passed (Answering (protocol formats) state (unit ∷ [])) old new
  unit_passed state unit old new run = passed_weaker (Replying formats state (outcome_of formats state unit)) (Answering (protocol formats) state (unit ∷ [])) (answering_instant state unit) old new run

  -- and its end: its whole reply is said
  pub unit_answered : (state : State) (unit : client.Unit) (waits : List ℕ) (old new : History) → waits ≡ []
      → Arrived (HasPutReply formats after state (outcome_of formats state unit) waits) old new → Arrived (HasAnswered (protocol formats) after state (unit ∷ [])) old new
  unit_answered state unit waits old new none done =
      arrived_weaker (HasPutReply formats after state (outcome_of formats state unit) waits) (HasAnswered (protocol formats) after state (unit ∷ [])) (λ a b made. record {
        heard = made.heard;
        ended = made.ended;
        turns = made.turns;
        bytes = made.part;
        are_said = subst (λ l. AllSaid SaysLine l made.part) (one_reply state unit)
            (subst (AllSaid SaysLine (outcome_lines (outcome_of formats state unit))) (ap (λ l. made.part ++ l) none ∙ append-nil made.part) made.are_put);
        said = made.is_said;
        is_state = made.is_state;
        still_alike = made.still_alike;
      }) old new done

module _ {S : Type 0} (formats : Formats) (laws : AreFormats formats) (view : S → View) (session after : Session S) (unit : client.Unit) where
  -- ---- A command

  -- the reply of a command is that of its unit, in the state before it was counted
  uncounted_instant : (state : State) (outcome : Outcome) (a b : World) → Replying formats (counted state) outcome a b → Replying formats state outcome a b
  uncounted_instant state outcome a b is = record { heard = is.heard; ended = is.ended; turns = is.turns; part = is.part; is_said = is.is_said; is_part = is.is_part; crash = is.crash }

  uncounted_end : (state : State) (outcome : Outcome) (last : Reply) (waits : List ℕ) (a b : World)
      → HasReplied formats (StandsFor formats view after) (counted state) outcome last waits a b → HasReplied formats (StandsFor formats view after) state outcome last waits a b
  uncounted_end state outcome last waits a b is =
      record { heard = is.heard; ended = is.ended; turns = is.turns; part = is.part; is_said = is.is_said; are_put = is.are_put; is_last = is.is_last; is_state = is.is_state; still_alike = is.still_alike }

  pub command_unit : (lead : State → Outcome) (result : Result Reply Refusal) (ending : Result (Unit {0}) Stop) (waits two : List ℕ) (old mid new : History)
      → ((state : State) → outcome_of formats state unit ≡ lead (counted state))
      → Does formats (StandsFor formats view (record session { fresh = next_fresh session.fresh })) (StandsFor formats view after) lead result waits old mid
      → Finishes result waits ending two mid new
      → DoesUnit formats (StandsFor formats view session) (StandsFor formats view after) unit ending two old new
  command_unit lead result ending waits two old mid new leads does finishes = record {
    instants = λ state now. (reply state now).instants;
    done = λ state now. (reply state now).done;
  }
    where
      weaken : (state : State) (outcome : Outcome) (result : Result Reply Refusal)
          → IfAnswered result (λ last. Arrived (HasReplied formats (StandsFor formats view after) (counted state) outcome last waits) old mid)
          → IfAnswered result (λ last. Arrived (HasReplied formats (StandsFor formats view after) state outcome last waits) old mid)
      weaken state outcome (Ok last) done = arrived_weaker (HasReplied formats (StandsFor formats view after) (counted state) outcome last waits) _ (uncounted_end state outcome last waits) old mid done
      weaken state outcome (Err (Refused line)) done = arrived_weaker (HasReplied formats (StandsFor formats view after) (counted state) outcome line waits) _ (uncounted_end state outcome line waits) old mid done
      weaken state outcome (Err (Ends stop)) done = tt

      reply : (state : State) → Now old (λ w. StandsFor formats view session w.disk state) → UnitReply formats laws (StandsFor formats view after) state (outcome_of formats state unit) ending two old new
      reply state now =
          let counts = now_weaker (λ w. StandsFor formats view session w.disk state) (λ w. StandsFor formats view (record session { fresh = next_fresh session.fresh }) w.disk (counted state))
          (λ w here. counted_stands formats view session w.disk state here) old now in
          subst (λ o. UnitReply formats laws (StandsFor formats view after) state o ending two old new) (sym (leads state))
          (finished formats laws (StandsFor formats view after) state (lead (counted state)) result ending waits two old mid new
          (passed_weaker (Replying formats (counted state) (lead (counted state))) (Replying formats state (lead (counted state))) (uncounted_instant state (lead (counted state))) old mid (does.instants (counted state) counts))
          (weaken state (lead (counted state)) result (does.done (counted state) counts)) finishes)

  -- ---- A unit that is answered with one line

  pub line_unit : (line : Reply) (next : State → State) (ending : Result (Unit {0}) Stop) (none is : List ℕ) (old new : History)
      → ((state : State) → outcome_of formats state unit ≡ only (next state) line) → ((state : State) (disk : Disk) → Alike formats state disk → Alike formats (next state) disk) → none ≡ []
      → ((state : State) (disk : Disk) → StandsFor formats view session disk state → StandsFor formats view after disk (next state))
      → Puts (none ++ reply_bytes line) is ending old new
      → DoesUnit formats (StandsFor formats view session) (StandsFor formats view after) unit ending is old new
  line_unit line next ending none is old new leads same empty stands puts = record {
    instants = λ state now. (reply state now).instants;
    done = λ state now. (reply state now).done;
  }
    where
      reply : (state : State) → Now old (λ w. StandsFor formats view session w.disk state) → UnitReply formats laws (StandsFor formats view after) state (outcome_of formats state unit) ending is old new
      reply state now =
          subst (λ o. UnitReply formats laws (StandsFor formats view after) state o ending is old new) (sym (leads state))
          (finished_line formats laws (StandsFor formats view after) state (only (next state) line) line ending [] is old old new
          (passed_none (Replying formats state (only (next state) line)) old)
          (arrived_none (HasReplied formats (StandsFor formats view after) state (only (next state) line) line []) old
          (now_weaker (λ w. StandsFor formats view session w.disk state) _ (λ w here. record {
            heard = refl;
            ended = refl;
            turns = refl;
            part = [];
            is_said = sym (append-nil w.streams.said);
            are_put = refl;
            is_last = refl;
            is_state = stands state w.disk here;
            still_alike = same state w.disk;
          }) old now))
          (subst (λ l. Puts (l ++ reply_bytes line) is ending old new) empty puts))

-- ---- The session afterwards

-- a state, where nothing is told of any
nowhere : State
nowhere = record { root = []; moment = 1; tree = record { nodes = empty; subscribed = [] }; count = 0; selected = None }

pub unit_stands : (formats : Formats) (before after : Disk → State → Type 0) (unit : client.Unit) (waits : List ℕ) (old new : History)
    → Now old (λ w. (state : State) × before w.disk state)
    → ((state : State) → Now old (λ w. before w.disk state) → Arrived (HasPutReply formats after state (outcome_of formats state unit) waits) old new)
    → Now new (λ w. (state : State) × after w.disk state)
unit_stands formats before after unit waits [] new now done = arrived_now (HasPutReply formats after nowhere (outcome_of formats nowhere unit) waits) (λ w. (state : State) × after w.disk state) (λ a b made. ((outcome_of formats nowhere unit).next, made.is_state)) [] new (done nowhere tt)
unit_stands formats before after unit waits (a ∷ past) new now done =
    arrived_now (HasPutReply formats after now.0 (outcome_of formats now.0 unit) waits) (λ w. (state : State) × after w.disk state) (λ x b made. ((outcome_of formats now.0 unit).next, made.is_state)) (a ∷ past) new (done now.0 now.1)
