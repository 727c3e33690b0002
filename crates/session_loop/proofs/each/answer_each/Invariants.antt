use Rattle.std.proofs.Common.{◌≡◌, take, false}
use Rattle.file_model.specs.Histories.{Now, Passed}
use Rattle.file_model.specs.Arrived.{Arrived}
use Rattle.session_loop.specs.Machine.{has_last}
use Rattle.session_loop.specs.Instants.{Answering, HasAnswered}
use Rattle.session_loop.proofs.each.answer_each.Given as goal

-- the units so far were answered, and none of them ended the session
abbrev pub invariant-loop-unit : goal.invariant-loop-unit
invariant-loop-unit g l =
    let history = g.H.Files.history in
    let faults = g.H.Files.faults in
    let s = g.S.Answers in
    let so_far = take l.unit-index l.units in
    record {
      here : Now (history l.host) (λ w. (state : s.State) × s.stands l.session w.disk state);
      none : has_last s.protocol.is_last so_far ≡ false;
      instants : (state : s.State) → Now (history l.fn.host) (λ w. s.stands l.fn.session w.disk state)
          → Passed (Answering s.protocol state so_far) (history l.fn.host) (history l.host);
      answered : (state : s.State) → Now (history l.fn.host) (λ w. s.stands l.fn.session w.disk state)
          → Arrived (HasAnswered s.protocol (s.stands l.session) state so_far) (history l.fn.host) (history l.host);
      hear : (faults l.host).hear ≡ (faults l.fn.host).hear;
      file : (faults l.host).file ≡ (faults l.fn.host).file;
      say : (faults l.host).say ≡ (faults l.fn.host).say;
    }
