use Rattle.std.proofs.Common.{◌≡◌, ◌+◌, ◌^◌, List, ℕ, [], false, length}
use Rattle.file_model.specs.Histories.{History, Now, Passed}
use Rattle.file_model.specs.Arrived.{Arrived}
use Rattle.session_loop.specs.Machine.{commands_in, is_over}
use Rattle.session_loop.specs.Instants.{Serving, HasServed}
use Rattle.session_loop.proofs.session.converse.Given as goal

-- these bytes were heard, and all their units answered
abbrev pub invariant-loop-left : goal.invariant-loop-left
invariant-loop-left g l =
    let history = g.H.Files.history in
    let faults = g.H.Files.faults in
    let s = g.S.Answers in
    record {
      room : length l.buffer ≡ length l.fn.buffer;
      here : Now (history l.host) (λ w. (state : s.State) × s.stands l.session w.disk state);
      served : g.S.Reader.UnitReader.has_taken l.fn.reader [] → (heard : List ℕ) × g.S.Reader.UnitReader.has_taken l.reader heard × (is_over s.protocol heard ≡ false) × (length heard + l.left ≡ 2 ^ 40)
          × ((first : History) (state : s.State)
          → Arrived (HasServed s.protocol (s.stands l.fn.session) state [] (commands_in s.protocol []) false) first (history l.fn.host)
          → Arrived (HasServed s.protocol (s.stands l.session) state heard (commands_in s.protocol heard) false) first (history l.host))
          × ((first : History) (state : s.State)
          → Passed (Serving s.protocol state) first (history l.fn.host)
          → Arrived (HasServed s.protocol (s.stands l.fn.session) state [] (commands_in s.protocol []) false) first (history l.fn.host)
          → Passed (Serving s.protocol state) first (history l.host));
      hear : (faults l.host).hear ≡ (faults l.fn.host).hear;
      file : (faults l.host).file ≡ (faults l.fn.host).file;
      say : (faults l.host).say ≡ (faults l.fn.host).say;
    }

abbrev pub decreases-loop-left : goal.decreases-loop-left
decreases-loop-left g l = l.left
