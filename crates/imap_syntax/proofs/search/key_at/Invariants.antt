use Rattle.std.proofs.Common.{◌≡◌, ◌≤◌, length}
use Rattle.imap_syntax.specs.Keys.{key_at}
use Rattle.imap_syntax.specs.Stack.{followed, ahead}
use Rattle.imap_syntax.proofs.search.key_at.Given as goal

abbrev pub invariant-loop-step : goal.invariant-loop-step
invariant-loop-step l = record {
  leads : followed l.frames.items l.literals.items l.step ≡ key_at 100 l.fn.bytes l.fn.literals.items;
  shallow : length l.frames.items ≤ 100;
}

abbrev pub decreases-loop-step : goal.decreases-loop-step
decreases-loop-step l = ahead l.frames.items l.step
