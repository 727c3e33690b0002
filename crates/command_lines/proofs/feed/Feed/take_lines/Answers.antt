use Rattle.std.proofs.Common.{List, ℕ, ◌≡◌, refl, subst, sym, arith, ◌-◌, ◌+◌, take, drop, length}
use Rattle.std.proofs.lemmas.Grind.{common_steps}
use Rattle.command_lines.specs.Taken.{AddsFirst}
use Rattle.command_lines.proofs.Pieces.{line_feed_reached, all_reached, part_added, on_err}
use Rattle.command_lines.proofs.feed.Feed.take_lines.Goals as goal

behind : (bytes : List ℕ) (n : ℕ) → take (length bytes - n) (drop n bytes) ≡ drop n bytes
behind bytes n = grind (arith, common_steps)

pub returns-in_err-take_run-clause-prefix : goal.returns-in_err-take_run-clause-prefix
returns-in_err-take_run-clause-prefix c stream taken =
    on_err c.from_residual.result (part_added _ _ stream _ _ _ _ c.loop-end.invariant taken)

pub returns-in_err-take_line_feed-clause-prefix : goal.returns-in_err-take_line_feed-clause-prefix
returns-in_err-take_line_feed-clause-prefix c stream taken =
    on_err c.from_residual-in_err-take_line_feed.result
    (subst (AddsFirst stream c.args.piece.now c.args.units.now.items) (sym c.in_err-take_line_feed.ensures.unchanged)
    (part_added _ _ stream _ _ _ _ c.loop-end.invariant taken))

pub loop-end-preserved : goal.loop-end-preserved
loop-end-preserved c =
    line_feed_reached c.args.self.now c.loop-end.self c.take_run.new.self c.take_line_feed.new.self c.args.piece.now c.loop-end.rest.now _ _ c.in-Some.end
    c.args.units.now.items c.loop-end.units.items c.take_line_feed.new.units.items
    c.loop-end.invariant c.in-Some.ensures refl (behind c.loop-end.rest.now (c.in-Some.end + 1)) c.in_ok-take_run.ensures c.in_ok-take_line_feed.ensures.taken

pub returns-clause-taken : goal.returns-clause-taken
returns-clause-taken c =
    all_reached c.take_run-2.result _ _ _ _ _ _ _ c.loop-end.invariant c.in_default.ensures c.take_run-2.ensures

pub returns-clause-prefix : goal.returns-clause-prefix
returns-clause-prefix c stream taken =
    on_err c.take_run-2.result (part_added _ _ stream _ _ _ _ c.loop-end.invariant taken)
