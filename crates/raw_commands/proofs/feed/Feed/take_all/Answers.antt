use Rattle.std.proofs.Common.{List, ℕ, ◌≡◌, ◌-◌, sym, subst, arith, take, drop, length}
use Rattle.std.proofs.lemmas.Grind.{common_steps}
use Rattle.raw_commands.specs.Taken.{GoesFirst}
use Rattle.raw_commands.proofs.Pieces.{further, part_added}
use Rattle.raw_commands.proofs.Runs.{on_err}
use Rattle.raw_commands.proofs.feed.Feed.take_all.Goals as goal

all_behind : (bytes : List ℕ) (n : ℕ) → take (length bytes - n) (drop n bytes) ≡ drop n bytes
all_behind bytes n = grind (arith, common_steps)

pub returns-in_err-width-clause-prefix : goal.returns-in_err-width-clause-prefix
returns-in_err-width-clause-prefix c =
    on_err c.from_residual.result
    (subst (GoesFirst c.args.self.now c.args.piece.now c.args.units.now.items) (sym c.in_err-width.ensures.unchanged) (part_added _ _ _ _ _ _ c.loop-rest.invariant))

pub loop-rest-preserved : goal.loop-rest-preserved
loop-rest-preserved c =
    further c.args.self.now c.loop-rest.self c.take_front.new.self c.args.piece.now c.loop-rest.rest.now _ c.in_ok-width.width c.args.units.now.items c.loop-rest.units.items
    c.take_front.new.units.items c.loop-rest.invariant (all_behind c.loop-rest.rest.now c.in_ok-width.width) c.in_ok-width.ensures.taken
