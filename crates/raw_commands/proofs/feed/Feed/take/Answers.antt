use Rattle.std.proofs.Common.{Bool, ◌++◌, OnOk, subst, sym}
use Rattle.raw_commands.specs.Taken.{HasTaken, Adds}
use Rattle.raw_commands.proofs.Pieces.{piece_taken, some_taken, units_first}
use Rattle.raw_commands.proofs.feed.Feed.take.Goals as goal

pub returns-then-self-clause-first : goal.returns-then-self-clause-first
returns-then-self-clause-first c stream = units_first stream c.args.piece.now

pub returns-clause-taken : goal.returns-clause-taken
returns-clause-taken c stream taken =
    let new = c.take_all-taken.new.self in
    let P : Bool → Type 0 = λ x. OnOk c.take_all-taken.result (HasTaken (record new { spent = x }) (stream ++ c.args.piece.now)
    × Adds stream c.args.piece.now c.args.units.now.items c.take_all-taken.new.units.items) in
    subst P (sym c.is_err-self.ensures.value)
    (piece_taken c.take_all-taken.result c.args.self.now new stream c.args.piece.now c.args.units.now.items c.take_all-taken.new.units.items c.take_all-taken.ensures.taken taken)

pub returns-clause-first : goal.returns-clause-first
returns-clause-first c stream = units_first stream c.args.piece.now

pub returns-clause-prefix : goal.returns-clause-prefix
returns-clause-prefix c stream taken =
    some_taken c.take_all-taken.result c.args.self.now stream c.args.piece.now c.args.units.now.items c.take_all-taken.new.units.items c.take_all-taken.ensures.prefix taken
