use Rattle.raw_commands.proofs.Runs.{on_err}
use Rattle.imap_grammar.proofs.Feeds.{none_added, whole_taken, part_taken}
use Rattle.imap_grammar.proofs.feed.Feed.take_all.Goals as goal

pub returns-in_err-take-clause-prefix : goal.returns-in_err-take-clause-prefix
returns-in_err-take-clause-prefix c stream taken =
    on_err c.from_residual.result (none_added stream c.args.piece.now c.args.units.now.items (c.in_err-take.ensures.first stream))

pub returns-clause-taken : goal.returns-clause-taken
returns-clause-taken c stream taken =
    whole_taken c.add_units.result (record c.args.self.now { raw = c.take.new.self }) stream c.args.piece.now c.new-raw_units.result.items c.take.new.units.items c.args.units.now.items
    c.add_units.new.units.items c.new-raw_units.ensures.items (c.in_ok-take.ensures.taken stream taken.raw_taken) taken.goes_on c.add_units.ensures.added

pub returns-clause-prefix : goal.returns-clause-prefix
returns-clause-prefix c stream taken =
    part_taken c.add_units.result stream c.args.piece.now c.new-raw_units.result.items c.take.new.units.items c.args.units.now.items c.add_units.new.units.items c.new-raw_units.ensures.items
    (c.in_ok-take.ensures.taken stream taken.raw_taken).1 c.add_units.ensures.prefix
