use Rattle.raw_commands.proofs.Pieces.{run_goes, line_feed_goes}
use Rattle.std.proofs.Common.{refl}
use Rattle.raw_commands.proofs.feed.Feed.take_line.Goals as goal

pub returns-in_default-clause-taken : goal.returns-in_default-clause-taken
returns-in_default-clause-taken c =
    run_goes c.args.self.now c.take_run.new.self c.args.bytes.now c.args.units.now.items c.requires.in_line c.in_default.ensures c.in_ok-take_run.ensures

pub returns-clause-taken : goal.returns-clause-taken
returns-clause-taken c =
    line_feed_goes c.args.self.now c.take_run-2.new.self c.take_line_feed.new.self c.args.bytes.now _ c.in-Some.end c.args.units.now.items c.take_line_feed.new.units.items
    c.requires.in_line c.in-Some.ensures refl c.in_ok-take_run-2.ensures c.in_ok-take_line_feed.ensures.taken
