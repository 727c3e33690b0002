use Rattle.std.proofs.Common.{◌&&◌, true, ◌∙◌, sym, ap}
use Rattle.command_lines.proofs.Runs.{byte_in_line}
use Rattle.command_lines.proofs.Pieces.{byte_taken}
use Rattle.command_lines.proofs.feed.Feed.take_line_feed.Goals as goal

pub returns-clause-taken : goal.returns-clause-taken
returns-clause-taken c stream taken =
    let in_line = byte_in_line stream 10 (ap (λ x. x && true) (sym taken.after_cr ∙ c.if-self.false)) in
    byte_taken c.take_run.result c.take_run.new.self stream 10 c.args.units.now.items in_line (c.take_run.ensures stream taken in_line.rest)
