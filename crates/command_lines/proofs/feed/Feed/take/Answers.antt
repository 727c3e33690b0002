use Rattle.command_lines.proofs.Streams.{units_first}
use Rattle.command_lines.proofs.feed.Feed.take.Goals as goal

pub returns-then-self-clause-first : goal.returns-then-self-clause-first
returns-then-self-clause-first c stream = units_first c.args.piece.now stream

pub returns-clause-first : goal.returns-clause-first
returns-clause-first c stream = units_first c.args.piece.now stream
