use Rattle.std.proofs.Common.{length}
use Rattle.command_lines.proofs.Pieces.{Reached}
use Rattle.command_lines.proofs.feed.Feed.take_lines.Given as goal

abbrev pub invariant-loop-end : goal.invariant-loop-end
invariant-loop-end l = Reached l.fn.self l.self l.piece l.rest l.fn.units.items l.units.items

abbrev pub decreases-loop-end : goal.decreases-loop-end
decreases-loop-end l = length l.rest
