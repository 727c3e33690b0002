use Rattle.std.proofs.Common.{length}
use Rattle.raw_commands.proofs.Pieces.{Reached}
use Rattle.raw_commands.proofs.feed.Feed.take_all.Given as goal

abbrev pub invariant-loop-rest : goal.invariant-loop-rest
invariant-loop-rest l = Reached l.fn.self l.self l.piece l.rest l.fn.units.items l.units.items

abbrev pub decreases-loop-rest : goal.decreases-loop-rest
decreases-loop-rest l = length l.rest
