use Rattle.std.proofs.Common.{sym, ◌∙◌}
use Rattle.raw_commands.proofs.Pieces.{no_units}
use Rattle.raw_commands.proofs.feed.units_of_pieces.Goals as goal

pub loop-piece-init : goal.loop-piece-init
loop-piece-init c = record { taken = c.new-feed.ensures; units = c.new-units.ensures.items ∙ sym no_units }
