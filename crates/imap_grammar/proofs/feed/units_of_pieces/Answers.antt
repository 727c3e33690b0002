use Rattle.std.proofs.Common.{sym, ◌∙◌, ap, map}
use Rattle.raw_commands.proofs.Pieces.{no_units}
use Rattle.imap_grammar.specs.Units.{unit_of}
use Rattle.imap_grammar.proofs.feed.units_of_pieces.Goals as goal

pub loop-piece-init : goal.loop-piece-init
loop-piece-init c = record { taken = c.new-feed.ensures; units = c.new-units.ensures.items ∙ sym (ap (map unit_of) no_units) }
