use Rattle.std.proofs.Common.{◌∙◌}
use Rattle.mail_tree.specs.Listing.{fits}
use Rattle.mail_tree.proofs.Matched.{row_starts}
use Rattle.mail_tree.proofs.matching.fits_in.Goals as goal

pub returns : goal.returns
returns c = c.fits_from.ensures ∙ row_starts c.args.row.now (fits c.args.pattern.now) c.args.name.now c.requires.length c.requires.none
