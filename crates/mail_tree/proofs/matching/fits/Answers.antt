use Rattle.std.proofs.Common.{◌+◌, length}
use Rattle.mail_tree.proofs.Matched.{none_take, copies, none_copied}
use Rattle.mail_tree.proofs.matching.fits.Goals as goal

pub fits_in-requires-clause-none : goal.fits_in-requires-clause-none
fits_in-requires-clause-none c = none_take (length c.args.name.now + 1) (copies 256) (none_copied 256)
