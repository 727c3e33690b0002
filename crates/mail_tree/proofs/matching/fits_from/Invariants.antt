use Rattle.std.proofs.Common.{◌≡◌, drop, length, ◌+◌}
use Rattle.mail_tree.specs.Listing.{fits}
use Rattle.mail_tree.specs.Matching.{any_passes}
use Rattle.mail_tree.proofs.matching.fits_from.Given as goal

abbrev pub invariant-loop-wanted : goal.invariant-loop-wanted
invariant-loop-wanted l = record {
  same : length l.row ≡ length l.name + 1;
  left : any_passes l.row (fits (drop l.wanted-index l.pattern)) l.name ≡ any_passes l.fn.row (fits l.pattern) l.name;
}
