use Rattle.std.proofs.Common.{sym, ◌∙◌, ap, drop, ◌+◌, arith}
use Rattle.mail_tree.specs.Listing.{fits}
use Rattle.mail_tree.specs.Matching.{any_passes}
use Rattle.mail_tree.proofs.Matched.{pattern_step, pattern_end}
use Rattle.mail_tree.proofs.matching.fits_from.Goals as goal

pub loop-wanted-preserved : goal.loop-wanted-preserved
loop-wanted-preserved c = record {
  same = c.after_one.ensures.length ∙ c.loop-wanted.invariant.same;
  left = ap (λ r. any_passes r (fits (drop (c.loop-wanted.wanted-index + 1) c.args.pattern.now)) c.args.name.now) c.after_one.ensures.row
      ∙ pattern_step c.args.pattern.now c.loop-wanted.wanted-index c.loop-wanted.row c.args.name.now c.loop-wanted.invariant.same c.loop-wanted-test.true ∙ c.loop-wanted.invariant.left;
}

pub returns : goal.returns
returns c = sym (pattern_end c.args.pattern.now c.loop-wanted.wanted-index c.loop-wanted.row c.args.name.now c.loop-wanted.invariant.same (omega (arith, c.loop-wanted-test.false))) ∙ c.loop-wanted.invariant.left
