use Rattle.std.proofs.Common.{◌∙◌, ap, ◌&&◌, ◌||◌, get_or, false, arith}
use Rattle.std.proofs.lemmas.List.{length-set}
use Rattle.mail_tree.specs.Matching.{first_passes, goes_on}
use Rattle.mail_tree.proofs.Matched.{any_step}
use Rattle.mail_tree.proofs.Parted.{to_end}
use Rattle.mail_tree.proofs.matching.after_any.Goals as goal

pub loop-place-preserved : goal.loop-place-preserved
loop-place-preserved c = record {
  same = length-set c.loop-place.row c.loop-place.place c.either-here.result ∙ c.loop-place.invariant.same;
  done = any_step (goes_on c.args.slash) c.loop-place.carry c.loop-place.row c.args.name.now c.loop-place.place (omega (arith, c.loop-place-test.true, c.loop-place.auto.row)) c.either-here.result c.both-carry.result c.either-here.ensures
      (c.both-carry.ensures ∙ ap (λ b. b && c.may_pass.result) c.either-here.ensures
      ∙ ap (λ b. (get_or c.loop-place.row c.loop-place.place false || c.loop-place.carry) && b) (c.may_pass.ensures ∙ ap (first_passes (goes_on c.args.slash)) (to_end c.loop-place.place c.args.name.now)))
      ∙ c.loop-place.invariant.done;
}
