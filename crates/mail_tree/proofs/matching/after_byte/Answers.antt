use Rattle.std.proofs.Common.{◌∙◌, ap, ◌&&◌, ◌==◌, get_or, false, arith}
use Rattle.std.proofs.lemmas.List.{length-set}
use Rattle.mail_tree.specs.Matching.{first_passes}
use Rattle.mail_tree.proofs.Matched.{byte_step}
use Rattle.mail_tree.proofs.Parted.{to_end}
use Rattle.mail_tree.proofs.matching.after_byte.Goals as goal

pub loop-place-preserved : goal.loop-place-preserved
loop-place-preserved c = record {
  same = length-set c.loop-place.row c.loop-place.place c.loop-place.carry ∙ c.loop-place.invariant.same;
  done = byte_step c.args.wanted c.loop-place.carry c.loop-place.row c.args.name.now c.loop-place.place (omega (arith, c.loop-place-test.true, c.loop-place.auto.row)) c.both-carry.result
      (c.both-carry.ensures ∙ ap (λ b. get_or c.loop-place.row c.loop-place.place false && b) (c.begins_with.ensures ∙ ap (first_passes (λ byte. byte == c.args.wanted)) (to_end c.loop-place.place c.args.name.now)))
      ∙ c.loop-place.invariant.done;
}
