use Rattle.std.proofs.Common.{sym, ◌∙◌, ap, drop, ◌+◌, ◌||◌, get_or, false, length, arith}
use Rattle.mail_tree.specs.Matching.{any_passes}
use Rattle.mail_tree.specs.Walks.{leads}
use Rattle.mail_tree.proofs.Leading.{leads_step, leads_end}
use Rattle.mail_tree.proofs.matching.leads_from.Goals as goal

pub loop-wanted-preserved : goal.loop-wanted-preserved
loop-wanted-preserved c =
    let pattern = c.args.pattern.now in
    let text = c.args.text.now in
    let i = c.loop-wanted.wanted-index in
    record {
      same = c.after_one.ensures.length ∙ c.loop-wanted.invariant.same;
      left = ap (λ f. f || any_passes c.after_one.new.row (leads (drop (i + 1) pattern)) text) c.either-found.ensures
          ∙ ap (λ r. (c.loop-wanted.found || get_or c.loop-wanted.row (length text) false) || any_passes r (leads (drop (i + 1) pattern)) text) c.after_one.ensures.row
          ∙ leads_step pattern i c.loop-wanted.found c.loop-wanted.row text c.loop-wanted.invariant.same c.loop-wanted-test.true ∙ c.loop-wanted.invariant.left;
    }

pub returns : goal.returns
returns c =
    c.either.ensures
    ∙ sym (leads_end c.args.pattern.now c.loop-wanted.wanted-index c.loop-wanted.found c.loop-wanted.row c.args.text.now c.loop-wanted.invariant.same (omega (arith, c.loop-wanted-test.false)))
    ∙ c.loop-wanted.invariant.left
