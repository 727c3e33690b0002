use Rattle.std.proofs.Common.{sym, ◌∙◌, ap, ◌+◌, drop, arith}
use Rattle.std.proofs.lemmas.Grind.{common_steps}
use Rattle.mail_tree.specs.Subscriptions.{whole_lines, with_lines}
use Rattle.mail_tree.proofs.Parted.{to_end}
use Rattle.mail_tree.proofs.Subscribed.{put_all_lines, no_line, first_line}
use Rattle.mail_tree.proofs.subscriptions.names_in.Goals as goal

pub loop-at-init : goal.loop-at-init
loop-at-init c = record { same = ap (with_lines (whole_lines c.args.text.now)) (c.new-names.ensures.empty) ∙ put_all_lines c.args.text.now; short = omega arith }

pub loop-at-preserved : goal.loop-at-preserved
loop-at-preserved c = record {
  same = ap (λ rest. with_lines (whole_lines rest) c.put_line.new.names.keys) (to_end (c.in-Some.at + 1) c.loop-at.rest.now)
      ∙ ap (with_lines (whole_lines (drop (c.in-Some.at + 1) c.loop-at.rest.now))) c.in_ok-put_line.ensures
      ∙ ap (λ lines. with_lines lines c.loop-at.names.keys) (sym (first_line c.loop-at.rest.now c.in-Some.at c.in-Some.ensures)) ∙ c.loop-at.invariant.same;
  short = grind (arith, common_steps);
}

pub returns : goal.returns
returns c = ap (λ lines. with_lines lines c.loop-at.names.keys) (sym (no_line c.loop-at.rest.now c.in_default.ensures)) ∙ c.loop-at.invariant.same
