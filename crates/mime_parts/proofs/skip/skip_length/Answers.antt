use Rattle.std.proofs.Common.{◌∙◌, ◌+◌, ap, sym, subst, arith, length, length-drop, false}
use Rattle.std.proofs.lemmas.List.{take_rest, drop_all}
use Rattle.mime_parts.specs.Values.{EndsSkipped, nothing}
use Rattle.addr_list.specs.Scanning.{comment_len}
use Rattle.mime_parts.proofs.Skips.{white-goes_on, comment-goes_on, open-ends, other-ends, ends-empty}
use Rattle.mime_parts.proofs.skip.skip_length.Goals as goal

pub loop-at-init : goal.loop-at-init
loop-at-init c = record { within = omega arith; skipped = nothing }

pub loop-at-preserved-then-is_white : goal.loop-at-preserved-then-is_white
loop-at-preserved-then-is_white c = record {
  within = omega arith;
  skipped = white-goes_on c.args.text.now c.loop-at.at c.loop-at-test.true c.loop-at.invariant.skipped (sym c.is_white.ensures ∙ c.if-is_white.true);
}

pub loop-at-preserved : goal.loop-at-preserved
loop-at-preserved c =
    let text = c.args.text.now in
    let at = c.loop-at.at in
    let rest = take_rest text (at + 1) in
    let found = ap (comment_len false 0) (sym rest) ∙ sym c.comment_length.ensures.value ∙ c.in-Some.is in
    let left = length-drop (at + 1) text in
    record {
      within = omega (arith, left, ap length rest, c.in-Some.ensures.within);
      skipped = comment-goes_on text at c.loop-at-test.true c.loop-at.invariant.skipped c.in-Some.inner c.if-text-at-eq40.true found;
    }

pub returns-in-None-clause-ends : goal.returns-in-None-clause-ends
returns-in-None-clause-ends c =
    let text = c.args.text.now in
    let at = c.loop-at.at in
    let none = ap (comment_len false 0) (sym (take_rest text (at + 1))) ∙ sym c.comment_length.ensures.value ∙ c.in-None.is in
    open-ends text at c.loop-at-test.true c.loop-at.invariant.skipped c.if-text-at-eq40.true none

pub returns-else-text-at-eq40-clause-ends : goal.returns-else-text-at-eq40-clause-ends
returns-else-text-at-eq40-clause-ends c =
    other-ends c.args.text.now c.loop-at.at c.loop-at-test.true c.loop-at.invariant.skipped (sym c.is_white.ensures ∙ c.if-is_white.false) c.if-text-at-eq40.false

pub returns-clause-ends : goal.returns-clause-ends
returns-clause-ends c = subst (λ t. EndsSkipped t) (sym (drop_all c.loop-at.at c.args.text.now c.loop-at-test.false)) ends-empty
