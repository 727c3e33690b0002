use Rattle.std.proofs.Common.{arith, ap, length, length-drop}
use Rattle.std.proofs.lemmas.List.{take_rest}
use Rattle.mime_parts.proofs.Delimiters.{no-lines-left}
use Rattle.mime_parts.proofs.Tails.{line-counted}
use Rattle.mime_parts.proofs.mark.count_lines.Goals as goal

pub loop-at-preserved : goal.loop-at-preserved
loop-at-preserved c =
    let text = c.args.text.now in
    let at = c.loop-at.at in
    let line = c.first_line.result.now in
    let long = ap length (take_rest text at) in
    let left = length-drop at text in
    let begins = c.first_line.ensures in
    record {
      within = omega (arith, begins.within);
      few = omega (arith, begins.some);
      counted = line-counted text line at c.loop-at.lines begins c.loop-at.invariant.counted;
    }

pub returns-clause-value : goal.returns-clause-value
returns-clause-value c =
    let none = ap length (no-lines-left c.args.text.now c.loop-at.at c.loop-at-test.false) in
    omega (arith, none, c.loop-at.invariant.counted)
