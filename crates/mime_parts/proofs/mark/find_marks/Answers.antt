use Rattle.std.proofs.Common.{◌∙◌, ◌++◌, ap, sym, arith, length}
use Rattle.std.proofs.lemmas.List.{append-nil}
use Rattle.mime_parts.specs.Marks.{marks_from}
use Rattle.mime_parts.proofs.Delimiters.{no-lines-left}
use Rattle.mime_parts.proofs.mark.find_marks.Goals as goal

pub returns-clause-marks : goal.returns-clause-marks
returns-clause-marks c =
    let none = no-lines-left c.args.text.now c.loop-at.at c.loop-at-test.false in
    sym (append-nil c.loop-at.items.items) ∙ ap (λ ls. c.loop-at.items.items ++ marks_from c.loop-at.at c.loop-at.lines ls) (sym none) ∙ c.loop-at.invariant.marks

pub returns-clause-lines : goal.returns-clause-lines
returns-clause-lines c =
    let none = ap length (no-lines-left c.args.text.now c.loop-at.at c.loop-at-test.false) in
    omega (arith, none, c.loop-at.invariant.counted)
