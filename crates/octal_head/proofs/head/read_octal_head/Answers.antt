use Rattle.std.proofs.Common.{sym, subst, arith, length-take-le, Option}
use Rattle.octal_head.specs.Heads.{OctalParts, ReadsHead}
use Rattle.octal_head.proofs.HeadLines.{head-behind}
use Rattle.octal_head.proofs.head.read_octal_head.Goals as goal

pub slice_bounds-read_parts-end : goal.slice_bounds-read_parts-end
slice_bounds-read_parts-end c = sym (length-take-le 26 c.args.line.now (omega arith))

pub returns-then-line-eq44-clause-value : goal.returns-then-line-eq44-clause-value
returns-then-line-eq44-clause-value c =
    subst (λ (meant : Option OctalParts). ReadsHead c.read_parts.result meant) (head-behind c.args.line.now c.if-line-eq44.true) c.read_parts.ensures.value
