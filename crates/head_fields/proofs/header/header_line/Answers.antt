use Rattle.std.proofs.Common.{◌∙◌, ⊎_elim, length, take, drop, sym, arith}
use Rattle.std.proofs.lemmas.Bool.{eqb-true, eqb-false, cases_lt}
use Rattle.std.proofs.lemmas.List.{length-take-le}
use Rattle.head_fields.proofs.HeaderLines.{header-none, header-empty}
use Rattle.head_fields.proofs.header.header_line.Goals as goal
use Rattle.head_fields.proofs.header.header_line.Goals.{then-is_empty-via-then-is_empty, then-is_empty-via-else-is_empty+then-is_empty_line}

pub returns-then-is_empty-clause-none : goal.returns-then-is_empty-clause-none
returns-then-is_empty-clause-none c =
    let text = c.args.text.now in
    let width = c.line_length.result in
    let taken = length-take-le width text c.line_length.ensures.within in
    elim c.then-is_empty.branch [
      | then-is_empty-via-then-is_empty w ↦
          let none = eqb-true _ 0 (sym c.is_empty.ensures ∙ w.if-is_empty.true) in
          ⊎_elim (λ some. absurd (omega (arith, c.line_length.ensures.some some))) (λ no_byte. header-none text (omega arith)) (cases_lt 0 (length text))
      | then-is_empty-via-else-is_empty+then-is_empty_line w ↦
          let some = eqb-false _ 0 (sym c.is_empty.ensures ∙ w.if-is_empty.false) in
          header-empty text (take width text) (drop width text) (c.line_length.ensures.lines (omega arith)) (sym w.is_empty_line.ensures ∙ w.if-is_empty_line.true)
    ]
