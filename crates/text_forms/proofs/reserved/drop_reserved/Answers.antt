use Rattle.std.proofs.Common.{◌≡◌, ◌++◌, ◌<◌, false, ◌==◌, ℕ, length, take, drop, ap, sym, ◌∙◌, arith}
use Rattle.std.specs.List.{concat}
use Rattle.std.proofs.lemmas.Bool.{eqb-true}
use Rattle.std.proofs.lemmas.Bool.Decides.{nat_tests}
use Rattle.text_lines.specs.Lines.{lines_of, is_empty_line}
use Rattle.text_forms.specs.Forms.{unreserved_lines}
use Rattle.text_forms.proofs.ReservedFields.{body-stays, none-left}
use Rattle.text_forms.proofs.reserved.drop_reserved.Goals as goal
use Rattle.text_forms.proofs.reserved.drop_reserved.Goals.{else-loop-line-test, then-loop-line-test+then-is_empty_line}

some-left : (n : ℕ) → false ≡ (n == 0) → 0 < n
some-left n other = grind (arith, nat_tests)

pub returns : goal.returns
returns c =
    let above = c.loop-line.dropping in
    let rest = c.loop-line.rest.now in
    let behind : concat (unreserved_lines above (lines_of rest)) ≡ rest = elim c.loop-line-test.branch [
      | else-loop-line-test w ↦ none-left above rest (eqb-true (length rest) 0 (sym w.loop-line-test.ensures))
      | then-loop-line-test+then-is_empty_line w ↦
          let width = w.line_length.result in
          let empty = ap is_empty_line (sym w.split_at.ensures.front) ∙ sym w.if-is_empty_line.ensures in
          body-stays above rest (take width rest) (lines_of (drop width rest)) (w.line_length.ensures.lines (some-left (length rest) w.loop-line-test.ensures)) empty
    ] in
    c.in_ok-extend_from_slice-2.ensures.items ∙ ap (λ text. c.loop-line.out.items ++ text) (sym behind) ∙ c.loop-line.invariant
