use Rattle.std.proofs.Common.{◌≡◌, ◌<◌, ◌++◌, ◌==◌, ◌∷◌, ℕ, false, length, take, drop, take-append-drop, append_assoc, ap, sym, ◌∙◌, arith}
use Rattle.std.proofs.lemmas.Bool.{eqb-true}
use Rattle.std.proofs.lemmas.Bool.Decides.{nat_tests}
use Rattle.text_lines.specs.Lines.{lines_of, is_empty_line}
use Rattle.status_heads.specs.Insertions.{with_fields}
use Rattle.unix_layout.proofs.Fields.{with_line, with_empty, with_none}
use Rattle.unix_layout.proofs.writing.put_with_fields.Goals as goal
use Rattle.unix_layout.proofs.writing.put_with_fields.Goals.{else-loop-line-test, then-loop-line-test+then-is_empty_line}

some-left : (n : ℕ) → false ≡ (n == 0) → 0 < n
some-left n other = grind (arith, nat_tests)

pub loop-line-preserved : goal.loop-line-preserved
loop-line-preserved c =
    let width = c.line_length.result in
    let out = c.loop-line.out.items in
    let rest = c.loop-line.rest.now in
    let fields = c.args.fields.now in
    let line = c.split_at.result.0.now in
    let behind = c.split_at.result.1.now in
    let first = c.line_length.ensures.lines (some-left (length rest) c.loop-line-test.ensures) in
    let lines : lines_of rest ≡ line ∷ lines_of behind = first ∙ (λ i. sym c.split_at.ensures.front i ∷ lines_of (sym c.split_at.ensures.back i)) in
    let whole : rest ≡ line ++ behind = sym (take-append-drop width rest) ∙ (λ i. sym c.split_at.ensures.front i ++ sym c.split_at.ensures.back i) in
    ap (λ t. t ++ with_fields fields behind) c.in_ok-extend_from_slice.ensures.items
    ∙ append_assoc out line (with_fields fields behind)
    ∙ ap (λ t. out ++ t) (sym (with_line fields rest line behind lines whole (sym c.if-is_empty_line.ensures)))
    ∙ c.loop-line.invariant

pub returns : goal.returns
returns c =
    let out = c.loop-line.out.items in
    let rest = c.loop-line.rest.now in
    let fields = c.args.fields.now in
    let behind : with_fields fields rest ≡ fields ++ rest = elim c.loop-line-test.branch [
      | else-loop-line-test w ↦ with_none fields rest (eqb-true (length rest) 0 (sym w.loop-line-test.ensures))
      | then-loop-line-test+then-is_empty_line w ↦
          let width = w.line_length.result in
          let empty = ap is_empty_line (sym w.split_at.ensures.front) ∙ sym w.if-is_empty_line.ensures in
          with_empty fields rest (take width rest) (drop width rest) (w.line_length.ensures.lines (some-left (length rest) w.loop-line-test.ensures)) empty
    ] in
    c.in_ok-extend_from_slice-3.ensures.items ∙ ap (λ t. t ++ rest) c.in_ok-extend_from_slice-2.ensures.items ∙ append_assoc out fields rest
    ∙ ap (λ t. out ++ t) (sym behind) ∙ c.loop-line.invariant
