use Rattle.std.proofs.Common.{◌≡◌, ◌∙◌, ◌++◌, ap, sym, drop, [], arith}
use Rattle.std.proofs.lemmas.List.{append-nil, drop_all}
use Rattle.text_lines.specs.Lines.{header_of}
use Rattle.body_sections.specs.FieldLines.{field_spans, chosen_lines}
use Rattle.body_sections.specs.Sections.{has_field}
use Rattle.body_sections.proofs.FieldEnds.{header_lines}
use Rattle.body_sections.proofs.section.chosen_spans.Goals as goal

pub returns : goal.returns
returns c =
    let chosen = has_field c.args.kind.now in
    let at = c.args.head.from in
    let header = c.slice_of-header.result.now in
    let fields = c.as_slice-field-items.result.now in
    let past : drop c.loop-field.field-index fields ≡ [] = drop_all c.loop-field.field-index fields (omega (arith, c.loop-field-test.false)) in
    c.of.ensures ∙ sym (append-nil _) ∙ ap (λ f. c.loop-field.spans.items ++ chosen_lines chosen at header f) (sym past) ∙ c.loop-field.invariant.0
    ∙ ap (chosen_lines chosen at header) (c.as_slice-field-items.ensures.value ∙ c.in_ok-fields.ensures.value)
    ∙ sym (header_lines chosen at header) ∙ ap (λ h. field_spans chosen at (header_of h)) c.slice_of-header.ensures
