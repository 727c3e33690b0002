use Rattle.std.proofs.Common.{◌∙◌, sym}
use Rattle.mime_parts.proofs.Headers.{first-here, first-later}
use Rattle.mime_parts.proofs.header.first_value.Goals as goal

pub returns-then-is_same_word : goal.returns-then-is_same_word
returns-then-is_same_word c =
    sym c.loop-field.invariant
    ∙ first-here c.args.name.now c.args.text.now c.args.fields.now c.loop-field.field-index _ c.loop-field-test.true (sym c.is_same_word.ensures ∙ c.if-is_same_word.true)

pub loop-field-preserved : goal.loop-field-preserved
loop-field-preserved c =
    sym (first-later c.args.name.now c.args.text.now c.args.fields.now c.loop-field.field-index _ c.loop-field-test.true (sym c.is_same_word.ensures ∙ c.if-is_same_word.false))
    ∙ c.loop-field.invariant
