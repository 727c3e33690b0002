use Rattle.std.proofs.Common.{sym, subst}
use Rattle.mime_parts.specs.Values.{BeginsToken, token_value, quoted_value}
use Rattle.mime_parts.proofs.Choices.{none-left, some-left}
use Rattle.mime_parts.proofs.Readings.{value-none, value-unended}
use Rattle.mime_parts.proofs.value.next_value.Goals as goal

pub returns-in_default-next_word-clause-none : goal.returns-in_default-next_word-clause-none
returns-in_default-next_word-clause-none c = value-none c.args.text.now c.in_default.ensures c.in_default-next_word.ensures

pub returns-clause-some : goal.returns-clause-some
returns-clause-some c =
    let word = c.in-Some-next_word.word in
    token_value c.args.text.now c.in_ok-of.field-0 word.rest.now
    (subst (λ t. BeginsToken c.args.text.now t word.rest.now) (sym c.in_ok-of.ensures) c.in-Some-next_word.ensures)

pub returns-in_default-2-clause-none : goal.returns-in_default-2-clause-none
returns-in_default-2-clause-none c =
    value-unended c.args.text.now c.in-Some.inner.now c.in-Some.ensures (none-left _ c.in_ok-valued.field-0 c.in_ok-valued.ensures.none c.in_default-2.is)

pub returns-in-Some-clause-some : goal.returns-in-Some-clause-some
returns-in-Some-clause-some c =
    let valued = c.in-Some-2.valued in
    quoted_value c.args.text.now c.in-Some.inner.now valued.value valued.rest.now c.in-Some.ensures (some-left _ c.in_ok-valued.field-0 valued c.in_ok-valued.ensures.some c.in-Some-2.is)
