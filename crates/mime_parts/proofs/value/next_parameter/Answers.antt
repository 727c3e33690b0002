use Rattle.mime_parts.proofs.Choices.{none-left}
use Rattle.mime_parts.proofs.Readings.{parameter-unbegun, parameter-unnamed, parameter-unequal, parameter-unvalued}
use Rattle.mime_parts.proofs.value.next_parameter.Goals as goal

pub returns-in_default-clause-none : goal.returns-in_default-clause-none
returns-in_default-clause-none c = parameter-unbegun c.args.text.now c.in_default.ensures

pub returns-in_default-next_word-clause-none : goal.returns-in_default-next_word-clause-none
returns-in_default-next_word-clause-none c = parameter-unnamed c.args.text.now c.in-Some.begun.now c.in-Some.ensures c.in_default-next_word.ensures

pub returns-in_default-behind-clause-none : goal.returns-in_default-behind-clause-none
returns-in_default-behind-clause-none c =
    let name = c.in-Some-next_word.name in
    parameter-unequal c.args.text.now c.in-Some.begun.now c.in-Some.ensures name.token.now name.rest.now c.in-Some-next_word.ensures c.in_default-behind.ensures

pub returns-in_default-2-clause-none : goal.returns-in_default-2-clause-none
returns-in_default-2-clause-none c =
    let name = c.in-Some-next_word.name in
    parameter-unvalued c.args.text.now c.in-Some.begun.now c.in-Some.ensures name.token.now name.rest.now c.in-Some-next_word.ensures c.in-Some-behind.after.now c.in-Some-behind.ensures
    (none-left _ c.in_ok-value.field-0 c.in_ok-value.ensures.none c.in_default-2.is)
