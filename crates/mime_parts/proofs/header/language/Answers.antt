use Rattle.std.proofs.Common.{◌∙◌}
use Rattle.mime_parts.proofs.Choices.{none-left, some-left}
use Rattle.mime_parts.proofs.Headers.{languages-absent, languages-read, languages-unread}
use Rattle.mime_parts.proofs.header.language.Goals as goal

pub returns-in_default : goal.returns-in_default
returns-in_default c = languages-absent _ c.of.result c.in_default.ensures (c.of.ensures ∙ c.new.ensures.items)

pub returns-in-Some-2 : goal.returns-in-Some-2
returns-in-Some-2 c = languages-read _ c.in-Some-2.found c.in-Some.value.now c.in-Some.ensures (some-left _ c.in_ok-found.field-0 c.in-Some-2.found c.in_ok-found.ensures.some c.in-Some-2.is)

pub returns-in-None : goal.returns-in-None
returns-in-None c =
    languages-unread _ c.of-in-None.result c.in-Some.value.now c.in-Some.ensures (none-left _ c.in_ok-found.field-0 c.in_ok-found.ensures.none c.in-None.is) (c.of-in-None.ensures ∙ c.new-in-None.ensures.items)
