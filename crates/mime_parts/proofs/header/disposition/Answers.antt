use Rattle.mime_parts.proofs.Choices.{none-left, some-left}
use Rattle.mime_parts.proofs.Headers.{disposition-absent, disposition-read, disposition-unread}
use Rattle.mime_parts.proofs.header.disposition.Goals as goal

pub returns-in_default : goal.returns-in_default
returns-in_default c = disposition-absent _ c.in_default.ensures

pub returns-in-Some-2 : goal.returns-in-Some-2
returns-in-Some-2 c = disposition-read _ c.in-Some.value.now c.in-Some-2.found c.in-Some.ensures (some-left _ c.in_ok-found.field-0 c.in-Some-2.found c.in_ok-found.ensures.some c.in-Some-2.is)

pub returns-in-None : goal.returns-in-None
returns-in-None c = disposition-unread _ c.in-Some.value.now c.in-Some.ensures (none-left _ c.in_ok-found.field-0 c.in_ok-found.ensures.none c.in-None.is)
