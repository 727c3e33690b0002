use Rattle.mime_parts.proofs.Readings.{disposition-unkind}
use Rattle.mime_parts.proofs.value.read_disposition.Goals as goal

pub returns-in_default-clause-none : goal.returns-in_default-clause-none
returns-in_default-clause-none c = disposition-unkind c.args.value.now c.in_default.ensures
