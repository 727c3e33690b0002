use Rattle.std.proofs.Common.{sym}
use Rattle.mail_fields.proofs.DatePlaces.{date_behind_space-lengths}
use Rattle.mail_fields.proofs.delimiter_line.read_date_behind_space.Goals as goal

pub loop-width-init : goal.loop-width-init
loop-width-init c = sym (date_behind_space-lengths c.args.text.now)
