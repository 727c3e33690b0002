use Rattle.std.proofs.Common.{◌≡◌, drop}
use Rattle.mail_fields.specs.DelimiterLine.{date_behind_space}
use Rattle.mail_fields.proofs.DatePlaces.{date_of_lengths}
use Rattle.mail_fields.proofs.delimiter_line.read_date_behind_space.Given as goal

abbrev pub invariant-loop-width : goal.invariant-loop-width
invariant-loop-width l = date_of_lengths l.text (drop l.width-index l.width-items) ≡ date_behind_space l.text
