use Rattle.std.proofs.Common.{◌≡◌, ◌∙◌, ap, pos, arith}
use Rattle.std.proofs.lemmas.Int.{ints}
use Rattle.jiff_core.specs.Calendar.{days_from_civil}
use Rattle.mail_fields.proofs.Days.{days-from_zero}
use Rattle.mail_fields.proofs.calendar.civil_day.Goals as goal

pub returns-in-Ok-clause-low : goal.returns-in-Ok-clause-low
returns-in-Ok-clause-low c =
    let date = c.in-Ok.date in
    let year : date.year ≡ pos c.args.year = omega (arith, ints, c.in-Ok.ensures.value.0) in
    let value : c.to_unix_epoch_day.result ≡ days_from_civil (pos c.args.year) date.month date.day =
    c.to_unix_epoch_day.ensures.value ∙ ap (λ y. days_from_civil y date.month date.day) year in
    let low = days-from_zero c.args.year date.month date.day date.day_in.0 in
    omega (arith, ints)
