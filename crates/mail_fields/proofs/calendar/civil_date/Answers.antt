use Rattle.std.proofs.Common.{◌≡◌, ap, unsigned_abs, arith}
use Rattle.jiff_core.specs.Date.{epoch_day}
use Rattle.jiff_core.proofs.SignedLemmas.{signed_casts}
use Rattle.mail_fields.proofs.CivilDates.{date-found}
use Rattle.mail_fields.proofs.calendar.civil_date.Goals as goal

pub returns-clause-year : goal.returns-clause-year
returns-clause-year c =
    let number : epoch_day c.date_of-date.result ≡ c.args.stamp.day = omega (arith, signed_casts, c.date_of-date.ensures) in
    let found = date-found c.date_of-date.result c.args.stamp.day number c.args.stamp.day_in.0 in
    omega (arith, signed_casts, ap unsigned_abs found.year)

pub returns-clause-month : goal.returns-clause-month
returns-clause-month c =
    let number : epoch_day c.date_of-date.result ≡ c.args.stamp.day = omega (arith, signed_casts, c.date_of-date.ensures) in
    let found = date-found c.date_of-date.result c.args.stamp.day number c.args.stamp.day_in.0 in
    found.month

pub returns-clause-day : goal.returns-clause-day
returns-clause-day c =
    let number : epoch_day c.date_of-date.result ≡ c.args.stamp.day = omega (arith, signed_casts, c.date_of-date.ensures) in
    let found = date-found c.date_of-date.result c.args.stamp.day number c.args.stamp.day_in.0 in
    found.day_is

pub returns-clause-month_low : goal.returns-clause-month_low
returns-clause-month_low c =
    let number : epoch_day c.date_of-date.result ≡ c.args.stamp.day = omega (arith, signed_casts, c.date_of-date.ensures) in
    let found = date-found c.date_of-date.result c.args.stamp.day number c.args.stamp.day_in.0 in
    omega (arith, found.month, c.date_of-date.result.month_in.0)

pub returns-clause-month_high : goal.returns-clause-month_high
returns-clause-month_high c =
    let number : epoch_day c.date_of-date.result ≡ c.args.stamp.day = omega (arith, signed_casts, c.date_of-date.ensures) in
    let found = date-found c.date_of-date.result c.args.stamp.day number c.args.stamp.day_in.0 in
    omega (arith, found.month, c.date_of-date.result.month_in.1)
