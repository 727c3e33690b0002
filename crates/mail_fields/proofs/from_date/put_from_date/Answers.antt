use Rattle.std.proofs.Common.{◌≡◌, rules, arith}
use Rattle.std.proofs.lemmas.Grind.{common_steps}
use Rattle.mail_fields.specs.Texts.{written_at}
use Rattle.mail_fields.specs.FromDate.{from_date_text}
use Rattle.mail_fields.specs.Stamps.{parts_of}
use Rattle.mail_fields.proofs.FromDateReads.{from-stands, from-width, from-reads}
use Rattle.mail_fields.proofs.StampsAgain.{stamp_stands}
use Rattle.mail_fields.proofs.from_date.put_from_date.Goals as goal

pub returns-clause-read : goal.returns-clause-read
unfolding from_date_text
returns-clause-read c =
    let text : c.put_parts.new.buf ≡ written_at c.args.buf.now c.args.place (from_date_text c.args.stamp.day c.args.stamp.second) = first_of (search rules, grind (arith, common_steps)) in
    rw text (from-stands c.args.buf.now c.args.place (parts_of c.args.stamp) (stamp_stands c.args.stamp) c.requires.utc (omega arith))

pub returns-clause-width : goal.returns-clause-width
returns-clause-width c = from-width (parts_of c.args.stamp) (stamp_stands c.args.stamp)

pub returns-clause-date : goal.returns-clause-date
returns-clause-date c = from-reads (parts_of c.args.stamp) (stamp_stands c.args.stamp) c.requires.utc
