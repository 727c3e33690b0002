use Rattle.std.proofs.Common.{◌≡◌, rules, arith}
use Rattle.std.proofs.lemmas.Grind.{common_steps}
use Rattle.mail_fields.specs.Texts.{written_at}
use Rattle.mail_fields.specs.MixDate.{mix_date_text}
use Rattle.mail_fields.specs.Stamps.{parts_of}
use Rattle.mail_fields.proofs.ReadBack.{mix-width, mix-stands}
use Rattle.mail_fields.proofs.StampsAgain.{stamp_stands}
use Rattle.mail_fields.proofs.mix_date.put_mix_date.Goals as goal

pub returns-clause-width : goal.returns-clause-width
returns-clause-width c = mix-width (parts_of c.args.stamp)

pub returns-clause-read : goal.returns-clause-read
unfolding mix_date_text
returns-clause-read c =
    let text : c.put_parts.new.buf ≡ written_at c.args.buf.now c.args.place (mix_date_text (parts_of c.args.stamp)) = first_of (search rules, grind (arith, common_steps)) in
    rw text (mix-stands c.args.buf.now c.args.place (parts_of c.args.stamp) (stamp_stands c.args.stamp) (omega arith))
