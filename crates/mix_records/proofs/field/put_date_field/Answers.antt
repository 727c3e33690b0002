use Rattle.std.proofs.Common.{◌∙◌, refl, sym, arith}
use Rattle.std.proofs.lemmas.List.{take_all}
use Rattle.mail_fields.specs.Stamps.{parts_of}
use Rattle.mix_records.proofs.FieldTexts.{appended, date-written, date-stands}
use Rattle.mix_records.proofs.field.put_date_field.Goals as goal

pub returns-clause-text : goal.returns-clause-text
returns-clause-text c =
    appended c.extend_from_slice.result _ _ _ _ c.extend_from_slice.ensures.items
    (sym (take_all 20 c.put_mix_date.new.buf (omega arith)) ∙ date-written _ _ (parts_of c.args.stamp) c.put_mix_date.ensures.text c.put_mix_date.ensures.width refl)

pub returns-clause-read : goal.returns-clause-read
returns-clause-read c = date-stands _ _ (parts_of c.args.stamp) (omega arith) c.put_mix_date.ensures.text c.put_mix_date.ensures.width c.put_mix_date.ensures.read
