use Rattle.std.proofs.Common.{refl}
use Rattle.mix_records.proofs.FieldTexts.{appended, hex-written}
use Rattle.mix_records.proofs.field.put_hex_field.Goals as goal

pub returns : goal.returns
returns c = appended c.extend_from_slice.result _ _ _ _ c.extend_from_slice.ensures.items (hex-written _ _ c.args.width c.args.number _ c.put_hex.ensures.text c.from.ensures refl)
