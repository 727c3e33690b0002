use Rattle.mix_records.proofs.FieldTexts.{appended}
use Rattle.mix_files.proofs.MetaTexts.{number-written}
use Rattle.mix_files.proofs.meta.put_number.Goals as goal

pub returns : goal.returns
returns c =
    appended c.extend_from_slice.result _ _ _ _ c.extend_from_slice.ensures.items (number-written c.put_hex.new.buf c.args.letter c.args.number _ c.put_hex.ensures.text c.from.ensures)
