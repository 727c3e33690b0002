use Rattle.std.proofs.Common.{arith}
use Rattle.mix_records.proofs.FieldTexts.{word_fits}
use Rattle.mix_records.proofs.field.read_hex_field.Goals as goal

pub overflow_cast-result : goal.overflow_cast-result
overflow_cast-result c = omega (arith, word_fits c.args.width c.requires.high, c.in_ok-number.ensures.small)
