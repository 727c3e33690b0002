use Rattle.std.proofs.Common.{refl}
use Rattle.octal_head.proofs.HeadLines.{marks-written}
use Rattle.octal_head.proofs.marks.mark_digits.Goals as goal

pub returns : goal.returns
returns c = marks-written _ _ _ c.args.words c.args.bits _ _ c.from.ensures c.from-2.ensures refl c.put_octal.ensures.text c.put_octal-2.ensures.text
