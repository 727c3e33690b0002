use Rattle.std.proofs.Common.{arith}
use Rattle.mail_fields.proofs.Texts.{parts-written}
use Rattle.mail_fields.proofs.text.put_parts.Goals as goal

pub returns : goal.returns
returns c =
    parts-written c.args.buf.now c.put.new.buf c.put-2.new.buf c.put-3.new.buf c.args.first.now c.args.middle.now c.args.last.now c.args.place _ _
    c.put.ensures c.put-2.ensures c.put-3.ensures (omega arith) (omega arith) c.requires
