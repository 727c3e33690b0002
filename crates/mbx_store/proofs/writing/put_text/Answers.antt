use Rattle.std.proofs.Common.{rules}
use Rattle.mbx_store.proofs.WriteCode.{tail_is, text_put}
use Rattle.mbx_store.proofs.writing.put_text.Goals as goal

pub returns-in-Ok-clause-bytes : goal.returns-in-Ok-clause-bytes
returns-in-Ok-clause-bytes g c =
    text_put c.args.path.now c.args.out.now.items c.read_text.new.buf _ c.args.from c.args.size c.in-Ok.field-0 _
    (tail_is c.args.out.now.items c.deref_mut.result.now c.grow.new.out.items c.read_text.new.buf c.len-start.result c.args.size _ c.deref_mut.ensures.value c.in_ok-grow.ensures.front c.in_ok-grow.ensures.long (search rules) (search rules) (search rules))
    (search rules) c.in-Ok.ensures.count c.in-Ok.ensures.bytes
