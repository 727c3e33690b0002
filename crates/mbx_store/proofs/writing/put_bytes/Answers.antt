use Rattle.std.proofs.Common.{rules}
use Rattle.mbx_store.proofs.WriteCode.{tail_is, bytes_put}
use Rattle.mbx_store.proofs.writing.put_bytes.Goals as goal

pub returns-clause-bytes : goal.returns-clause-bytes
returns-clause-bytes g c =
    bytes_put c.args.path.now c.args.out.now.items c.read_bytes.new.part _ c.args.from c.args.count _ c.read_bytes.result _
    (tail_is c.args.out.now.items c.deref_mut.result.now c.grow.new.out.items c.read_bytes.new.part c.len-start.result c.args.count _ c.deref_mut.ensures.value c.in_ok-grow.ensures.front c.in_ok-grow.ensures.long (search rules) (search rules) (search rules))
    (search rules) c.read_bytes.ensures.bytes
