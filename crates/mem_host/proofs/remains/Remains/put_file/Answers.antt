use Rattle.std.proofs.Common.{refl, arith}
use Rattle.std.proofs.lemmas.Grind.{common_steps}
use Rattle.mem_host.specs.declared.draft.Draft.{Draft}
use Rattle.mem_host.proofs.Remaining.{put_file_remains, resting_parts}
use Rattle.mem_host.proofs.remains.Remains.put_file.Goals as goal

pub returns : goal.returns
returns c disk none is =
    let draft : Draft = record { durable = c.in_ok-durable.durable; edits = c.new.result } in
    put_file_remains c.args.self.now _ draft c.args.path.now c.args.bytes.now disk c.len.result (grind (arith, common_steps, c.len.ensures)) c.in_ok-put_name.ensures.ok c.in_ok-put_name-2.ensures.ok refl c.in_ok-push.ensures.items
    (resting_parts draft c.args.bytes.now c.in_ok-durable.ensures.items c.new.ensures.items) none is
