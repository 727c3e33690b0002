use Rattle.std.proofs.Common.{refl, arith}
use Rattle.std.proofs.lemmas.Grind.{common_steps}
use Rattle.mem_host.specs.declared.draft.Draft.{Draft}
use Rattle.mem_host.proofs.Remaining.{make_remains, no_parts}
use Rattle.mem_host.proofs.remains.Remains.make.Goals as goal

pub returns : goal.returns
returns c disk is =
    let draft : Draft = record { durable = c.new.result; edits = c.new-2.result } in
    make_remains c.args.self.now _ draft _ c.args.path.now disk c.len-id.result (grind (arith, common_steps, c.len-id.ensures)) c.in_ok-put_name.ensures.ok refl c.in_ok-push-2.ensures.items refl c.in_ok-push.ensures.items
    (no_parts draft c.new.ensures.items c.new-2.ensures.items) is
