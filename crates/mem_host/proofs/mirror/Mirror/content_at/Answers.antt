use Rattle.std.proofs.Common.{sym, subst}
use Rattle.mem_host.specs.Mirrored.{IsStored}
use Rattle.mem_host.specs.Replay.{world_after}
use Rattle.mem_host.proofs.Mirrored.{is_stored}
use Rattle.mem_host.proofs.Replayed.{sound_world}
use Rattle.mem_host.proofs.mirror.Mirror.content_at.Goals as goal

pub content_at-requires : goal.content_at-requires
content_at-requires c =
    let events = c.self.inside.log in
    subst (IsStored c.args.path.now c.self.inside.names) (sym c.as_slice.ensures.value)
    (is_stored c.self.inside.names c.self.inside.contents.items (world_after events).disk c.args.path.now (sound_world events) c.self.invariant.mirrors)
