use Rattle.std.proofs.Common.{sym, ◌∙◌, ap, subst}
use Rattle.file_model.specs.Images.{node_at}
use Rattle.mem_host.specs.Replay.{seen_after, world_after}
use Rattle.mem_host.specs.Finding.{Holds}
use Rattle.mem_host.proofs.Mirrored.{on_ok}
use Rattle.mem_host.proofs.Replayed.{sound_world}
use Rattle.mem_host.proofs.Rebuilt.{mirror_holds, seen_rooted}
use Rattle.mem_host.proofs.mirror.Mirror.copy_to.Goals as goal

pub put_all-requires-clause-rest : goal.put_all-requires-clause-rest
put_all-requires-clause-rest c =
    let log = c.self.inside.log in let disk = (world_after log).disk in let sound = sound_world log in record {
      image = seen_after log;
      holds = subst (λ l. Holds c.self.inside.names l (seen_after log)) (sym c.as_slice.ensures.value) (mirror_holds c.self.inside.names c.self.inside.contents.items disk sound c.self.invariant.mirrors);
      rooted = seen_rooted disk sound;
    }

pub returns-clause-ok : goal.returns-clause-ok
returns-clause-ok c =
    let log = c.self.inside.log in let disk = (world_after log).disk in let sound = sound_world log in
    on_ok c.put_all.result (λ stands q. stands (seen_after log)
    (subst (λ l. Holds c.self.inside.names l (seen_after log)) (sym c.as_slice.ensures.value) (mirror_holds c.self.inside.names c.self.inside.contents.items disk sound c.self.invariant.mirrors))
    (seen_rooted disk sound) q ∙ ap (λ events. node_at (seen_after events) q) c.self.view_is) c.put_all.ensures.ok
