use Rattle.std.proofs.Common.{sym, ◌∙◌, subst}
use Rattle.file_model.specs.Kinds.{Fits}
use Rattle.mem_host.specs.Notes.{call_of}
use Rattle.mem_host.specs.Fitted.{AllFit}
use Rattle.mem_host.specs.Mirrored.{Mirrors}
use Rattle.mem_host.specs.Replay.{seen_after, world_after}
use Rattle.mem_host.proofs.Fitted.{done_is}
use Rattle.mem_host.proofs.Mirrored.{ok_here}
use Rattle.mem_host.proofs.Replayed.{sound_world}
use Rattle.mem_host.proofs.mirror.Mirror.perform.Goals as goal

pub apply-requires : goal.apply-requires
apply-requires c = record {
  disk = (world_after c.self.inside.log).disk;
  sound = sound_world c.self.inside.log;
  mirrors = c.self.invariant.mirrors;
  fit = subst (λ events. Fits (call_of c.args.request) (seen_after events)) (sym c.self.view_is) c.requires;
}

pub invariant_of-self-2 : goal.invariant_of-self-2
invariant_of-self-2 c =
    let disk = (world_after c.self.inside.log).disk in
    let fit = subst (λ events. Fits (call_of c.args.request) (seen_after events)) (sym c.self.view_is) c.requires in
    record {
      mirrors = subst (λ events. Mirrors c.apply.new.names c.apply.new.contents.items (world_after events).disk) (sym c.add.ensures)
          (subst (Mirrors c.apply.new.names c.apply.new.contents.items) (sym (done_is (call_of c.args.request) disk fit))
          (ok_here c.apply.result _ (sym c.is_err.ensures.value ∙ c.if-is_err.false) c.apply.ensures.ok disk c.self.invariant.mirrors fit));
      fit = subst AllFit (sym c.add.ensures) (fit, c.self.invariant.fit);
    }
