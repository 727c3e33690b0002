use Rattle.std.proofs.Common.{◌∙◌, ap}
use Rattle.file_model.specs.Images.{names_in}
use Rattle.mem_host.specs.Replay.{seen_after}
use Rattle.mem_host.proofs.Listed.{on_names}
use Rattle.mem_host.proofs.mirror.Mirror.names_in.Goals as goal

pub returns : goal.returns
returns c = on_names c.names_in.result _ _ (λ v is. is (seen_after c.self.inside.log) c.self.invariant.mirrors.shows ∙ ap (λ events. names_in (seen_after events) c.args.dir.now) c.self.view_is) c.names_in.ensures
