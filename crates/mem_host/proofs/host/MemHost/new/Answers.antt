use Rattle.std.proofs.Common.{[], ◌∙◌, ap}
use Rattle.std.specs.FinMap.{get-empty}
use Rattle.file_model.specs.Images.{node_at, node_of, path_cmp}
use Rattle.mem_host.specs.Replay.{seen_after}
use Rattle.mem_host.proofs.host.MemHost.new.Goals as goal

pub returns-clause-nothing : goal.returns-clause-nothing
returns-clause-nothing c q = ap (λ events. node_at (seen_after events) q) c.new.ensures ∙ ap (node_of (seen_after []).bytes) (get-empty path_cmp q)
