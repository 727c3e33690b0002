use Rattle.std.proofs.Common.{◌≡◌, subst}
use Rattle.file_model.specs.Disk.{seen}
use Rattle.file_model.specs.Images.{node_at}
use Rattle.file_model.specs.Kinds.{kind_of}
use Rattle.file_model.specs.Histories.{World, Now}
use Rattle.mem_host.specs.Replay.{seen_after}
use Rattle.mem_host.specs.State.{history_of}
use Rattle.mem_host.proofs.Replayed.{now_after}
use Rattle.mem_host.proofs.files.MemHostFiles.stat.Goals as goal

pub returns-clause-kind : goal.returns-clause-kind
returns-clause-kind c =
    let P : World → Type 0 = λ w. c.kind_at.result ≡ kind_of (node_at (seen w.disk) c.args.path.now) in
    subst (λ state. Now (history_of state) P) c.self.view_is (now_after c.self.inside.mirror P (subst (λ events. c.kind_at.result ≡ kind_of (node_at (seen_after events) c.args.path.now)) c.look.ensures c.kind_at.ensures))
