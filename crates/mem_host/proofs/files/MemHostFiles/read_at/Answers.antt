use Rattle.std.proofs.Common.{sym, subst}
use Rattle.file_model.specs.Disk.{seen}
use Rattle.file_model.specs.Kinds.{IsFile, Gives}
use Rattle.file_model.specs.Histories.{World, Now}
use Rattle.mem_host.specs.Replay.{seen_after}
use Rattle.mem_host.specs.State.{history_of}
use Rattle.mem_host.proofs.Replayed.{now_after, after_now}
use Rattle.mem_host.proofs.files.MemHostFiles.read_at.Goals as goal

pub read_at-count-requires : goal.read_at-count-requires
read_at-count-requires c =
    let P : World → Type 0 = λ w. IsFile (seen w.disk) c.args.path.now c.args.from in
    subst (λ events. IsFile (seen_after events) c.args.path.now c.args.from) (sym c.look.ensures) (after_now c.self.inside.mirror P (subst (λ state. Now (history_of state) P) (sym c.self.view_is) c.requires))

pub returns-clause-gives : goal.returns-clause-gives
returns-clause-gives c =
    let P : World → Type 0 = λ w. Gives (seen w.disk) c.args.path.now c.args.from c.read_at-count.result c.read_at-count.new.buf in
    subst (λ state. Now (history_of state) P) c.self.view_is (now_after c.self.inside.mirror P (subst (λ events. Gives (seen_after events) c.args.path.now c.args.from c.read_at-count.result c.read_at-count.new.buf) c.look.ensures c.read_at-count.ensures.gives))
