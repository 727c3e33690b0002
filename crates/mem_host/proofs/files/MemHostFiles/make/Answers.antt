use Rattle.std.proofs.Common.{◌≡◌, true, sym, ◌∙◌, ap, subst}
use Rattle.file_model.specs.Disk.{seen, make}
use Rattle.file_model.specs.Images.{is_directory}
use Rattle.file_model.specs.Kinds.{CanMake, Fits}
use Rattle.file_model.specs.Histories.{World, Now}
use Rattle.file_model.proofs.Inside.{not_both}
use Rattle.mem_host.specs.Replay.{seen_after}
use Rattle.mem_host.specs.State.{history_of}
use Rattle.mem_host.proofs.Fitted.{make_fits}
use Rattle.mem_host.proofs.Replayed.{after_now, now_after, never}
use Rattle.mem_host.proofs.files.MemHostFiles.make.Goals as goal

pub run-requires : goal.run-requires
run-requires c =
    let P : World → Type 0 = λ w. CanMake (seen w.disk) c.args.path.now in
    let Q : World → Type 0 = λ w. Fits (make c.args.path.now) (seen w.disk) in
    let was = after_now c.self.inside.mirror P (subst (λ state. Now (history_of state) P) (sym c.self.view_is) c.requires) in
    subst (λ state. Now (history_of state) Q) c.self.view_is (now_after c.self.inside.mirror Q (make_fits (seen_after c.self.inside.mirror) c.args.path.now (sym c.is_directory.ensures ∙ c.if-is_directory.false) was))

pub returns-clause-obstructed : goal.returns-clause-obstructed
returns-clause-obstructed c =
    never c.self.inside.mirror c.args.self.now (λ w. is_directory (seen w.disk) c.args.path.now ≡ true) _ (ap (λ state. state.events) c.self.view_is)
    (λ there. not_both (is_directory (seen_after c.self.inside.mirror) c.args.path.now) there (sym c.is_directory.ensures ∙ c.if-is_directory.false))
