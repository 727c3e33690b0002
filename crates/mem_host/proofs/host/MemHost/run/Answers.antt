use Rattle.std.proofs.Common.{◌≡◌, ◌∷◌, Ok, Err, sym, ◌∙◌, ap, subst}
use Rattle.file_model.specs.Disk.{seen}
use Rattle.file_model.specs.Kinds.{Fits}
use Rattle.file_model.specs.Histories.{World, Now, GoesOn}
use Rattle.mem_host.specs.Notes.{call_of}
use Rattle.mem_host.specs.Events.{refused}
use Rattle.mem_host.specs.Replay.{replay, seen_after}
use Rattle.mem_host.specs.State.{history_of}
use Rattle.mem_host.proofs.Replayed.{after_now, goes_on_done, goes_on_refused, on_ok_true, on_err_false}
use Rattle.mem_host.proofs.host.MemHost.run.Goals as goal
use Rattle.mem_host.proofs.host.MemHost.run.Goals.{else-begin_call-via-then-begin_call+else-is_ok, else-begin_call-via-else-begin_call}

pub perform-requires : goal.perform-requires
perform-requires c =
    let P : World → Type 0 = λ w. Fits (call_of c.args.request) (seen w.disk) in
    after_now c.self.inside.mirror P (subst (λ state. Now (history_of state) P) (sym c.self.view_is) c.requires)

pub returns-then-is_ok-clause-goes_on : goal.returns-then-is_ok-clause-goes_on
returns-then-is_ok-clause-goes_on c =
    let call = call_of c.args.request in
    let P : World → Type 0 = λ w. Fits call (seen w.disk) in
    let is = on_ok_true c.perform.result _ (sym c.is_ok.ensures.value ∙ c.if-is_ok.true) c.perform.ensures.ok in
    subst (λ state. GoesOn call (Ok tt) (history_of state) (replay c.perform.new.self)) c.self.view_is
    (subst (λ events. GoesOn call (Ok tt) (replay c.self.inside.mirror) (replay events)) (sym is)
    (goes_on_done call tt (replay c.self.inside.mirror) (subst (λ state. Now (history_of state) P) (sym c.self.view_is) c.requires)))

pub returns-clause-goes_on : goal.returns-clause-goes_on
returns-clause-goes_on c =
    let call = call_of c.args.request in
    let P : World → Type 0 = λ w. Fits call (seen w.disk) in
    let same : c.else-begin_call.self-inside.mirror ≡ c.self.inside.mirror = elim c.else-begin_call.branch [
      | else-begin_call-via-then-begin_call+else-is_ok w ↦ ap (λ i. i.mirror) w.self-inside-is ∙ on_err_false w.perform.result _ (sym w.is_ok.ensures.value ∙ w.if-is_ok.false) w.perform.ensures.err
      | else-begin_call-via-else-begin_call w ↦ ap (λ i. i.mirror) w.self-inside-is
    ] in
    subst (λ state. GoesOn call (Err c.fail.result) (history_of state) (replay c.refuse.new.self)) c.self.view_is
    (subst (λ events. GoesOn call (Err c.fail.result) (replay c.self.inside.mirror) (replay events)) (sym (c.refuse.ensures ∙ ap (λ events. refused call ∷ events) same))
    (goes_on_refused call c.fail.result (replay c.self.inside.mirror) (subst (λ state. Now (history_of state) P) (sym c.self.view_is) c.requires)))

pub refuse-requires : goal.refuse-requires
refuse-requires c =
    let call = call_of c.args.request in
    let P : World → Type 0 = λ w. Fits call (seen w.disk) in
    let same : c.else-begin_call.self-inside.mirror ≡ c.self.inside.mirror = elim c.else-begin_call.branch [
      | else-begin_call-via-then-begin_call+else-is_ok w ↦ ap (λ i. i.mirror) w.self-inside-is ∙ on_err_false w.perform.result _ (sym w.is_ok.ensures.value ∙ w.if-is_ok.false) w.perform.ensures.err
      | else-begin_call-via-else-begin_call w ↦ ap (λ i. i.mirror) w.self-inside-is
    ] in
    subst (λ events. Fits call (seen_after events)) (sym same) (after_now c.self.inside.mirror P (subst (λ state. Now (history_of state) P) (sym c.self.view_is) c.requires))
