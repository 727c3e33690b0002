use Rattle.std.proofs.Common.{sym, ◌∙◌, ap, subst}
use Rattle.file_model.specs.Histories.{LeftSince}
use Rattle.mem_host.specs.State.{history_of}
use Rattle.mem_host.specs.Crashes.{crash_in, image_left}
use Rattle.mem_host.specs.Finding.{Finds, Holds}
use Rattle.mem_host.proofs.Found.{on_result, on_both_results}
use Rattle.mem_host.proofs.Leaving.{rooted_left}
use Rattle.mem_host.proofs.Left.{crash_sound, crash_left}
use Rattle.mem_host.proofs.host.MemHost.image.Goals as goal

pub resting-requires : goal.resting-requires
resting-requires c =
    let call = c.args.call in let pick = c.args.pick in let events = c.args.self.now.events in
    let crash = crash_in call events pick in let sound = crash_sound call events pick in
    let same = c.in-Some.ensures.events ∙ ap (λ state. state.events) c.self.view_is in
    let found = subst (λ e. Finds c.in_ok-crash.crash (crash_in call e pick)) same c.in_ok-crash.ensures in
    let holds = subst (λ l. Holds c.leave.new.crash.remains.durable l (image_left crash.disk crash.pick)) (sym c.as_slice.ensures.value) (c.in_ok-contents.ensures.holds crash sound found) in
    record { image = image_left crash.disk crash.pick; holds = holds; rooted = rooted_left crash.disk crash.pick sound }

pub returns-clause-stands : goal.returns-clause-stands
returns-clause-stands c =
    let call = c.args.call in let pick = c.args.pick in let events = c.args.self.now.events in
    let crash = crash_in call events pick in let sound = crash_sound call events pick in
    let same = c.in-Some.ensures.events ∙ ap (λ state. state.events) c.self.view_is in
    let found = subst (λ e. Finds c.in_ok-crash.crash (crash_in call e pick)) same c.in_ok-crash.ensures in
    let holds = subst (λ l. Holds c.leave.new.crash.remains.durable l (image_left crash.disk crash.pick)) (sym c.as_slice.ensures.value) (c.in_ok-contents.ensures.holds crash sound found) in
    on_result c.resting.result _ _ (λ host stands. stands (image_left crash.disk crash.pick) holds (rooted_left crash.disk crash.pick sound)) c.resting.ensures.stands

pub returns-clause-said : goal.returns-clause-said
returns-clause-said c =
    let call = c.args.call in let pick = c.args.pick in let events = c.args.self.now.events in
    let same = c.in-Some.ensures.events ∙ ap (λ state. state.events) c.self.view_is in
    let found = subst (λ e. Finds c.in_ok-crash.crash (crash_in call e pick)) same c.in_ok-crash.ensures in
    on_result c.resting.result _ _ (λ host is. is ∙ c.as_slice-2.ensures.value ∙ ap (λ v. v.items) c.in_ok-contents.ensures.said ∙ found.said) c.resting.ensures.said

pub returns-clause-may_leave : goal.returns-clause-may_leave
returns-clause-may_leave c =
    let call = c.args.call in let pick = c.args.pick in let events = c.args.self.now.events in
    let crash = crash_in call events pick in let image = image_left crash.disk crash.pick in
    let left = subst (λ state. LeftSince 0 (history_of state) (image_left (crash_in call state.events pick).disk (crash_in call state.events pick).pick) (crash_in call state.events pick).said) c.self.view_is
    (crash_left call c.self.inside.mirror pick c.in-Some.ensures.fit) in
    on_both_results c.resting.result _ _ _ (λ host stands is. (image, subst (LeftSince 0 (history_of c.args.self.now) image) (sym is) left, stands)) (returns-clause-stands c) (returns-clause-said c)
