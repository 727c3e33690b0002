use Rattle.std.proofs.Common.{◌∷◌, take, sym, ◌∙◌, ap, subst}
use Rattle.mem_host.specs.Deeds.{event_of_deed}
use Rattle.mem_host.specs.Fitted.{FitsAt}
use Rattle.mem_host.specs.Finding.{events_of, FindsAfter}
use Rattle.mem_host.proofs.Found.{next_event, next_fits}
use Rattle.mem_host.proofs.crash.replay.Goals as goal

pub go_on-requires : goal.go_on-requires
go_on-requires c =
    let deeds = c.args.deeds.now in let k = c.loop-deed.deed-index in record {
      earlier = events_of (take k deeds);
      fit = subst (λ d. FitsAt (event_of_deed d) (events_of (take k deeds))) (sym c.deed-item.is) (next_fits deeds k c.deed-item.result c.loop-deed-test.true c.requires);
      finds = c.loop-deed.invariant.finds;
    }

pub loop-deed-preserved : goal.loop-deed-preserved
loop-deed-preserved c =
    let deeds = c.args.deeds.now in let k = c.loop-deed.deed-index in let deed = c.deed-item.result in
    let fit = subst (λ d. FitsAt (event_of_deed d) (events_of (take k deeds))) (sym c.deed-item.is) (next_fits deeds k deed c.loop-deed-test.true c.requires) in
    let next = next_event deeds k deed c.loop-deed-test.true ∙ ap (λ d. event_of_deed d ∷ events_of (take k deeds)) (sym c.deed-item.is) in record {
      finds = subst (FindsAfter c.go_on.new.self) (sym next) (c.in_ok-go_on.ensures.finds (events_of (take k deeds)) fit c.loop-deed.invariant.finds);
      pick = c.in_ok-go_on.ensures.pick ∙ c.loop-deed.invariant.pick;
    }
