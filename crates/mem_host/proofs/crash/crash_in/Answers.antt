use Rattle.std.proofs.Common.{◌≡◌, ◌≤◌, take, sym, ◌∙◌, subst}
use Rattle.std.proofs.lemmas.List.{take_all}
use Rattle.mem_host.specs.Deeds.{event_of_deed}
use Rattle.mem_host.specs.Fitted.{FitsAt}
use Rattle.mem_host.specs.Replay.{world_after}
use Rattle.mem_host.specs.Crashes.{calls_in, between_calls, in_event, crash_in}
use Rattle.mem_host.specs.Finding.{events_of, Finds}
use Rattle.mem_host.proofs.Found.{next_fits, first_fit, crash_at, crash_now}
use Rattle.mem_host.proofs.crash.crash_in.Goals.{then-at-deeds+in_ok-stop_in, else-at-deeds}
use Rattle.mem_host.proofs.crash.crash_in.Goals as goal

pub replay-requires : goal.replay-requires
replay-requires c = first_fit c.args.deeds.now c.place_of_call-at.result c.requires

pub stop_in-requires : goal.stop_in-requires
stop_in-requires c =
    let deeds = c.args.deeds.now in let at = c.place_of_call-at.result in record {
      earlier = events_of (take at deeds);
      fit = subst (λ d. FitsAt (event_of_deed d) (events_of (take at deeds))) (sym c.index-deeds-at.is) (next_fits deeds at c.index-deeds-at.result c.if-at-deeds.true c.requires);
      finds = c.in_ok-crash.ensures.finds;
    }

pub returns : goal.returns
returns c =
    let deeds = c.args.deeds.now in let at = c.place_of_call-at.result in let call = c.args.call in let pick = c.args.pick in
    let front = events_of (take at deeds) in
    elim c.if-at-deeds.branch [
      | then-at-deeds+in_ok-stop_in w ↦
          let deed = w.index-deeds-at.result in
          let is = c.place_of_call-at.ensures.is deed w.if-at-deeds.true in
          let fit = subst (λ d. FitsAt (event_of_deed d) front) (sym w.index-deeds-at.is) (next_fits deeds at deed w.if-at-deeds.true c.requires) in
          subst (λ found. Finds found (crash_in call (events_of deeds) pick)) (sym w.crash-is)
          (subst (Finds w.stop_in.new.self)
          ((λ i. in_event (event_of_deed (w.index-deeds-at.is i)) (world_after front) (c.in_ok-crash.ensures.pick i)) ∙ sym (crash_at call deeds at deed pick w.if-at-deeds.true is.1 is.0))
          (w.in_ok-stop_in.ensures front fit c.in_ok-crash.ensures.finds))
      | else-at-deeds w ↦
          let whole : take at deeds ≡ deeds = take_all at deeds w.if-at-deeds.false in
          subst (λ found. Finds found (crash_in call (events_of deeds) pick)) (sym w.crash-is)
          (subst (Finds c.in_ok-crash.crash)
          ((λ i. between_calls (world_after (events_of (whole i))) (c.in_ok-crash.ensures.pick i)) ∙ sym (crash_now call (events_of deeds) pick (subst (λ l. calls_in (events_of l) ≤ call) whole c.place_of_call-at.ensures.before)))
          c.in_ok-crash.ensures.finds)
    ]
