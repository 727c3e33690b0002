use Rattle.std.proofs.Common.{◌∙◌, ap}
use Rattle.std.specs.List.{filter}
use Rattle.std.proofs.lemmas.Map.Iter.{iter_end}
use Rattle.mem_host.specs.Mirrored.{stays, shown}
use Rattle.mem_host.proofs.Listed.{deref, all_yielded, beside_entries}
use Rattle.mem_host.proofs.names.names_beside.Goals as goal

pub returns : goal.returns
returns c all shows =
    let whole = iter_end deref c.args.names.now.entries c.loop-path.yielded _ _ _ c.next.result (c.into_iter-path-iterator.ensures.into_iter_gives ∙ c.iter-path-items.ensures.rest) c.loop-path.yielded_by c.in-None.is c.next.ensures.steps in
    beside_entries c.args.names.now all c.args.dir.now (shown c.loop-path.left.items) c.iter-path-items.ensures.ordered shows
    (c.loop-path.invariant ∙ ap (filter (λ e. stays c.args.dir.now e.0)) (all_yielded c.args.names.now c.args.names.now.entries c.loop-path.yielded whole.0))
