use Rattle.std.proofs.Common.{◌≡◌, Some, None, string_bytes, sym, ◌∙◌, ap, subst, arith}
use Rattle.std.proofs.lemmas.Grind.{common_steps}
use Rattle.std.proofs.lemmas.Map.Iter.{iter_end}
use Rattle.std.specs.BTreeMap.{get_by_text}
use Rattle.file_model.specs.Images.{node_at}
use Rattle.mem_host.specs.Replay.{seen_after}
use Rattle.mem_host.specs.Putting.{with_node}
use Rattle.mem_host.specs.Finding.{CanPutNext}
use Rattle.mem_host.proofs.Listed.{deref}
use Rattle.mem_host.proofs.Rebuilt.{can_put_next, node_ready, rebuilt_put, rebuilt_none, all_rebuilt}
use Rattle.mem_host.proofs.mirror.Mirror.put_all.Goals as goal

pub put-requires : goal.put-requires
put-requires c =
    let path = string_bytes c.in-Some.path.now in let place = c.in-Some-get.place.now in
    let leads : get_by_text c.args.names.now path ≡ Some place = grind (arith, common_steps, c.get.ensures.value, c.in-Some-get.is, c.as_str.ensures.value) in
    let rest = c.requires.rest in
    subst (λ p. CanPutNext p place c.args.contents.now c.loop-path.self) (sym c.as_str-in-Some-get.ensures.value)
    (can_put_next c.args.names.now c.args.contents.now rest.image rest.holds rest.rooted c.loop-path.self c.loop-path.yielded path place c.loop-path.invariant.puts leads (c.loop-path.invariant.rebuilds rest.image rest.holds rest.rooted))

pub loop-path-preserved-in-Continue-1 : goal.loop-path-preserved-in-Continue-1
loop-path-preserved-in-Continue-1 c =
    let path = string_bytes c.in-Some.path.now in let place = c.in-Some-get.place.now in
    let leads : get_by_text c.args.names.now path ≡ Some place = grind (arith, common_steps, c.get.ensures.value, c.in-Some-get.is, c.as_str.ensures.value) in record {
      puts = c.in_ok-put.ensures.puts;
      said = c.in_ok-put.ensures.said ∙ c.loop-path.invariant.said;
      rebuilds = λ image holds rooted. rebuilt_put c.args.names.now c.args.contents.now image holds rooted c.loop-path.self c.put.new.self c.loop-path.yielded (c.in-Some.path, c.in-Some.field-0-1) place leads
          (λ q. c.in_ok-put.ensures.ok (node_at image path) (node_ready c.args.names.now c.args.contents.now image holds rooted path place leads) q
          ∙ ap (λ p. with_node (seen_after c.loop-path.self) p (node_at image path) q) c.as_str-in-Some-get.ensures.value)
          (c.loop-path.invariant.rebuilds image holds rooted);
    }

pub loop-path-preserved : goal.loop-path-preserved
loop-path-preserved c =
    let path = string_bytes c.in-Some.path.now in
    let none : get_by_text c.args.names.now path ≡ None = grind (arith, common_steps, c.get.ensures.value, c.in_default.is, c.as_str.ensures.value) in record {
      puts = c.loop-path.invariant.puts;
      said = c.loop-path.invariant.said;
      rebuilds = λ image holds rooted. rebuilt_none c.args.names.now c.args.contents.now image holds rooted c.loop-path.self c.loop-path.yielded (c.in-Some.path, c.in-Some.field-0-1) none (c.loop-path.invariant.rebuilds image holds rooted);
    }

pub returns-clause-ok : goal.returns-clause-ok
returns-clause-ok c image holds rooted =
    let whole = iter_end deref c.args.names.now.entries c.loop-path.yielded _ _ _ c.next.result (c.into_iter-path-iterator.ensures.into_iter_gives ∙ c.iter-path-items.ensures.rest) c.loop-path.yielded_by c.in-None.is c.next.ensures.steps in
    all_rebuilt c.args.names.now c.args.contents.now image holds rooted c.loop-path.self c.loop-path.yielded whole.0 (c.loop-path.invariant.rebuilds image holds rooted)
