use Rattle.std.proofs.Common.{◌≡◌, [], ◌++◌, map, string_bytes, sym, ◌∙◌, ap}
use Rattle.std.proofs.lemmas.List.{map-append}
use Rattle.std.specs.List.{filter_map, cons_option}
use Rattle.std.proofs.lemmas.List.Elements.{filter_map-append}
use Rattle.std.proofs.lemmas.Map.Iter.{iter_end}
use Rattle.file_model.specs.Images.{name_within}
use Rattle.mem_host.proofs.Listed.{Yield, deref, all_yielded, entries_shown, firsts}
use Rattle.mem_host.proofs.names.names_in.Goals as goal

pub returns : goal.returns
returns c image shows =
    let whole = iter_end deref c.args.names.now.entries c.loop-path.yielded _ _ _ c.next.result (c.into_iter-path-iterator.ensures.into_iter_gives ∙ c.iter-path-items.ensures.rest) c.loop-path.yielded_by c.in-None.is c.next.ensures.steps in
    c.loop-path.invariant
    ∙ ap (filter_map (name_within c.args.dir.now)) (firsts c.loop-path.yielded
    ∙ ap (map (λ e. e.0)) (all_yielded c.args.names.now c.args.names.now.entries c.loop-path.yielded whole.0 ∙ entries_shown c.args.names.now image.names c.iter-path-items.ensures.ordered shows))

pub loop-path-preserved : goal.loop-path-preserved
loop-path-preserved c =
    let pushed : map string_bytes c.push_name.new.found.items ≡ map string_bytes c.loop-path.found.items ++ cons_option (name_within c.args.dir.now c.deref.result.now) [] = c.in_ok-push_name.ensures in
    pushed ∙ ap (λ p. map string_bytes c.loop-path.found.items ++ cons_option (name_within c.args.dir.now p) []) c.deref.ensures ∙ ap (λ l. l ++ cons_option (name_within c.args.dir.now (string_bytes c.in-Some.path.now)) []) c.loop-path.invariant
    ∙ sym (ap (filter_map (name_within c.args.dir.now)) (map-append (λ (y : Yield). string_bytes y.0.now) c.loop-path.yielded _)
    ∙ filter_map-append (name_within c.args.dir.now) (map (λ (y : Yield). string_bytes y.0.now) c.loop-path.yielded) _)
