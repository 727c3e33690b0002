use Rattle.std.proofs.Common.{◌≡◌, [], map, drop, length, string_bytes, Some, refl, sym, ◌∙◌, ap, subst, arith}
use Rattle.std.proofs.lemmas.Grind.{common_steps}
use Rattle.std.specs.FinMap.{from_entries}
use Rattle.std.specs.Str.{bytes_eq}
use Rattle.std.specs.Map.{update}
use Rattle.std.specs.BTreeMap.{get_by_text}
use Rattle.std.proofs.lemmas.Map.Text.{btree_map_updates_text}
use Rattle.file_model.specs.Disk.{moved_path}
use Rattle.mem_host.specs.Mirrored.{shown, place_entry, Shows}
use Rattle.mem_host.proofs.Listed.{Items, moved_of, empty_shows, all_left, last_left}
use Rattle.mem_host.proofs.Mirrored.{put_shows}
use Rattle.mem_host.proofs.names.moved_names.Goals as goal

pub loop-path-init : goal.loop-path-init
loop-path-init c =
    let l = all_left c.in_ok-left.left.items in record {
      left = l.0;
      moved = subst (λ (left : Items). Shows c.new-moved.result (moved_of c.args.from.now c.args.to.now left)) (sym l.1) (empty_shows c.new-moved.result c.new-moved.ensures.empty);
    }

pub loop-path-preserved : goal.loop-path-preserved
loop-path-preserved c =
    let l = last_left c.in_ok-left.left.items c.loop-path.left.items c.pop.new.self.items (c.in-Some.path, c.in-Some.place) (grind (arith, common_steps, c.in-Some.ensures.items)) c.loop-path.invariant.left in record {
      left = l.0;
      moved = subst (λ (left : Items). Shows c.insert.new.self (moved_of c.args.from.now c.args.to.now left)) (sym l.1)
          (put_shows c.loop-path.moved c.insert.new.self (moved_of c.args.from.now c.args.to.now (drop (length c.loop-path.left.items) c.in_ok-left.left.items)) (moved_path c.args.from.now c.args.to.now (string_bytes c.in-Some.path)) c.in-Some.place (place_entry c.in-Some.place) refl
          c.loop-path.invariant.moved
          (λ q. subst (λ p. get_by_text c.insert.new.self q ≡ update bytes_eq (get_by_text c.loop-path.moved) p (Some c.in-Some.place) q) c.in_ok-moved_path.ensures
          (btree_map_updates_text (string_bytes c.in_ok-moved_path.field-0) c.loop-path.moved c.insert.new.self _ c.in_ok-insert.ensures.updates q)));
    }

pub returns : goal.returns
returns c old shows =
    let none : c.loop-path.left.items ≡ [] = grind (arith, common_steps, c.in_default.is, c.in_default.ensures.cases, c.in_default.ensures.items, c.in_default.ensures.rest, c.in_default.ensures.len) in
    subst (λ es. Shows c.loop-path.moved (from_entries (map (λ e. (moved_path c.args.from.now c.args.to.now e.0, e.1)) es)))
    (ap (λ (left : Items). shown (drop (length left) c.in_ok-left.left.items)) none ∙ c.in_ok-left.ensures old shows) c.loop-path.invariant.moved
