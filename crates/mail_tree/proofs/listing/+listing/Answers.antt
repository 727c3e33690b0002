use Rattle.std.proofs.Common.{rules, ◌≡◌, sym, ◌∙◌, ap, subst, map, true, take, get_or, refl, length}
use Rattle.std.specs.Prelude.{string_bytes, Contains}
use Rattle.file_model.specs.Disk.{seen}
use Rattle.file_model.specs.Histories.{Now}
use Rattle.file_model.specs.Paths.{child, is_inside, is_at_or_inside}
use Rattle.mail_tree.specs.Sights.{sees_at}
use Rattle.mail_tree.specs.Walks.{Walked, covers_names, IsOpen}
use Rattle.mail_tree.proofs.Joined.{ok_map}
use Rattle.mail_tree.proofs.Walking.{within_below, lead_passes, lead_plain, passed_now, walked_now, open_now, start_now, more_now, all_now, sees_now, among_texts, one_more, deeper, longer_path}
use Rattle.mail_tree.proofs.listing.+listing.Goals as goal

pub walk-returns-clause-found : goal.walk-returns-clause-found
walk-returns-clause-found g t c =
    let old = g.F.Files.history c.args.files.now in
    let root = c.args.root.now in
    let pattern = c.args.pattern.now in
    let dir = c.args.dir.now in
    let names = map string_bytes c.in_ok-names.names.items in
    ok_map c.walk_names.result
    (λ walked. all_now root pattern dir old names c.args.found.now.entries c.walk_names.new.found.entries c.requires.1.1.1.1.1.0 c.in_ok-names.ensures.names
    (subst (λ h. Now h (λ w. Walked root pattern (covers_names dir names) (seen w.disk) c.args.found.now.entries c.walk_names.new.found.entries)) c.in_ok-names.ensures.history
    (subst (λ l. Now (g.F.Files.history c.names_in.new.files) (λ w. Walked root pattern (covers_names dir (map string_bytes l)) (seen w.disk) c.args.found.now.entries c.walk_names.new.found.entries)) c.as_slice.ensures.value walked)))
    c.walk_names.ensures.found

pub walk_names-loop-name-init : goal.walk_names-loop-name-init
walk_names-loop-name-init g t c = record { walked = start_now c.args.root.now c.args.pattern.now c.args.dir.now _ c.args.found.now.entries; history = refl; hear = refl; say = refl; read = search rules; file = refl }

pub walk_names-walk_one-requires : goal.walk_names-walk_one-requires
walk_names-walk_one-requires g t c κs within =
    let path = c.as_str-in-loop-name.ensures.value ∙ c.in_ok-path.ensures in
    let short = deeper (length c.args.root.now) (length c.args.dir.now) (length c.as_str-in-loop-name.result.now) c.requires.1.1.1.1.0 (longer_path c.args.dir.now c.as_str.result.now c.as_str-in-loop-name.result.now path) in (
      search (short, rules),
      (
        search rules,
        (
          search rules,
          (
            (let below = c.requires.1.1.1.1.1.0.each c.as_str.result.now in record { name = below.name; whole = path ∙ below.whole }),
            (λ name whole. subst (λ h. Now h (λ w. sees_at c.args.root.now (seen w.disk) name ≡ true)) (sym c.loop-name.invariant.history)
                (sees_now c.args.root.now c.args.pattern.now c.args.dir.now _ (map string_bytes c.args.names.now) c.as_str.result.now
                (subst (Contains (map string_bytes c.args.names.now)) (sym (c.as_str.ensures.value ∙ ap string_bytes c.name-item.is)) (among_texts string_bytes c.args.names.now c.loop-name.name-index c.name-item.result c.loop-name-test.true))
                c.requires.1.1.1.1.1.1.1 c.requires.1.1.1.1.1.1.0 name (sym path ∙ whole))),
          ),
        ),
      ),
    )

pub walk_names-loop-name-preserved : goal.walk_names-loop-name-preserved
walk_names-loop-name-preserved g t c =
    let old = g.F.Files.history c.args.files.now in
    let root = c.args.root.now in
    let pattern = c.args.pattern.now in
    let dir = c.args.dir.now in
    let path = c.as_str-in-loop-name.ensures.value ∙ c.in_ok-path.ensures ∙ ap (child dir) (c.as_str.ensures.value ∙ ap string_bytes c.name-item.is) in
    record {
      walked = subst (λ names. Now old (λ w. Walked root pattern (covers_names dir names) (seen w.disk) c.args.found.now.entries c.walk_one.new.found.entries)) (one_more string_bytes c.args.names.now c.loop-name.name-index c.name-item.result c.loop-name-test.true)
          (more_now root pattern dir old (map string_bytes (take c.loop-name.name-index c.args.names.now)) (string_bytes (get_or c.args.names.now c.loop-name.name-index c.name-item.result)) c.args.found.now.entries c.loop-name.found.entries c.walk_one.new.found.entries
          c.loop-name.invariant.walked
          (subst (λ q. Now old (λ w. Walked root pattern (is_at_or_inside q) (seen w.disk) c.loop-name.found.entries c.walk_one.new.found.entries)) path
          (subst (λ h. Now h (λ w. Walked root pattern (is_at_or_inside c.as_str-in-loop-name.result.now) (seen w.disk) c.loop-name.found.entries c.walk_one.new.found.entries)) c.loop-name.invariant.history c.in_ok-walk_one.ensures.found)));
      history = c.in_ok-walk_one.ensures.history ∙ c.loop-name.invariant.history;
      hear = search rules;
      say = search rules;
      read = search rules;
      file = search rules;
    }

pub walk_one-returns-then-not-branch-clause-found : goal.walk_one-returns-then-not-branch-clause-found
walk_one-returns-then-not-branch-clause-found g t c =
    let below = c.requires.1.1.1.1.0 in
    passed_now c.args.root.now c.args.pattern.now c.args.path.now _ c.args.found.now.entries c.look_for.new.found.entries c.in_ok-look_for.ensures.found
    (lead_passes c.args.root.now c.args.pattern.now c.args.path.now below.name below.whole _ c.in_ok-look_for.field-0 c.if-not-branch.true (c.in_ok-look_for.ensures.enters below.name below.whole))

pub walk_one-walk-requires : goal.walk_one-walk-requires
walk_one-walk-requires g t c κs within =
    let below = c.requires.1.1.1.1.0 in (
      search rules,
      (
        search rules,
        (
          search rules,
          (
            c.in_ok-look_for.ensures.short c.if-not-branch.false,
            (
              within_below c.args.root.now c.args.path.now below,
              subst (λ h. Now h (λ w. IsOpen c.args.root.now c.args.path.now (seen w.disk))) (sym c.in_ok-look_for.ensures.history)
                  (open_now c.args.root.now c.args.pattern.now c.args.path.now _ below.name below.whole (c.requires.1.1.1.1.1 below.name below.whole)
                  (lead_plain c.args.root.now c.args.pattern.now c.args.path.now below.name below.whole _ c.in_ok-look_for.field-0 c.if-not-branch.false (c.in_ok-look_for.ensures.enters below.name below.whole))),
            ),
          ),
        ),
      ),
    )

pub walk_one-returns-clause-found : goal.walk_one-returns-clause-found
walk_one-returns-clause-found g t c =
    let old = g.F.Files.history c.args.files.now in
    let root = c.args.root.now in
    let pattern = c.args.pattern.now in
    let path = c.args.path.now in
    ok_map c.walk.result
    (λ walked. walked_now root pattern path old c.args.found.now.entries c.look_for.new.found.entries c.walk.new.found.entries c.in_ok-look_for.ensures.found
    (subst (λ h. Now h (λ w. Walked root pattern (is_inside path) (seen w.disk) c.look_for.new.found.entries c.walk.new.found.entries)) c.in_ok-look_for.ensures.history walked)) c.walk.ensures.found
