use Rattle.std.proofs.Common.{◌≡◌, sym, ◌∙◌, ap, subst}
use Rattle.file_model.specs.Disk.{seen}
use Rattle.file_model.specs.Histories.{Now}
use Rattle.file_model.specs.Paths.{child, is_inside}
use Rattle.mail_tree.specs.Sights.{sight_at}
use Rattle.mail_tree.specs.Walks.{Walked, IsOpen}
use Rattle.mail_tree.proofs.Joined.{ok_map}
use Rattle.mail_tree.proofs.Walking.{no_name, one_name}
use Rattle.mail_tree.proofs.WalkedBelow.{no_name_now, unseen_now, not_plain_now, inside_now, open_name}
use Rattle.mail_tree.proofs.listing.walk_below.Goals as goal

pub returns-in_default-clause-found : goal.returns-in_default-clause-found
returns-in_default-clause-found g c =
    no_name_now c.args.root.now c.args.pattern.now c.args.text.now c.requires.front _ (no_name c.args.text.now (sym c.in_ok-name.ensures ∙ c.in_default.is)) c.args.found.now.entries

pub returns-then-not-branch-clause-found : goal.returns-then-not-branch-clause-found
returns-then-not-branch-clause-found g c =
    let one = one_name c.args.text.now c.in-Some.name (sym c.in_ok-name.ensures ∙ c.in-Some.is) in
    unseen_now c.args.root.now c.args.pattern.now c.in-Some.name (λ n fit. let w = c.requires.front n fit in (w.0, w.1 ∙ ap (λ d. child d w.0) (sym one.0))) _
    c.in_ok-sees.field-0 c.if-not-branch.true c.args.found.now.entries (c.in_ok-sees.ensures.value c.in-Some.name (c.as_str.ensures.value ∙ c.in_ok-path.ensures.path))

pub returns-then-not-is_plain-clause-found : goal.returns-then-not-is_plain-clause-found
returns-then-not-is_plain-clause-found g c =
    let one = one_name c.args.text.now c.in-Some.name (sym c.in_ok-name.ensures ∙ c.in-Some.is) in
    let old = g.F.Files.history c.args.files.now in
    not_plain_now c.args.root.now c.args.pattern.now c.in-Some.name (λ n fit. let w = c.requires.front n fit in (w.0, w.1 ∙ ap (λ d. child d w.0) (sym one.0))) old
    c.in_ok-look_at.field-0 (sym c.is_plain.ensures ∙ c.if-not-is_plain.true) c.args.found.now.entries
    (subst (λ h. Now h (λ w. c.in_ok-look_at.field-0 ≡ sight_at (seen w.disk) (child c.args.root.now c.in-Some.name))) c.in_ok-sees.ensures.history
    (subst (λ q. Now (g.F.Files.history c.sees.new.files) (λ w. c.in_ok-look_at.field-0 ≡ sight_at (seen w.disk) q)) (c.as_str-2.ensures.value ∙ c.in_ok-path.ensures.path) c.in_ok-look_at.ensures.value))

pub walk-requires-clause-opened : goal.walk-requires-clause-opened
walk-requires-clause-opened g c =
    let old = g.F.Files.history c.args.files.now in
    subst (λ h. Now h (λ w. IsOpen c.args.root.now c.as_str-3.result.now (seen w.disk))) (sym (c.in_ok-look_at.ensures.history ∙ c.in_ok-sees.ensures.history))
    (subst (λ q. Now old (λ w. IsOpen c.args.root.now q (seen w.disk))) (sym (c.as_str-3.ensures.value ∙ c.in_ok-path.ensures.path))
    (open_name c.args.root.now c.args.pattern.now c.in-Some.name c.in_ok-sees.field-0 c.in_ok-look_at.field-0 c.if-not-branch.false (sym c.is_plain.ensures ∙ c.if-not-is_plain.false) old
    (c.in_ok-sees.ensures.value c.in-Some.name (c.as_str.ensures.value ∙ c.in_ok-path.ensures.path))
    (subst (λ h. Now h (λ w. c.in_ok-look_at.field-0 ≡ sight_at (seen w.disk) (child c.args.root.now c.in-Some.name))) c.in_ok-sees.ensures.history
    (subst (λ q. Now (g.F.Files.history c.sees.new.files) (λ w. c.in_ok-look_at.field-0 ≡ sight_at (seen w.disk) q)) (c.as_str-2.ensures.value ∙ c.in_ok-path.ensures.path) c.in_ok-look_at.ensures.value))))

pub returns-clause-found : goal.returns-clause-found
returns-clause-found g c =
    let one = one_name c.args.text.now c.in-Some.name (sym c.in_ok-name.ensures ∙ c.in-Some.is) in
    let old = g.F.Files.history c.args.files.now in
    ok_map c.walk.result
    (λ walked. inside_now c.args.root.now c.args.pattern.now c.in-Some.name (λ n fit. let w = c.requires.front n fit in (w.0, w.1 ∙ ap (λ d. child d w.0) (sym one.0))) old c.args.found.now.entries c.walk.new.found.entries
    (subst (λ h. Now h (λ w. Walked c.args.root.now c.args.pattern.now (is_inside (child c.args.root.now c.in-Some.name)) (seen w.disk) c.args.found.now.entries c.walk.new.found.entries)) (c.in_ok-look_at.ensures.history ∙ c.in_ok-sees.ensures.history)
    (subst (λ q. Now (g.F.Files.history c.look_at.new.files) (λ w. Walked c.args.root.now c.args.pattern.now (is_inside q) (seen w.disk) c.args.found.now.entries c.walk.new.found.entries)) (c.as_str-3.ensures.value ∙ c.in_ok-path.ensures.path) walked)))
    c.walk.ensures.found
