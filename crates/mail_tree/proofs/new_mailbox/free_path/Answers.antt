use Rattle.std.proofs.Common.{◌≡◌, sym, ◌∙◌, subst, inl, true}
use Rattle.file_model.specs.Disk.{seen}
use Rattle.file_model.specs.Histories.{Now}
use Rattle.file_model.specs.Kept.{IsSound}
use Rattle.file_model.specs.Paths.{child}
use Rattle.file_model.proofs.Runs.{now_weaker, now_both}
use Rattle.any_store.specs.Choice.{formats_of, chosen}
use Rattle.mail_tree.specs.Sights.{stands_at, is_blocked_at}
use Rattle.mail_tree.proofs.Below.{rooted_seen}
use Rattle.mail_tree.proofs.Creating.{due_blocked, due_there, free_known}
use Rattle.mail_tree.proofs.new_mailbox.free_path.Goals as goal

pub returns-then-branch-clause-refused : goal.returns-then-branch-clause-refused
returns-then-branch-clause-refused g c =
    now_weaker (λ w. (c.in_ok-is_blocked.field-0 ≡ is_blocked_at c.args.root.now (seen w.disk) c.args.name.now) × IsSound w.disk) _
    (λ w now. λ tree has. inl (due_blocked (formats_of g.S.Store.forms chosen) c.args.root.now c.args.name.now c.in_ok-path.ensures.name (seen w.disk) (rooted_seen w.disk now.1) tree has (sym now.0 ∙ c.if-branch.true)))
    (g.F.Files.history c.args.files.now)
    (now_both (λ w. c.in_ok-is_blocked.field-0 ≡ is_blocked_at c.args.root.now (seen w.disk) c.args.name.now) (λ w. IsSound w.disk) (g.F.Files.history c.args.files.now)
    (c.in_ok-is_blocked.ensures.value c.args.name.now (c.as_str.ensures.value ∙ c.in_ok-path.ensures.path)) (g.met.F.Files.sound c.args.files.now))

pub returns-then-branch-2-clause-refused : goal.returns-then-branch-2-clause-refused
returns-then-branch-2-clause-refused g c =
    let fs = formats_of g.S.Store.forms chosen in
    let root = c.args.root.now in
    let name = c.args.name.now in
    let old = g.F.Files.history c.args.files.now in
    let is = c.in_ok-path.ensures.name in
    let known = free_known root name c.in_ok-is_blocked.field-0 c.in_ok-stands.field-0 true c.if-branch.false c.if-branch-2.true old
    (c.in_ok-is_blocked.ensures.value name (c.as_str.ensures.value ∙ c.in_ok-path.ensures.path))
    (subst (λ h. Now h (λ w. c.in_ok-stands.field-0 ≡ stands_at (seen w.disk) (child root name))) c.in_ok-is_blocked.ensures.history
    (subst (λ p. Now (g.F.Files.history c.is_blocked.new.files) (λ w. c.in_ok-stands.field-0 ≡ stands_at (seen w.disk) p)) (c.as_str-2.ensures.value ∙ c.in_ok-path.ensures.path) c.in_ok-stands.ensures.value))
    (g.met.F.Files.sound c.args.files.now) in
    now_weaker _ _ (λ w now. λ tree has. inl (due_there fs root name is (seen w.disk) (rooted_seen w.disk now.2) tree has now.0 now.1)) old known
