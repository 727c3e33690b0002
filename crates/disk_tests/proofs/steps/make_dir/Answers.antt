use Rattle.std.proofs.Common.{◌≡◌, sym, ◌∙◌, subst}
use Rattle.std.specs.Prelude.{codes}
use Rattle.file_model.specs.declared.files.Kind.TheVariants.{Nothing, Dir}
use Rattle.file_model.specs.Disk.{seen}
use Rattle.file_model.specs.Histories.{World, Now}
use Rattle.file_model.specs.Images.{node_at}
use Rattle.file_model.specs.Kinds.{kind_of}
use Rattle.file_model.proofs.Runs.{now_both, now_weaker}
use Rattle.disk_tests.proofs.Moving.{can_make}
use Rattle.disk_tests.proofs.steps.make_dir.Goals as goal

pub make_dir-requires : goal.make_dir-requires
make_dir-requires g c =
    let room : World → Type 0 = λ w. Dir ≡ kind_of (node_at (seen w.disk) (codes "/m")) in
    let free : World → Type 0 = λ w. Nothing ≡ kind_of (node_at (seen w.disk) (codes "/m/d")) in
    let last = g.F.Files.history c.stands-then-branch.new.host in
    let second = c.in_ok-stands-2.ensures.same in
    let one : Now last room = subst (λ h. Now h room) (sym (second ∙ c.in_ok-stands.ensures.same)) (c.in_ok-stands.ensures.stands c.if-branch.true) in
    let two : Now last free = subst (λ h. Now h free) (sym second) (c.in_ok-stands-2.ensures.stands c.if-branch-2.true) in
    now_weaker _ _ (λ w facts. can_make (seen w.disk) facts.0 facts.1) last (now_both _ _ last one two)
