use Rattle.std.proofs.Common.{◌≡◌, ℕ, sym, ◌∙◌, subst}
use Rattle.file_model.specs.declared.files.Kind.TheVariants.{Nothing, File, Dir}
use Rattle.file_model.specs.Disk.{seen}
use Rattle.file_model.specs.Images.{node_at, nothing}
use Rattle.file_model.specs.Histories.{Now}
use Rattle.file_model.specs.Kinds.{CanMake}
use Rattle.imapd_core.proofs.InboxMade.{nothing_now, there_ended, inbox_makes}
use Rattle.imapd_core.proofs.opening.make_missing.Goals as goal

file_there : (len : ℕ) → File len ≡ Nothing → ⊥
file_there len is = cc

directory_there : Dir ≡ Nothing → ⊥
directory_there is = cc

pub returns-in-File-clause-made : goal.returns-in-File-clause-made
returns-in-File-clause-made g c =
    there_ended c.args.path.now c.in_ok-stat.field-0 _ _ (λ none. file_there _ (sym c.in-File.is ∙ none)) c.in_ok-stat.ensures.kind c.in_ok-stat.ensures.same

pub returns-in-Dir-clause-made : goal.returns-in-Dir-clause-made
returns-in-Dir-clause-made g c =
    there_ended c.args.path.now c.in_ok-stat.field-0 _ _ (λ none. directory_there (sym c.in-Dir.is ∙ none)) c.in_ok-stat.ensures.kind c.in_ok-stat.ensures.same

pub make_settled-requires-clause-nothing : goal.make_settled-requires-clause-nothing
make_settled-requires-clause-nothing g c =
    subst (λ h. Now h (λ w. node_at (seen w.disk) c.args.path.now ≡ nothing)) (sym c.in_ok-stat.ensures.same)
    (nothing_now c.args.path.now c.in_ok-stat.field-0 _ c.in-Nothing.is c.in_ok-stat.ensures.kind)

pub make_settled-requires-clause-can : goal.make_settled-requires-clause-can
make_settled-requires-clause-can g c =
    subst (λ h. Now h (λ w. CanMake (seen w.disk) c.args.path.now)) (sym c.in_ok-stat.ensures.same)
    (inbox_makes c.args.path.now (g.F.Files.history c.args.files.now) c.requires.below c.requires.room (nothing_now c.args.path.now c.in_ok-stat.field-0 _ c.in-Nothing.is c.in_ok-stat.ensures.kind))
