use Rattle.std.proofs.Common.{◌≢◌, ◌∷◌, [], refl, ◌∙◌, subst, arith}
use Rattle.std.specs.Prelude.{string_bytes}
use Rattle.file_model.specs.Histories.{Ran, Ended}
use Rattle.file_model.specs.Kept.{Keeps}
use Rattle.file_model.proofs.FileCalls.{then_keeps}
use Rattle.mail_tree.specs.Deleting.{Cleared}
use Rattle.mail_tree.proofs.LeftFiles.{more_kept, more_cleared}
use Rattle.mail_tree.proofs.emptying.remove_files.Goals as goal

pub returns-in_err-remove_one-clause-directories : goal.returns-in_err-remove_one-clause-directories
returns-in_err-remove_one-clause-directories g c = then_keeps _ _ _ c.loop-path.invariant.directories c.remove_one.ensures.directories

pub returns-in_err-remove_one-clause-kept : goal.returns-in_err-remove_one-clause-kept
returns-in_err-remove_one-clause-kept g c =
    more_kept string_bytes c.args.paths.now c.loop-path.path-index c.path-item.result c.loop-path-test.true c.path-item.is _ _ _ c.loop-path.invariant.kept
    (subst (λ p. Ran (Keeps (λ q. q ≢ p)) (g.F.Files.history c.loop-path.files) (g.F.Files.history c.remove_one.new.files)) c.as_str.ensures.value c.remove_one.ensures.kept)

pub loop-path-preserved : goal.loop-path-preserved
loop-path-preserved g c = record {
  cleared = more_cleared string_bytes c.args.paths.now c.loop-path.path-index c.path-item.result c.loop-path-test.true c.path-item.is _ _ _ c.loop-path.invariant.cleared
      (subst (λ p. Ended (Cleared (p ∷ [])) (g.F.Files.history c.loop-path.files) (g.F.Files.history c.remove_one.new.files)) c.as_str.ensures.value c.in_ok-remove_one.ensures.cleared);
  directories = then_keeps _ _ _ c.loop-path.invariant.directories c.in_ok-remove_one.ensures.directories;
  kept = more_kept string_bytes c.args.paths.now c.loop-path.path-index c.path-item.result c.loop-path-test.true c.path-item.is _ _ _ c.loop-path.invariant.kept
      (subst (λ p. Ran (Keeps (λ q. q ≢ p)) (g.F.Files.history c.loop-path.files) (g.F.Files.history c.remove_one.new.files)) c.as_str.ensures.value c.in_ok-remove_one.ensures.kept);
  hear = c.in_ok-remove_one.ensures.cause.counts.hear ∙ c.loop-path.invariant.hear;
  say = c.in_ok-remove_one.ensures.cause.counts.say ∙ c.loop-path.invariant.say;
  read = omega (arith, c.in_ok-remove_one.ensures.cause.counts.read, c.loop-path.invariant.read);
  file = c.in_ok-remove_one.ensures.cause.stays refl ∙ c.loop-path.invariant.file;
}
