use Rattle.std.proofs.Common.{rules, ◌≡◌, ◌≤◌, ◌∙◌, ap, drop, sym, subst}
use Rattle.std.specs.Prelude.{IfSome}
use Rattle.mbx_form.specs.Heads.{head_at}
use Rattle.mbx_form.proofs.Fronts.{head_in_61}
use Rattle.mbx_store.proofs.Finding.{head_wide}
use Rattle.mbx_store.proofs.OnFile.{file_weaker, read_there}
use Rattle.mbx_store.proofs.scan.head_in.Goals as goal

pub returns-in-Ok-clause-head : goal.returns-in-Ok-clause-head
returns-in-Ok-clause-head g c =
    file_weaker _ (λ bytes. c.read_head.result ≡ head_at (drop c.args.at bytes)) c.args.path.now (λ bytes same. c.read_head.ensures ∙ ap head_at same ∙ head_in_61 (drop c.args.at bytes)) (g.F.Files.history c.args.files.now)
    (read_there c.args.path.now c.args.at c.in-Ok.got 61 c.read_at.new.buf _ (search rules) c.in-Ok.ensures.gives)

pub returns-in-Ok-clause-wide : goal.returns-in-Ok-clause-wide
returns-in-Ok-clause-wide g c = subst (λ o. IfSome o (λ f. (51 ≤ f.1) × (f.1 ≤ 61))) (sym c.read_head.ensures) (head_wide _)
