use Rattle.std.proofs.Common.{rules, ◌≡◌, ◌≤◌, length, ◌∙◌, ap, take, sym, subst}
use Rattle.std.specs.Prelude.{IfSome}
use Rattle.mbx_form.specs.Header.{header_of}
use Rattle.mbx_store.proofs.Finding.{header_few}
use Rattle.mbx_store.proofs.OnFile.{file_weaker, read_there}
use Rattle.mbx_store.proofs.scan.read_front.Goals as goal

pub returns-in-Ok-read_header-clause-header : goal.returns-in-Ok-read_header-clause-header
returns-in-Ok-read_header-clause-header g c =
    file_weaker _ (λ bytes. c.in-Ok-read_header.found ≡ header_of (take 2048 bytes)) c.args.path.now (λ bytes same. c.in-Ok-read_header.ensures ∙ ap header_of same) (g.F.Files.history c.args.files.now)
    (read_there c.args.path.now 0 c.in-Ok.got 2048 c.read_at.new.buf _ (search rules) c.in-Ok.ensures.gives)

pub returns-in-Ok-read_header-clause-few : goal.returns-in-Ok-read_header-clause-few
returns-in-Ok-read_header-clause-few g c = subst (λ o. IfSome o (λ h. length h.words ≤ 30)) (sym c.in-Ok-read_header.ensures) (header_few _)
