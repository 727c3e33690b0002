use Rattle.std.proofs.Common.{subst, sym, ◌∙◌, [], Ok, Err}
use Rattle.imap_reply.specs.Putting.{Puts}
use Rattle.imap_reply.proofs.Putting.{puts_said, puts_failed}
use Rattle.imap_reply.proofs.buffer.ReplyBuffer.say.Goals as goal

pub returns-in-Ok-clause-puts : goal.returns-in-Ok-clause-puts
returns-in-Ok-clause-puts g c =
    subst (λ l. Puts c.args.self.now l (Ok tt) (g.H.Files.history c.args.host.now) (g.H.Files.history c.say.new.self)) (sym c.clear.ensures)
    (subst (λ l. Puts l [] (Ok tt) (g.H.Files.history c.args.host.now) (g.H.Files.history c.say.new.self)) (c.as_slice.ensures.value ∙ c.self.view_is)
    (puts_said c.as_slice.result.now c.in-Ok.field-0 _ _ c.in-Ok.ensures.says))

pub returns-in-Err-clause-puts : goal.returns-in-Err-clause-puts
returns-in-Err-clause-puts g c =
    subst (λ l. Puts l c.args.self.now (Err _) (g.H.Files.history c.args.host.now) (g.H.Files.history c.say.new.self)) (c.as_slice.ensures.value ∙ c.self.view_is)
    (puts_failed c.as_slice.result.now c.args.self.now c.in-Err.field-0 _ _ _ c.in-Err.ensures.says)
