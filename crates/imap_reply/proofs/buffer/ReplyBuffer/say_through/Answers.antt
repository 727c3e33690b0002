use Rattle.std.proofs.Common.{◌++◌, subst, sym, Ok, Err}
use Rattle.imap_reply.specs.Putting.{Puts}
use Rattle.imap_reply.proofs.Putting.{puts_said, puts_failed}
use Rattle.imap_reply.proofs.buffer.ReplyBuffer.say_through.Goals as goal

pub returns-in-Ok-clause-puts : goal.returns-in-Ok-clause-puts
returns-in-Ok-clause-puts g c =
    subst (λ l. Puts (l ++ c.args.bytes.now) l (Ok tt) (g.H.Files.history c.args.host.now) (g.H.Files.history c.say.new.self)) (sym c.requires) (puts_said c.args.bytes.now c.in-Ok.field-0 _ _ c.in-Ok.ensures.says)

pub returns-in-Err-clause-puts : goal.returns-in-Err-clause-puts
returns-in-Err-clause-puts g c =
    subst (λ l. Puts (l ++ c.args.bytes.now) c.args.self.now (Err _) (g.H.Files.history c.args.host.now) (g.H.Files.history c.say.new.self)) (sym c.requires) (puts_failed c.args.bytes.now c.args.self.now c.in-Err.field-0 _ _ _ c.in-Err.ensures.says)
