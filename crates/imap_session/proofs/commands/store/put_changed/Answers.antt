use Rattle.std.proofs.Common.{◌∷◌, [], subst, length, nat_lt, if◌then◌else◌, Ok}
use Rattle.imap_reply.specs.declared.reply.Reply.TheVariants as reply
use Rattle.imap_session.specs.Lines.{reply_line}
use Rattle.imap_session.specs.Putting.{PutsLines}
use Rattle.imap_session.proofs.NamesSaid.{stopped_before}
use Rattle.imap_session.proofs.Putting.{puts_then}
use Rattle.imap_session.proofs.commands.store.put_changed.Goals as goal

pub returns-in_err-put_names-clause-puts : goal.returns-in_err-put_names-clause-puts
returns-in_err-put_names-clause-puts g c texts =
    stopped_before _ _ _ _ _ _ _ _ c.from_residual.ensures.0
    (subst (λ n. PutsLines (if nat_lt c.args.names (length n) then reply_line (reply.Flags n) ∷ [] else []) c.args.out.now c.put_names.new.out c.put_names.result (g.H.Files.history c.args.host.now) (g.H.Files.history c.put_names.new.host))
    c.words.ensures.are c.put_names.ensures.puts)

pub returns-clause-puts : goal.returns-clause-puts
returns-clause-puts g c texts =
    puts_then _ _ _ _ _ _ _ _ _
    (subst (λ n. PutsLines (if nat_lt c.args.names (length n) then reply_line (reply.Flags n) ∷ [] else []) c.args.out.now c.put_names.new.out (Ok tt) (g.H.Files.history c.args.host.now) (g.H.Files.history c.put_names.new.host))
    c.words.ensures.are c.in_ok-put_names.ensures.puts)
    (c.put_unless_silent.ensures.puts texts)
