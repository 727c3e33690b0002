use Rattle.imap_session.proofs.Fetching.{puts_stopped}
use Rattle.imap_session.proofs.NamesSaid.{names_put}
use Rattle.imap_session.proofs.commands.store.put_names.Goals as goal

pub returns-in-Ok-clause-puts : goal.returns-in-Ok-clause-puts
returns-in-Ok-clause-puts g c = names_put c.args.before c.args.names.now c.in-Ok.names _ _ _ _ _ c.if-names-before.false c.in-Ok.ensures c.put.ensures.puts

pub returns-in-Err-clause-puts : goal.returns-in-Err-clause-puts
returns-in-Err-clause-puts g c = puts_stopped _ _ _ _
