use Rattle.imap_session.proofs.Expunging.{said_if}
use Rattle.imap_session.proofs.commands.expunge.put_line.Goals as goal

pub returns-clause-puts : goal.returns-clause-puts
returns-clause-puts g c = said_if c.args.number c.args.deleted _ _ _ _ _ c.if-not-deleted.false c.put.ensures.puts
