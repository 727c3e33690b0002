use Rattle.imap_session.proofs.Fetching.{puts_stopped}
use Rattle.imap_session.proofs.commands.fetch_line.put_lines.Goals as goal

pub returns-in-Err-clause-puts : goal.returns-in-Err-clause-puts
returns-in-Err-clause-puts g c texts = puts_stopped _ _ _ _
