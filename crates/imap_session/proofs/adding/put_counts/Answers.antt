use Rattle.imap_session.proofs.Fetching.{puts_stopped}
use Rattle.imap_session.proofs.adding.put_counts.Goals as goal

pub returns-in_default-clause-puts : goal.returns-in_default-clause-puts
returns-in_default-clause-puts g c = puts_stopped _ _ _ _
