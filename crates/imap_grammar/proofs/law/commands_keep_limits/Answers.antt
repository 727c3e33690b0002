use Rattle.imap_grammar.proofs.Limits.{all_within}
use Rattle.imap_grammar.proofs.law.commands_keep_limits.Goals as goal

pub returns : goal.returns
returns c stream = all_within stream
