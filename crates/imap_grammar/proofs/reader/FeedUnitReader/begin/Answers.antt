use Rattle.imap_grammar.proofs.Feeds.{units_first}
use Rattle.raw_commands.proofs.Pieces as raw
use Rattle.imap_grammar.proofs.reader.FeedUnitReader.begin.Goals as goal

pub returns-clause-grows : goal.returns-clause-grows
returns-clause-grows c stream piece = units_first stream piece (raw.units_first stream piece)
