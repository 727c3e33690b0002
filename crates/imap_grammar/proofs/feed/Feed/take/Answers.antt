use Rattle.imap_grammar.proofs.Feeds.{units_first}
use Rattle.raw_commands.proofs.Pieces as raw
use Rattle.imap_grammar.proofs.feed.Feed.take.Goals as goal

pub returns-then-self-clause-first : goal.returns-then-self-clause-first
returns-then-self-clause-first c stream = units_first stream c.args.piece.now (raw.units_first stream c.args.piece.now)

pub returns-clause-first : goal.returns-clause-first
returns-clause-first c stream = units_first stream c.args.piece.now (raw.units_first stream c.args.piece.now)
