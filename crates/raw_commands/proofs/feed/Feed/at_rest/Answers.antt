use Rattle.raw_commands.proofs.Pieces.{at_rest_where}
use Rattle.raw_commands.proofs.feed.Feed.at_rest.Goals as goal

pub returns : goal.returns
returns c stream taken =
    at_rest_where c.is_empty.result c.args.self.now.text.len c.args.self.now stream c.is_empty.ensures c.args.self.now.text.ok.0 taken
