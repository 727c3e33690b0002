use Rattle.command_lines.specs.Stream.{unfinished}
use Rattle.command_lines.proofs.Kept.{none_left}
use Rattle.command_lines.proofs.feed.Feed.at_rest.Goals as goal

pub returns : goal.returns
returns c stream taken =
    let kept = c.args.self.now.kept in
    none_left c.is_empty.result kept.len kept.items (unfinished stream) c.is_empty.ensures kept.ok.0 taken.kept
