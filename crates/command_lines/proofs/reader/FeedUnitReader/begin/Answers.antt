use Rattle.command_lines.proofs.Streams.{units_first}
use Rattle.command_lines.proofs.reader.FeedUnitReader.begin.Goals as goal

pub returns-clause-grows : goal.returns-clause-grows
returns-clause-grows c stream piece = let first = units_first piece stream in record { more = first.0; are_units = first.1 }
