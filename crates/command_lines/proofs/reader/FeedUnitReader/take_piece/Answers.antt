use Rattle.command_lines.proofs.reader.FeedUnitReader.take_piece.Goals as goal

pub returns-clause-grows : goal.returns-clause-grows
returns-clause-grows c stream = let first = c.take.ensures.first stream in record { more = first.0; are_units = first.1 }
