use Rattle.std.proofs.Common.{◌≡◌, take, flat_map}
use Rattle.raw_commands.specs.Streams.{raw_units_of}
use Rattle.raw_commands.specs.Taken.{HasTaken}
use Rattle.raw_commands.proofs.feed.units_of_pieces.Given as goal

-- the pieces so far
abbrev pub invariant-loop-piece : goal.invariant-loop-piece
invariant-loop-piece l =
    let stream = flat_map (λ piece. piece.items) (take l.piece-index l.pieces) in
    record {
      taken : HasTaken l.feed stream;
      units : l.units.items ≡ raw_units_of stream;
    }
