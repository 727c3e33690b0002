use Rattle.std.proofs.Common.{◌≡◌, ◌++◌, drop}
use Rattle.mbx_store.specs.Bytes.{places_in}
use Rattle.mbx_store.proofs.writing.put_places.Given as goal

abbrev pub invariant-loop-piece : goal.invariant-loop-piece
invariant-loop-piece l = l.places.items ++ places_in (drop l.piece-index l.pieces) ≡ l.fn.places.items ++ places_in l.pieces
