use Rattle.mbx_store.specs.Plans.{HasRoom}
use Rattle.mbx_store.proofs.Planning.{pieces_made, end_made, left_made}
use Rattle.mbx_store.proofs.plan.left_pieces.Goals as goal

pub put_piece-requires-clause-room : goal.put_piece-requires-clause-room
put_piece-requires-clause-room c = c.next_piece.ensures.room c.loop-old.invariant.short

pub loop-old-preserved : goal.loop-old-preserved
loop-old-preserved c = record {
  pieces = left_made c.args.names _ c.loop-old.pieces.items _ c.args.olds.now c.loop-old.old-index c.loop-old.at _ _ c.next_piece.result c.loop-old.rest.now _ c.loop-old-test.true c.next_piece.ensures.is c.in_ok-at.ensures.pieces c.in_ok-at.ensures.end c.behind-rest.ensures c.loop-old.invariant.pieces;
  room = pieces_made HasRoom c.loop-old.pieces.items c.next_piece.result _ c.in_ok-at.ensures.pieces c.loop-old.invariant.room c.in_ok-at.ensures.room;
  end = end_made 2048 c.loop-old.pieces.items c.next_piece.result _ _ _ c.in_ok-at.ensures.pieces c.loop-old.invariant.end c.in_ok-at.ensures.end;
  short = c.in_ok-at.ensures.short;
}
