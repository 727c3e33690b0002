use Rattle.std.proofs.Common.{rules}
use Rattle.mbx_store.proofs.WriteCode.{pieces_more, pieces_end}
use Rattle.mbx_store.proofs.writing.put_pieces.Goals as goal

pub loop-piece-preserved : goal.loop-piece-preserved
loop-piece-preserved g c = record {
  bytes = pieces_more c.args.path.now _ c.loop-piece.out.items _ c.args.pieces.now c.loop-piece.piece-index _ c.piece-item.result _ _ c.loop-piece.invariant.history c.loop-piece-test.true c.piece-item.is c.loop-piece.invariant.bytes c.in_ok-put_piece.ensures.bytes;
  history = search rules;
  counts = search rules;
  file = search rules;
}

pub returns-clause-bytes : goal.returns-clause-bytes
returns-clause-bytes g c = pieces_end c.args.path.now _ c.loop-piece.out.items c.args.pieces.now c.loop-piece.piece-index _ c.loop-piece-test.false c.loop-piece.invariant.bytes
