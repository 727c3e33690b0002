use Rattle.std.proofs.Common.{◌∙◌, ap, Some}
use Rattle.mbx_store.specs.Plans.{HasRoom, new_place, message_piece}
use Rattle.mbx_store.proofs.Planning.{pieces_made, end_made, added_made}
use Rattle.mbx_store.proofs.plan.added_pieces.Goals as goal

pub put_piece-requires-clause-room : goal.put_piece-requires-clause-room
put_piece-requires-clause-room c = c.message_piece-piece.ensures.room c.loop-place.invariant.short

pub loop-place-preserved : goal.loop-place-preserved
loop-place-preserved c = record {
  pieces = added_made c.args.names _ c.loop-place.pieces.items _ c.args.infos.now c.args.new.now c.loop-place.place c.loop-place.at _ _ _ c.message_piece-piece.result c.new_place.result c.requires.count c.loop-place-test.true (c.new_place.ensures.is ∙ ap new_place c.index-new-place.is) (c.message_piece-piece.ensures.is ∙ ap (message_piece c.loop-place.at c.args.names c.new_place.result) c.index-infos-place.is) c.in_ok-at.ensures.pieces c.in_ok-at.ensures.end c.loop-place.invariant.pieces;
  room = pieces_made HasRoom c.loop-place.pieces.items (Some c.message_piece-piece.result) _ c.in_ok-at.ensures.pieces c.loop-place.invariant.room c.in_ok-at.ensures.room;
  end = end_made c.args.start c.loop-place.pieces.items (Some c.message_piece-piece.result) _ _ _ c.in_ok-at.ensures.pieces c.loop-place.invariant.end c.in_ok-at.ensures.end;
  short = c.in_ok-at.ensures.short;
}
