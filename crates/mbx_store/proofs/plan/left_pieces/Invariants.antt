use Rattle.std.proofs.Common.{◌≡◌, ◌≤◌, ◌^◌, ◌++◌, drop}
use Rattle.std.specs.List.{AllByRecursion}
use Rattle.mbx_store.specs.Plans.{left_pieces, end_from, HasRoom}
use Rattle.mbx_store.proofs.plan.left_pieces.Given as goal

abbrev pub invariant-loop-old : goal.invariant-loop-old
invariant-loop-old l = record {
  pieces : l.pieces.items ++ left_pieces l.names l.at (drop l.old-index l.olds) l.rest ≡ left_pieces l.names 2048 l.olds l.infos;
  room : AllByRecursion HasRoom l.pieces.items;
  end : l.at ≡ end_from 2048 l.pieces.items;
  short : l.at ≤ 2 ^ 62;
}
