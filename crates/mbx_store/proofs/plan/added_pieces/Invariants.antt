use Rattle.std.proofs.Common.{◌≡◌, ◌≤◌, ◌^◌, ◌++◌, drop}
use Rattle.std.specs.List.{AllByRecursion}
use Rattle.mbx_store.specs.Plans.{added_pieces, end_from, HasRoom}
use Rattle.mbx_store.proofs.plan.added_pieces.Given as goal

abbrev pub invariant-loop-place : goal.invariant-loop-place
invariant-loop-place l = record {
  pieces : l.pieces.items ++ added_pieces l.names l.at (drop l.place l.infos) (drop l.place l.new) ≡ added_pieces l.names l.start l.infos l.new;
  room : AllByRecursion HasRoom l.pieces.items;
  end : l.at ≡ end_from l.start l.pieces.items;
  short : l.at ≤ 2 ^ 62;
}
