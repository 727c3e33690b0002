use Rattle.std.proofs.Common.{◌≡◌, ◌≤◌, ◌+◌, ◌*◌, drop}
use Rattle.mbx_store.specs.Plans.{infos_size}
use Rattle.mbx_store.proofs.layout.written_length.Given as goal

abbrev pub invariant-loop-info : goal.invariant-loop-info
invariant-loop-info l = record {
  is : l.long + infos_size (drop l.info-index l.infos) ≡ 2048 + infos_size l.infos;
  short : l.long ≤ 2048 + 4294967387 * l.info-index;
}
