use Rattle.std.proofs.Common.{◌≡◌, ◌<◌, ◌^◌, ◌-◌, length, drop}
use Rattle.status_heads.specs.Numbered.{number_of_bits}
use Rattle.status_heads.proofs.numbered.number_of_bits.Given as goal

abbrev pub invariant-loop-behind : goal.invariant-loop-behind
invariant-loop-behind l = record {
  number : l.number ≡ number_of_bits (drop (length l.bits - l.behind) l.bits);
  small : l.number < 2 ^ l.behind;
}
