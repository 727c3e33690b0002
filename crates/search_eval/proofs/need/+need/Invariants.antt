use Rattle.std.proofs.Common.{◌≡◌, map, drop}
use Rattle.search_eval.specs.Needs.{key_need, greater_need, all_needs}
use Rattle.search_eval.proofs.need.+need.Given as goal

abbrev pub invariant-all_needs-loop-key : goal.invariant-all_needs-loop-key
invariant-all_needs-loop-key l = greater_need l.all (all_needs (map key_need (drop l.key-index l.keys))) ≡ all_needs (map key_need l.keys)
