use Rattle.std.proofs.Common.{◌≡◌, map, drop}
use Rattle.looked_message.specs.Messages.{looked_at}
use Rattle.search_eval.specs.Told.{key_told, both_told, all_told}
use Rattle.search_eval.proofs.told.+told.Given as goal

abbrev pub invariant-all_told-loop-key : goal.invariant-all_told-loop-key
invariant-all_told-loop-key l =
    both_told l.all (all_told (map (key_told l.largest (looked_at l.message)) (drop l.key-index l.keys)))
    ≡ all_told (map (key_told l.largest (looked_at l.message)) l.keys)
