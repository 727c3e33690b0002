use Rattle.std.proofs.Common.{◌≡◌, true, take}
use Rattle.std.specs.List.{list_all}
use Rattle.looked_message.specs.Messages.{looked_at}
use Rattle.search_eval.specs.Keys.{key_holds}
use Rattle.search_eval.proofs.holds.+holds.Given as goal

abbrev pub invariant-all_hold-loop-key : goal.invariant-all_hold-loop-key
invariant-all_hold-loop-key l = record {
  same : l.text ≡ l.initial.text;
  all : list_all (key_holds l.largest (looked_at l.message)) (take l.key-index l.keys) ≡ true;
}
