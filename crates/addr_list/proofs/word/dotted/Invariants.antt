use Rattle.std.proofs.Common.{◌≡◌, drop, map}
use Rattle.addr_list.specs.Scanning.{token_of}
use Rattle.addr_list.specs.Addresses.{behind, more_runs, dotted_of}
use Rattle.addr_list.proofs.word.dotted.Given as goal

abbrev pub invariant-loop-token : goal.invariant-loop-token
invariant-loop-token l = behind l.joined.items (more_runs l.dot (map token_of (drop l.token-index l.tokens))) ≡ dotted_of (map token_of l.tokens)
