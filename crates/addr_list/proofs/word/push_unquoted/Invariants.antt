use Rattle.std.proofs.Common.{◌≡◌, ◌++◌, drop}
use Rattle.addr_list.specs.Addresses.{unquoted, unquoted_from}
use Rattle.addr_list.proofs.word.push_unquoted.Given as goal

abbrev pub invariant-loop-byte : goal.invariant-loop-byte
invariant-loop-byte l = l.out.items ++ unquoted_from l.escaped (drop l.byte-index l.inner) ≡ l.fn.out.items ++ unquoted l.inner
