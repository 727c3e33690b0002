use Rattle.std.proofs.Common.{◌≡◌, false, drop}
use Rattle.addr_list.specs.Scanning.{quotes_len}
use Rattle.addr_list.proofs.Widths.{ahead}
use Rattle.addr_list.proofs.span.quotes_length.Given as goal

abbrev pub invariant-loop-at : goal.invariant-loop-at
invariant-loop-at l = ahead l.at (quotes_len l.escaped (drop l.at l.text)) ≡ quotes_len false l.text
