use Rattle.std.proofs.Common.{◌≡◌, ◌≤◌, false, drop}
use Rattle.addr_list.specs.Scanning.{comment_len}
use Rattle.addr_list.proofs.Widths.{ahead}
use Rattle.addr_list.proofs.span.comment_length.Given as goal

abbrev pub invariant-loop-at : goal.invariant-loop-at
invariant-loop-at l = record {
  width : ahead l.at (comment_len l.escaped l.depth (drop l.at l.text)) ≡ comment_len false 0 l.text;
  small : l.depth ≤ l.at;
}
