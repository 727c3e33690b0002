use Rattle.std.proofs.Common.{◌≡◌, ◌≤◌, length}
use Rattle.mail_tree.specs.Subscriptions.{subscribed_in, whole_lines, with_lines}
use Rattle.mail_tree.proofs.subscriptions.names_in.Given as goal

abbrev pub invariant-loop-at : goal.invariant-loop-at
invariant-loop-at l = record {
  same : with_lines (whole_lines l.rest) l.names.keys ≡ subscribed_in l.text;
  short : length l.rest ≤ length l.text;
}

abbrev pub decreases-loop-at : goal.decreases-loop-at
decreases-loop-at l = length l.rest
