use Rattle.std.proofs.Common.{◌≡◌, ◌||◌, drop, length, ◌+◌}
use Rattle.mail_tree.specs.Walks.{leads}
use Rattle.mail_tree.specs.Matching.{any_passes}
use Rattle.mail_tree.proofs.matching.leads_from.Given as goal

abbrev pub invariant-loop-wanted : goal.invariant-loop-wanted
invariant-loop-wanted l = record {
  same : length l.row ≡ length l.text + 1;
  left : (l.found || any_passes l.row (leads (drop l.wanted-index l.pattern)) l.text) ≡ any_passes l.fn.row (leads l.pattern) l.text;
}
