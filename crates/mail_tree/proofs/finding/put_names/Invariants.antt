use Rattle.std.proofs.Common.{drop, false}
use Rattle.mail_tree.proofs.Found.{Reaches}
use Rattle.mail_tree.proofs.finding.put_names.Given as goal

abbrev pub invariant-loop-name : goal.invariant-loop-name
invariant-loop-name l = Reaches false l.pattern (drop l.name-index l.names) l.names l.fn.found.entries l.found.entries
