use Rattle.std.proofs.Common.{drop, take, true}
use Rattle.mail_tree.specs.Names.{prefixes}
use Rattle.mail_tree.proofs.Found.{Reaches, above_from}
use Rattle.mail_tree.proofs.finding.put_above.Given as goal

abbrev pub invariant-loop-place : goal.invariant-loop-place
invariant-loop-place l = Reaches true l.pattern (above_from (take l.place l.text) (drop l.place l.text)) (prefixes l.text) l.fn.found.entries l.found.entries
