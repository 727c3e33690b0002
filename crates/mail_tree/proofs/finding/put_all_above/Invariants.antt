use Rattle.std.proofs.Common.{drop, true}
use Rattle.std.specs.List.{flat_map}
use Rattle.mail_tree.specs.Names.{prefixes}
use Rattle.mail_tree.proofs.Found.{Reaches}
use Rattle.mail_tree.proofs.finding.put_all_above.Given as goal

abbrev pub invariant-loop-name : goal.invariant-loop-name
invariant-loop-name l = Reaches true l.pattern (flat_map prefixes (drop l.name-index l.names)) (flat_map prefixes l.names) l.fn.found.entries l.found.entries
