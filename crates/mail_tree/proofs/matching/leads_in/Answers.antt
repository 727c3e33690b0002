use Rattle.std.proofs.Common.{◌∙◌}
use Rattle.mail_tree.specs.Walks.{leads}
use Rattle.mail_tree.proofs.Matched.{row_starts}
use Rattle.mail_tree.proofs.matching.leads_in.Goals as goal

pub returns : goal.returns
returns c = c.leads_from.ensures ∙ row_starts c.args.row.now (leads c.args.pattern.now) c.args.text.now c.requires.length c.requires.none
