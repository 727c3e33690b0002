use Rattle.std.proofs.Common.{◌+◌, length}
use Rattle.mail_tree.proofs.Matched.{none_take, copies, none_copied}
use Rattle.mail_tree.proofs.matching.leads.Goals as goal

pub leads_in-requires-clause-none : goal.leads_in-requires-clause-none
leads_in-requires-clause-none c = none_take (length c.args.text.now + 1) (copies 257) (none_copied 257)
