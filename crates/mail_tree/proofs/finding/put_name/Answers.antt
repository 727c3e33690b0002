use Rattle.std.proofs.Common.{◌∙◌}
use Rattle.mail_tree.proofs.Found.{put_one}
use Rattle.mail_tree.proofs.finding.put_name.Goals as goal

pub returns : goal.returns
returns c m same = c.in_ok-insert.ensures.entries ∙ put_one m c.args.found.now.entries c.args.name c.args.directory same
