use Rattle.std.proofs.Common.{◌∙◌}
use Rattle.mail_tree.proofs.Walking.{below_root}
use Rattle.mail_tree.proofs.listing.behind.Goals as goal

pub returns : goal.returns
returns c name whole = below_root c.args.root.now name c.as_bytes.result.now (c.as_bytes.ensures.value ∙ whole)
