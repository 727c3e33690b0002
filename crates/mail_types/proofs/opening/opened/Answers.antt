use Rattle.std.proofs.Common.{arith}
use Rattle.std.proofs.lemmas.Grind.{common_steps}
use Rattle.mail_types.proofs.Mailboxes.{read_is_mailbox}
use Rattle.mail_types.proofs.opening.opened.Goals as goal

pub returns-clause-mailbox : goal.returns-clause-mailbox
returns-clause-mailbox c = read_is_mailbox c.args.contents c.args.fresh _ (grind (arith, common_steps)) c.requires (omega (arith, c.ranges.fresh.fits))
