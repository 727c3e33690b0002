use Rattle.std.proofs.Common.{◌≡◌, drop}
use Rattle.mail_types.specs.Mailboxes.{uids_rise}
use Rattle.mail_types.proofs.mailbox.uids_rise.Given as goal

abbrev pub invariant-loop-message : goal.invariant-loop-message
invariant-loop-message l = uids_rise l.above (drop l.message-index l.records) ≡ uids_rise 0 l.records
