use Rattle.std.proofs.Common.{◌≡◌, take}
use Rattle.mail_types.specs.Opening.{uids_of}
use Rattle.mail_types.proofs.opening.uids_of.Given as goal

abbrev pub invariant-loop-message : goal.invariant-loop-message
invariant-loop-message l = l.uids.items ≡ uids_of (take l.message-index l.records)
