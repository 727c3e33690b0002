use Rattle.std.proofs.Common.{◌≡◌, ◌++◌, drop}
use Rattle.mail_tree.specs.Subscriptions.{subscription_text}
use Rattle.mail_tree.proofs.subscriptions.list_text.Given as goal

abbrev pub invariant-loop-name : goal.invariant-loop-name
invariant-loop-name l = l.text.items ++ subscription_text (drop l.name-index l.names) ≡ subscription_text l.names
