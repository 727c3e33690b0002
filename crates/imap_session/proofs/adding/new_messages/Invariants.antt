use Rattle.std.proofs.Common.{◌≡◌, map}
use Rattle.imap_session.specs.Adding.{new_message}
use Rattle.imap_session.proofs.adding.new_messages.Given as goal

abbrev pub invariant-loop-message : goal.invariant-loop-message
invariant-loop-message l = l.new.items ≡ map (new_message l.told l.names) l.yielded
