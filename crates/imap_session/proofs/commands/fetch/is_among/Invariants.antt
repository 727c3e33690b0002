use Rattle.std.proofs.Common.{◌≡◌, drop}
use Rattle.imap_session.specs.Fetch.{asks}
use Rattle.imap_session.proofs.commands.fetch.is_among.Given as goal

abbrev pub invariant-loop-other : goal.invariant-loop-other
invariant-loop-other l = asks (drop l.other-index l.items) l.item ≡ asks l.items l.item
