use Rattle.std.proofs.Common.{◌≡◌, drop}
use Rattle.imap_session.specs.Names.{grown}
use Rattle.imap_session.proofs.keywords.grown.Given as goal

abbrev pub invariant-loop-name : goal.invariant-loop-name
invariant-loop-name l = grown l.room l.next.items (drop l.name-index l.given) ≡ grown l.room l.names l.given
