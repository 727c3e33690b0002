use Rattle.std.proofs.Common.{◌≡◌, ◌++◌, drop}
use Rattle.imap_session.specs.Names.{names_of}
use Rattle.imap_session.proofs.keywords.names_of.Given as goal

abbrev pub invariant-loop-name : goal.invariant-loop-name
invariant-loop-name l = l.given.items ++ names_of l.left (drop l.name-index l.names) ≡ names_of l.numbers l.names
