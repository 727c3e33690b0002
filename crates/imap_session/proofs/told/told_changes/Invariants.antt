use Rattle.std.proofs.Common.{◌≡◌, ◌++◌, drop}
use Rattle.imap_session.specs.Select.{told_from}
use Rattle.imap_session.proofs.told.told_changes.Given as goal

-- the changes so far, and those of the rest
abbrev pub invariant-loop-place : goal.invariant-loop-place
invariant-loop-place l = l.changes.items ++ told_from l.place (drop l.place l.infos) ≡ told_from 0 l.infos
