use Rattle.std.proofs.Common.{◌≡◌, ◌++◌, drop}
use Rattle.imap_session.specs.Expunge.{deleted_from}
use Rattle.imap_session.proofs.commands.expunge.deleted_places.Given as goal

abbrev pub invariant-loop-place : goal.invariant-loop-place
invariant-loop-place l = l.places.items ++ deleted_from l.place (drop l.place l.infos) ≡ deleted_from 0 l.infos
