use Rattle.std.proofs.Common.{◌≡◌, ◌++◌, drop}
use Rattle.imap_session.specs.Told.{deleted_uids}
use Rattle.imap_session.proofs.commands.expunge.deleted_uids.Given as goal

abbrev pub invariant-loop-info : goal.invariant-loop-info
invariant-loop-info l = l.uids.items ++ deleted_uids (drop l.info-index l.infos) ≡ deleted_uids l.infos
