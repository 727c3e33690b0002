use Rattle.std.proofs.Common.{◌≡◌, ◌++◌, drop}
use Rattle.imap_session.specs.Sets.{named_from, largest}
use Rattle.imap_session.proofs.named.named_places.Given as goal

abbrev pub invariant-loop-place : goal.invariant-loop-place
invariant-loop-place l = l.places.items ++ named_from l.uid (largest l.uid l.infos) l.set l.place (drop l.place l.infos) ≡ named_from l.uid (largest l.uid l.infos) l.set 0 l.infos
