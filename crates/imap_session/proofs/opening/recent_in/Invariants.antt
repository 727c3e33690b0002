use Rattle.std.proofs.Common.{◌≡◌, ◌++◌, map, drop}
use Rattle.store_trait.specs.declared.store.Info.{Info as Message}
use Rattle.imap_session.specs.Select.{unseen_before}
use Rattle.imap_session.proofs.opening.recent_in.Given as goal

-- the UIDs so far, and those of the rest
abbrev pub invariant-loop-info : goal.invariant-loop-info
invariant-loop-info l = l.recent.items ++ map (λ (i : Message). i.uid) (unseen_before (drop l.info-index l.infos)) ≡ map (λ (i : Message). i.uid) (unseen_before l.infos)
