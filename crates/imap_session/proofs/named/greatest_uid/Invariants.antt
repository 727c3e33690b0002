use Rattle.std.proofs.Common.{◌≡◌, max, map, drop}
use Rattle.mail_types.specs.Opening.{greatest}
use Rattle.store_trait.specs.declared.store.Info.{Info}
use Rattle.imap_session.proofs.named.greatest_uid.Given as goal

abbrev pub invariant-loop-info : goal.invariant-loop-info
invariant-loop-info l = max l.most (greatest (map (λ (i : Info). i.uid) (drop l.info-index l.infos))) ≡ greatest (map (λ (i : Info). i.uid) l.infos)
