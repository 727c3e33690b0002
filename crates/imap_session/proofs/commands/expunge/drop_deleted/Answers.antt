use Rattle.std.proofs.Common.{subst, sym, ◌∙◌, length}
use Rattle.mail_types.specs.Lists.{RiseBelow}
use Rattle.imap_session.specs.Expunge.{deleted_from}
use Rattle.imap_session.proofs.Places.{all_rise}
use Rattle.imap_session.proofs.commands.expunge.drop_deleted.Goals as goal

pub commit-requires-clause-can : goal.commit-requires-clause-can
commit-requires-clause-can g c =
    subst (λ places. RiseBelow 0 (length (g.S.Store.view c.args.open.now.store).summary.infos) places) (sym (c.of.ensures ∙ c.in-Ok-deleted_places.ensures))
    (subst (λ infos. RiseBelow 0 (length infos) (deleted_from 0 c.args.infos.now)) c.requires.infos (all_rise c.args.infos.now))
