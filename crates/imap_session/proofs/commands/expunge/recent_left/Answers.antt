use Rattle.std.proofs.Common.{◌∙◌, subst}
use Rattle.imap_session.specs.Told.{HasSame}
use Rattle.imap_session.proofs.Expunging.{left_is}
use Rattle.imap_session.proofs.commands.expunge.recent_left.Goals as goal

pub returns : goal.returns
returns c =
    left_is (λ v. v.items) c.args.infos.now _ c.args.recent.now c.without.result
    (subst (HasSame c.in_ok-deleted-2.deleted) (c.as_slice.ensures.value ∙ c.in_ok-deleted.ensures) c.in_ok-deleted-2.ensures) c.without.ensures
