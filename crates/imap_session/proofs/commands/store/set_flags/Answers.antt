use Rattle.std.proofs.Common.{sym, subst, length}
use Rattle.any_store.specs.Choice.{formats_of, chosen}
use Rattle.imap_session.specs.Committed.{Commits}
use Rattle.mail_types.specs.Drivers.{keeps_of}
use Rattle.mail_types.specs.Lists.{RiseBelow}
use Rattle.store_trait.specs.Changes.{CanChange}
use Rattle.imap_session.proofs.Storing.{told_can}
use Rattle.imap_session.proofs.commands.store.set_flags.Goals as goal

pub commit-requires-clause-can : goal.commit-requires-clause-can
commit-requires-clause-can g c =
    let v = g.S.Store.view c.args.open.now.store in
    subst (λ change. CanChange (keeps_of v.driver) v.summary.words (length v.summary.infos) change) (sym c.in-Ok.ensures.is)
    (told_can c.args.mode c.args.given.now v.driver v.summary.words c.args.infos.now c.args.places.now (length v.summary.infos) c.change_of.ensures.few
    (subst (λ infos. RiseBelow 0 (length infos) c.args.places.now) c.requires.infos c.requires.rise))

pub returns-in-Ok-clause-commits : goal.returns-in-Ok-clause-commits
returns-in-Ok-clause-commits g c state s recent here =
    subst (λ change. Commits (formats_of g.S.Store.forms chosen) state s recent change (g.S.Store.view c.commit.new.store) c.commit.result (g.F.Files.history c.args.files.now) (g.F.Files.history c.commit.new.files))
    c.in-Ok.ensures.is (c.commit.ensures.commits state s recent here)
