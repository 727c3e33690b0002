use Rattle.any_store.specs.Choice.{formats_of, chosen}
use Rattle.std.proofs.Common.{◌∙◌}
use Rattle.imap_session.proofs.Selecting.{tells_change}
use Rattle.imap_session.proofs.commands.select.make_old.Goals as goal

pub returns-clause-tells : goal.returns-clause-tells
returns-clause-tells g c state s read_only here =
    tells_change (formats_of g.S.Store.forms chosen) state s (g.S.Store.view c.args.open.now.store) (g.S.Store.view c.commit.new.store) (g.met.S.Store.is_view c.args.open.now.store) (read_only ∙ c.if-open.false) c.in-Ok.change c.in-Ok.ensures.value
    c.commit.result _ _ here c.commit.ensures.files (λ recent. c.commit.ensures.commits state s recent here)
