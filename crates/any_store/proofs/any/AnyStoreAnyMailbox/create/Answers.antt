use Rattle.std.proofs.Common.{sym, refl, subst}
use Rattle.mail_types.specs.declared.driver.Driver.TheVariants.{Unix as UnixDriver, Mbx as MbxDriver}
use Rattle.store_trait.specs.Promises.{Creates}
use Rattle.any_store.specs.Arms.{creates_all}
use Rattle.any_store.specs.Laws.{shares_unix, shares_mbx}
use Rattle.any_store.specs.Stores.{unix_forms, mbx_forms, all_forms, unix_view, mbx_view}
use Rattle.any_store.proofs.any.AnyStoreAnyMailbox.create.Goals as goal

pub returns-in-Ok-clause-created : goal.returns-in-Ok-clause-created
returns-in-Ok-clause-created g c =
    let view = unix_view c.in-Ok.store in
    let new = g.F.Files.history c.create.new.files in
    subst (λ d. Creates all_forms d c.args.path.now view c.args.fresh new) (sym c.in-Unix.is)
    (creates_all unix_forms all_forms UnixDriver c.args.path.now view c.args.fresh new (shares_unix UnixDriver refl) c.in-Ok.ensures.created)

pub returns-in-Ok-create-clause-created : goal.returns-in-Ok-create-clause-created
returns-in-Ok-create-clause-created g c =
    let view = mbx_view c.in-Ok-create.store in
    let new = g.F.Files.history c.create-in-Mbx.new.files in
    subst (λ d. Creates all_forms d c.args.path.now view c.args.fresh new) (sym c.in-Mbx.is)
    (creates_all mbx_forms all_forms MbxDriver c.args.path.now view c.args.fresh new (shares_mbx MbxDriver refl) c.in-Ok-create.ensures.created)
