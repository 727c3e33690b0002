use Rattle.std.proofs.Common.{◌∙◌, ◌≡◌, ap, sym, subst}
use Rattle.file_model.specs.Disk.{seen}
use Rattle.file_model.specs.Histories.{Now}
use Rattle.store_trait.specs.Views.{text_at}
use Rattle.imap_session.specs.Names.{names_of}
use Rattle.imap_session.proofs.Copying.{read_here}
use Rattle.imap_session.proofs.commands.copy.brought_at.Goals as goal

pub returns-clause-gives : goal.returns-clause-gives
returns-clause-gives g c =
    let was = g.S.Store.view c.args.store.now in
    let h = g.F.Files.history c.args.files.now in
    read_here g.S.Store.forms was c.args.place c.info-info.result c.from_vec.result c.in-Ok.names h (g.met.S.Store.is_view c.args.store.now) c.info-info.ensures
    (c.in-Ok.ensures ∙ ap (names_of c.info-info.result.words) c.words.ensures.are) c.in_ok-read_whole.ensures.told
    (subst (λ t. Now h (λ w. t ≡ text_at (was.mailbox (seen w.disk)) c.args.place)) (sym c.from_vec.ensures) c.in_ok-read_whole.ensures.gives)
