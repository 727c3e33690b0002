use Rattle.std.proofs.Common.{◌∙◌, ap, subst}
use Rattle.imap_session.specs.Putting.{PutsLines}
use Rattle.imap_session.specs.Store.{flag_items}
use Rattle.imap_session.specs.Told.{told_lines}
use Rattle.imap_session.proofs.Fetching.{puts_stopped}
use Rattle.imap_session.proofs.commands.store.put_flags.Goals as goal

pub returns-in_default-clause-puts : goal.returns-in_default-clause-puts
returns-in_default-clause-puts g c texts = puts_stopped _ _ _ _

pub returns-in_default-flag_items-clause-puts : goal.returns-in_default-flag_items-clause-puts
returns-in_default-flag_items-clause-puts g c texts = puts_stopped _ _ _ _

pub returns-clause-puts : goal.returns-clause-puts
returns-clause-puts g c texts =
    let places = c.args.places.now in
    let told = (g.S.Store.view c.args.open.now.store).summary in
    subst (λ lines. PutsLines lines c.args.out.now c.put_lines.new.out c.put_lines.result (g.H.Files.history c.args.host.now) (g.H.Files.history c.put_lines.new.host))
    (ap (λ items. told_lines texts items c.words.result.now c.as_slice-2.result.now c.as_slice.result.now places) (c.as_slice-3.ensures.value ∙ c.in-Ok-flag_items.ensures.are)
    ∙ ap (λ words. told_lines texts (flag_items c.args.uid) words c.as_slice-2.result.now c.as_slice.result.now places) c.words.ensures.are
    ∙ ap (λ recent. told_lines texts (flag_items c.args.uid) told.words recent c.as_slice.result.now places) c.as_slice-2.ensures
    ∙ ap (λ infos. told_lines texts (flag_items c.args.uid) told.words c.args.open.now.recent infos places) (c.as_slice.ensures.value ∙ c.in-Ok.ensures.are))
    (c.put_lines.ensures.puts texts)
