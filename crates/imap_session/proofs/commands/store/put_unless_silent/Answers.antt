use Rattle.std.proofs.Common.{[], sym, subst, if◌then◌else◌}
use Rattle.imap_session.specs.Putting.{PutsLines}
use Rattle.imap_session.specs.Store.{flag_items}
use Rattle.imap_session.specs.Told.{told_lines}
use Rattle.imap_session.proofs.commands.store.put_unless_silent.Goals as goal

pub returns-clause-puts : goal.returns-clause-puts
returns-clause-puts g c texts =
    let told = (g.S.Store.view c.args.open.now.store).summary in
    subst (λ b. PutsLines (if b then [] else told_lines texts (flag_items c.args.uid) told.words c.args.open.now.recent told.infos c.args.places.now) c.args.out.now c.put_flags.new.out c.put_flags.result
    (g.H.Files.history c.args.host.now) (g.H.Files.history c.put_flags.new.host)) (sym c.if-silent.false) (c.put_flags.ensures.puts texts)
