use Rattle.std.proofs.lemmas.Option.{slice_get_past}
use Rattle.imap_session.proofs.Fetching.{line_put, none_there, puts_stopped}
use Rattle.imap_session.proofs.ItemTexts.{found_at}
use Rattle.imap_session.proofs.commands.fetch_line.put_line.Goals as goal

pub returns-in_default-clause-puts : goal.returns-in_default-clause-puts
returns-in_default-clause-puts g c texts = none_there texts _ _ _ c.args.looking.now.infos.now c.args.place _ _ (slice_get_past c.args.looking.now.infos.now c.args.place c.in_default.ensures.lookup.3)

pub returns-in-Ok-clause-puts : goal.returns-in-Ok-clause-puts
returns-in-Ok-clause-puts g c texts =
    let l = c.args.looking.now in
    line_put texts l.items.now l.words.now l.recent.now l.infos.now c.args.place c.in-Some.info.now _ _ _ _ _ _
    (found_at l.infos.now c.args.place c.in-Some.info.now c.in-Some.ensures.lookup.3.0 c.in-Some.ensures.lookup.1) (c.in-Ok.ensures (texts c.args.place)) c.put.ensures.puts

pub returns-in-Err-clause-puts : goal.returns-in-Err-clause-puts
returns-in-Err-clause-puts g c texts = puts_stopped _ _ _ _
