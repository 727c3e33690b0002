use Rattle.std.proofs.Common.{sym, ◌∙◌, [], ◌∷◌}
use Rattle.any_store.specs.Choice.{formats_of, chosen}
use Rattle.imap_reply.specs.declared.reply.Reply.TheVariants as reply
use Rattle.imap_reply.specs.declared.text.Words.TheVariants as words
use Rattle.imap_session.specs.Lines.{reply_line}
use Rattle.imap_session.specs.Status.{status}
use Rattle.imap_session.proofs.Askings.{says_lines, status_due}
use Rattle.imap_session.proofs.ByName.{none_happened, puts_now}
use Rattle.imap_session.proofs.Putting.{puts_reply}
use Rattle.imap_session.proofs.commands.status.answer.Goals as goal

pub returns-in-Err-clause-does : goal.returns-in-Err-clause-does
returns-in-Err-clause-does g c =
    none_happened (formats_of g.S.Store.forms chosen) _ _ _ _ _ _ _ c.requires.empty c.asked_line.ensures.history
    (status_due (formats_of g.S.Store.forms chosen) g.S.Store.view c.args.session.now c.args.tag c.args.name.now c.in-Some.name c.args.items.now (sym c.in_ok-name.ensures ∙ c.in-Some.is)
    c.in-Err.fault _ _ c.refused_by.ensures c.in-Err.ensures.refused)

pub returns-clause-does : goal.returns-clause-does
returns-clause-does g c =
    puts_now (formats_of g.S.Store.forms chosen) g.S.Store.view c.args.session.now c.args.session.now (status c.args.tag c.args.name.now c.args.items.now) (reply_line c.in-Ok.line ∷ []) (reply.Done c.args.tag words.Status)
    (record { choice = g.met.S.AnyMailbox.is_choice; reads = g.met.S.AnyMailbox.all_read }) c.args.out.now c.put.new.self c.put.result _ _ _ _
    (says_lines (formats_of g.S.Store.forms chosen) g.S.Store.view c.args.session.now c.args.tag c.args.name.now c.in-Some.name c.args.items.now (sym c.in_ok-name.ensures ∙ c.in-Some.is) c.in-Ok.line _ c.in-Ok.ensures.says)
    c.asked_line.ensures.history c.requires.empty (puts_reply c.in-Ok.line _ _ _ _ _ c.put.ensures.puts) c.ends_with.ensures
