use Rattle.std.proofs.Common.{◌∙◌, ap, map, true}
use Rattle.any_store.specs.Choice.{formats_of, chosen}
use Rattle.mail_tree.specs.declared.finding.Listed.{Listed as ListedEntry}
use Rattle.imap_reply.specs.declared.reply.Reply.TheVariants.{Done}
use Rattle.imap_reply.specs.declared.text.Words.TheVariants.{Lsub}
use Rattle.imap_session.specs.Lines.{reply_lines}
use Rattle.imap_session.specs.Listed.{lsub, name_line}
use Rattle.imap_session.proofs.ListedNames.{shows_does, lsub_shows}
use Rattle.imap_session.proofs.commands.lsub.answer.Goals as goal

pub returns-clause-does : goal.returns-clause-does
returns-clause-does g c =
    let formats = formats_of g.S.Store.forms chosen in
    let session = c.args.session.now in
    let old = g.H.Files.history c.args.host.now in
    let lines = c.in_ok-lines.lines.items in
    let said = c.as_slice-2.result.now in
    shows_does formats g.S.Store.view session (record { choice = g.met.S.AnyMailbox.is_choice; reads = λ d. g.met.S.AnyMailbox.all_read d }) (lsub c.args.tag c.args.reference.now c.args.pattern.now)
    (reply_lines said) (Done c.args.tag Lsub) c.args.out.now c.put_replies.new.out c.put_replies.result c.ends_with.result old (g.H.Files.history c.lsub.new.files) (g.H.Files.history c.put_replies.new.host)
    c.in-Ok.ensures.history
    (lsub_shows formats g.S.Store.view session c.args.tag c.args.reference.now c.args.pattern.now c.in-Ok.names.items said c.as_str-root.result.now c.as_str-root.ensures.value
    (c.as_slice-2.ensures.value ∙ c.in_ok-lines.ensures ∙ ap (map (λ (entry : ListedEntry). name_line true (record { name = entry.name; directory = entry.directory }))) c.as_slice.ensures.value)
    old c.in-Ok.ensures.listed)
    c.requires.empty c.put_replies.ensures.puts c.ends_with.ensures
