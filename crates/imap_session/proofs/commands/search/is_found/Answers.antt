use Rattle.std.proofs.Common.{◌≡◌, ◌+◌, ◌∙◌, sym, ap, nat_eq}
use Rattle.std.specs.List.{list_any}
use Rattle.file_model.specs.Disk.{seen}
use Rattle.file_model.proofs.Runs.{now_weaker}
use Rattle.looked_message.specs.Messages.{with_text}
use Rattle.search_eval.specs.Keys.{key_holds}
use Rattle.store_trait.specs.Views.{text_at}
use Rattle.imap_session.specs.Search.{told_at}
use Rattle.imap_session.proofs.Searches.{now_each}
use Rattle.imap_session.proofs.commands.search.is_found.Goals as goal

pub returns-in-Some-clause-is : goal.returns-in-Some-clause-is
returns-in-Some-clause-is g c =
    let key = c.args.searching.now.key.now in
    let most = c.args.searching.now.largest in
    now_each _ (g.F.Files.history c.args.files.now) (λ w.
    sym (c.in-Some.ensures.holds (text_at ((g.S.Store.view c.args.store.now).mailbox (seen w.disk)) c.args.place))
    ∙ ap (λ m. key_holds most (with_text m (text_at ((g.S.Store.view c.args.store.now).mailbox (seen w.disk)) c.args.place)) key) c.looked_at-looked.ensures)

pub returns-in-Ok-clause-is : goal.returns-in-Ok-clause-is
returns-in-Ok-clause-is g c =
    let key = c.args.searching.now.key.now in
    let most = c.args.searching.now.largest in
    now_weaker (λ w. c.read_whole.new.buf.items ≡ text_at ((g.S.Store.view c.args.store.now).mailbox (seen w.disk)) c.args.place) _
    (λ w is. c.in-Ok.ensures ∙ ap (λ m. key_holds most m key) c.looked_at-looked-2.ensures
    ∙ ap (λ text. key_holds most (told_at (c.args.place + 1) c.args.info (list_any (nat_eq c.args.info.uid) c.args.searching.now.recent) c.args.searching.now.words.items text) key) (c.as_slice.ensures.value ∙ is))
    (g.F.Files.history c.args.files.now) c.in_ok-read_whole.ensures.gives
