use Rattle.std.proofs.Common.{◌++◌, ◌∙◌, sym, ap}
use Rattle.std.proofs.lemmas.List.{append-nil}
use Rattle.std.proofs.lemmas.Option.{slice_get_past}
use Rattle.imap_session.specs.Store.{stored_flags, stored_words, real_change, change_of}
use Rattle.imap_session.proofs.ItemTexts.{found_at}
use Rattle.imap_session.proofs.commands.store_change.add_change.Goals as goal

pub returns-in_default : goal.returns-in_default
returns-in_default c given names flags words =
    sym (append-nil c.args.changes.now.items)
    ∙ ap (λ o. c.args.changes.now.items ++ change_of c.args.setting.mode given names c.args.place o) (sym (slice_get_past c.args.infos.now c.args.place c.in_default.ensures.lookup.3))

pub returns : goal.returns
returns c given names flags words =
    let s = c.args.setting in
    let info = c.in-Some.info.now in
    let items = c.args.changes.now.items in
    c.in_ok-add_real.ensures
    ∙ ap (λ f. items ++ real_change c.args.place f c.stored_words-words.result info) (c.stored_flags-flags.ensures ∙ ap (λ f. stored_flags s.mode f info.flags) flags)
    ∙ ap (λ w. items ++ real_change c.args.place (stored_flags s.mode given.flags info.flags) w info) (c.stored_words-words.ensures ∙ ap (λ w. stored_words s.mode w info.words) words)
    ∙ ap (λ o. items ++ change_of s.mode given names c.args.place o) (sym (found_at c.args.infos.now c.args.place info c.in-Some.ensures.lookup.3.0 c.in-Some.ensures.lookup.1))
