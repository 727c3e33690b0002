use Rattle.std.proofs.Common.{◌++◌, sym, ◌∙◌, ap, drop, append_assoc, codes}
use Rattle.imap_reply.specs.Texts.{behind_spaces, system_flags, text_if}
use Rattle.imap_session.specs.Names.{names_of}
use Rattle.imap_session.proofs.ItemTexts.{behind_both, spaced_is}
use Rattle.imap_session.proofs.commands.fetch_line.flags_text.Goals as goal

pub returns : goal.returns
returns c =
    let flags = system_flags c.args.info.flags in
    let names = names_of c.args.info.words c.args.words.now in
    let recent = text_if c.args.recent (codes "\\Recent") in
    let inner = c.in_ok-add_if.ensures
    ∙ ap (λ l. l ++ behind_spaces recent) (c.in_ok-add_names.ensures ∙ ap (λ l. l ++ behind_spaces names) (c.in_ok-add_flags.ensures ∙ ap (λ l. l ++ behind_spaces flags) c.new-inner.ensures.items))
    ∙ append_assoc (behind_spaces flags) (behind_spaces names) (behind_spaces recent)
    ∙ ap (λ l. behind_spaces flags ++ l) (sym (behind_both names recent)) ∙ sym (behind_both flags (names ++ recent)) in
    c.from_vec.ensures ∙ c.in_ok-extend_from_slice-2.ensures.items
    ∙ ap (λ l. l ++ codes ")") (c.in_ok-extend_from_slice.ensures.items ∙ ap (λ l. l ++ c.without_first.result.now) c.in_ok-text.ensures.items)
    ∙ ap (λ l. codes "FLAGS (" ++ (l ++ codes ")")) (c.without_first.ensures ∙ ap (λ l. drop 1 l) (c.as_slice.ensures.value ∙ inner) ∙ spaced_is (flags ++ (names ++ recent)))
