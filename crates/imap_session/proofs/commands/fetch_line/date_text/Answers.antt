use Rattle.std.proofs.Common.{◌++◌, ◌∙◌, ap, refl, codes}
use Rattle.imap_session.proofs.ItemTexts.{date_written}
use Rattle.imap_session.proofs.commands.fetch_line.date_text.Goals as goal

pub returns : goal.returns
returns c =
    c.from_vec.ensures ∙ c.in_ok-extend_from_slice-2.ensures.items
    ∙ ap (λ l. l ++ codes "\"") (c.in_ok-extend_from_slice.ensures.items ∙ ap (λ l. l ++ c.put_imap_date.new.buf) c.in_ok-text.ensures.items)
    ∙ ap (λ l. codes "INTERNALDATE \"" ++ (l ++ codes "\"")) (date_written _ _ c.put_imap_date.new.buf c.put_imap_date.ensures.text c.put_imap_date.ensures.width refl)
